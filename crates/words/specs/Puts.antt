-- What the functions that write the array of a net leave in it.
use Rattle.std.specs.Prelude.{◌≡◌, Bool, true, List, map, ℕ, ◌+◌, ◌*◌, ◌<◌, get_or}
use Rattle.laws.specs.Basic.{all, from}
use Rattle.rules.specs.Tree.{Layer}
use Rattle.rules.specs.Bytes.{max_layers, buffer_tag, number, layer_size, kind_at, costs_at, is_costs, layer_at, is_layer, driver_at, is_driver}
use Rattle.words.specs.declared.Node.{Node}
use Rattle.words.specs.Words.{rows_at, node_row, costs_from, cell, record_in, costs_in, layer_in, layers_in, driver_in}

-- three numbers from place i on, all others as they were
pub record Three (old new : List ℕ) (i a b c : ℕ) : Type 0 where
  pub first : get_or new i 0 ≡ a
  pub second : get_or new (i + 1) 0 ≡ b
  pub third : get_or new (i + 2) 0 ≡ c
  pub lower : (k : ℕ) → k < i → get_or new k 0 ≡ get_or old k 0

-- the record of a node of this tag with L layers whose payload starts at i: all of the node but its costs
unfoldable pub record_at : List ℕ → ℕ → ℕ → ℕ → Node
record_at bs L tag i = record { parent = number bs i 2; len = number bs (i + 2) 2; kind = kind_at bs tag (i + 4 + 4 * L) }

-- it in row j, all before that row as it was
pub record RecordPut (bs : List ℕ) (L tag i : ℕ) (old new : List ℕ) (j : ℕ) : Type 0 where
  pub is : record_in new j ≡ record_at bs L tag i
  pub lower : (k : ℕ) → k < node_row j → get_or new k 0 ≡ get_or old k 0

-- the costs from i on in row j as far as they are in their range, and whether all are
pub record CostsPut (bs : List ℕ) (L i : ℕ) (old new : List ℕ) (j : ℕ) (r : Bool) : Type 0 where
  pub answer : r ≡ is_costs (costs_at bs L i)
  pub are : r ≡ true → costs_in new L j ≡ costs_at bs L i
  pub lower : (k : ℕ) → k < node_row j + costs_from → get_or new k 0 ≡ get_or old k 0

-- both: the node of this tag whose payload starts at i in row j, all before that row as it was
pub record NodePut (bs : List ℕ) (L tag i : ℕ) (old new : List ℕ) (j : ℕ) (r : Bool) : Type 0 where
  pub answer : r ≡ is_costs (costs_at bs L (i + 4))
  pub is : record_in new j ≡ record_at bs L tag i
  pub costs-are : r ≡ true → costs_in new L j ≡ costs_at bs L (i + 4)
  pub lower : (k : ℕ) → k < node_row j → get_or new k 0 ≡ get_or old k 0

-- the layer that stands at i in a field of this tag as layer l, the other layers as they were, and whether its numbers are in their ranges
pub record LayerPut (bs : List ℕ) (tag i : ℕ) (old new : List ℕ) (l : ℕ) (r : Bool) : Type 0 where
  pub answer : r ≡ is_layer (layer_at bs tag i)
  pub is : layer_in new l ≡ layer_at bs tag i
  pub others : (m : ℕ) → m < max_layers → (m ≡ l → ⊥) → layer_in new m ≡ layer_in old m

-- the L layers from i on, in a field of this tag
unfoldable pub layers_from : List ℕ → ℕ → ℕ → ℕ → List Layer
layers_from bs tag i L = map (λ k. layer_at bs tag (i + layer_size tag * k)) (from 0 L)

-- they as far as they are in their ranges, and whether all are
pub record LayersPut (bs : List ℕ) (tag L i : ℕ) (new : List ℕ) (r : Bool) : Type 0 where
  pub answer : r ≡ all (map is_layer (layers_from bs tag i L))
  pub are : r ≡ true → layers_in new L ≡ layers_from bs tag i L

-- the driver that stands at i and the count of layers in row 0, the layers as they were
pub record DriverPut (bs : List ℕ) (L i : ℕ) (old new : List ℕ) (r : Bool) : Type 0 where
  pub answer : r ≡ is_driver (driver_at bs i)
  pub tagged : cell new 0 0 ≡ buffer_tag
  pub layered : cell new 0 2 ≡ L
  pub is : driver_in new ≡ driver_at bs i
  pub lower : (k : ℕ) → k < rows_at → get_or new k 0 ≡ get_or old k 0
