-- A net in one array of numbers of at most 32 bits, as reading leaves it and everything above takes it. First the layers: number l is the unit resistance
-- of layer l, number 16 + l its unit capacitance, number 32 + l its via resistance. Then rows of 22 numbers. Row j is node j: its tag, its parent, the length
-- of the edge to it, its own three words, and the edge's cost on each layer. Row 0 is the driver's: the tag of a buffer, the count of nodes after it, the count
-- of layers, 0, gate resistance, intrinsic delay, and the two halves of its arrival time.
use Rattle.std.specs.Prelude.{◌≡◌, Bool, true, List, map, ℕ, ◌+◌, ◌*◌, ◌≤◌, eqb, length, get_or, if◌then◌else◌}
use Rattle.laws.specs.Basic.{from}
use Rattle.rules.specs.Tree as tree
use Rattle.rules.specs.Bytes.{max_layers, max_nodes, steiner_tag, buffer_tag, signed}
use Rattle.rules.specs.declared.Kind.{Kind}
use Rattle.rules.specs.declared.Kind.TheVariants.{Steiner, Buffer, Sink}
use Rattle.words.specs.declared.Node.{Node}

-- where the unit capacitances begin
abbrev pub caps_at : ℕ
caps_at = max_layers

-- where the via resistances begin
abbrev pub vias_at : ℕ
vias_at = caps_at + max_layers

-- where the rows begin
abbrev pub rows_at : ℕ
rows_at = vias_at + max_layers

-- where the count of nodes after the driver stands: in row 0, after its tag
abbrev pub count_at : ℕ
count_at = rows_at + 1

-- where the costs begin in a row
abbrev pub costs_from : ℕ
costs_from = 6

-- how many numbers a row has
abbrev pub width : ℕ
width = costs_from + max_layers

-- where row j begins
abbrev pub node_row : ℕ → ℕ
node_row j = rows_at + j * width

-- how many numbers hold a net: the layers, and rows for the driver and 255 nodes
abbrev pub word_count : ℕ
word_count = node_row (max_nodes + 1)

-- how many are enough to read a net without keeping it: the layers, the driver's row and one more
abbrev pub check_count : ℕ
check_count = node_row 2

-- the row for the node after so many: its own where the net is kept, else always row 1
abbrev pub row_for : Bool → ℕ → ℕ
row_for keep count = if keep then count + 1 else 1

-- the array is long enough
pub record Rows (keep : Bool) (w : List ℕ) : Type 0 where
  pub some : check_count ≤ length w
  pub all : keep ≡ true → length w ≡ word_count

-- number c of row j
abbrev pub cell : List ℕ → ℕ → ℕ → ℕ
cell w j c = get_or w (node_row j + c) 0

-- a kind from its tag and its own three words; a sink's second and third are the halves of its required time
unfoldable pub kind_of : ℕ → ℕ → ℕ → ℕ → Kind
kind_of tag a b c =
    if eqb tag steiner_tag then Steiner else
    if eqb tag buffer_tag then Buffer a b c else
    Sink a (signed (b * 4294967296 + c))

-- the kind in row j
unfoldable pub kind_in : List ℕ → ℕ → Kind
kind_in w j = kind_of (cell w j 0) (cell w j 3) (cell w j 4) (cell w j 5)

-- all of node j but its costs
unfoldable pub record_in : List ℕ → ℕ → Node
record_in w j = record { parent = cell w j 1; len = cell w j 2; kind = kind_in w j }

-- its costs on L layers
unfoldable pub costs_in : List ℕ → ℕ → ℕ → List ℕ
costs_in w L j = map (λ l. get_or w (node_row j + costs_from + l) 0) (from 0 L)

-- node j
unfoldable pub node_in : List ℕ → ℕ → ℕ → tree.Node
node_in w L j = record { parent = cell w j 1; len = cell w j 2; costs = costs_in w L j; kind = kind_in w j }

-- the first `count` nodes after the driver
unfoldable pub nodes_in : List ℕ → ℕ → ℕ → List tree.Node
nodes_in w L count = map (node_in w L) (from 1 count)

-- the driver
unfoldable pub driver_in : List ℕ → tree.Driver
driver_in w = record { gate_res = cell w 0 4; intrinsic = cell w 0 5; arrival = signed (cell w 0 6 * 4294967296 + cell w 0 7) }

-- layer l
unfoldable pub layer_in : List ℕ → ℕ → tree.Layer
layer_in w l = record { unit_res = get_or w l 0; unit_cap = get_or w (caps_at + l) 0; via_res = get_or w (vias_at + l) 0 }

-- the first L layers
unfoldable pub layers_in : List ℕ → ℕ → List tree.Layer
layers_in w L = map (layer_in w) (from 0 L)

-- the net
unfoldable pub net_in : List ℕ → tree.Net
net_in w = record { layers = layers_in w (cell w 0 2); driver = driver_in w; nodes = nodes_in w (cell w 0 2) (cell w 0 1) }
