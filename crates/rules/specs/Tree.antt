-- 01, 'The tree and what is left to decide': a net, its stages, its plans and their order.
-- i and j name nodes, t a stage, l a layer, x a plan. An edge has the number of its lower end.
use Rattle.std.specs.Prelude.{Bool, true, false, ◌&&◌, ◌||◌, List, [], ◌∷◌, ◌++◌, map, ℕ, zero, suc, eqb, ltb, length, get_or, ℤ}
use Rattle.laws.specs.Basic.{from, keep, all}
use Rattle.rules.specs.declared.Kind.{Kind}
use Rattle.rules.specs.declared.Kind.TheVariants.{Steiner, Buffer, Sink}

-- A layer is a horizontal and vertical pair (source 001, section 2): its unit resistance and unit capacitance (01, Net bytes; source 002, section 2.1), and
-- the resistance of the via between a pin and the layer (02, wish 5).
pub record Layer : Type 0 where
  pub unit_res : ℕ
  pub unit_cap : ℕ
  pub via_res : ℕ

-- The driver: gate resistance, intrinsic delay, arrival time (01, Net bytes; intrinsic delay: source 002, section 2.1).
pub record Driver : Type 0 where
  pub gate_res : ℕ
  pub intrinsic : ℕ
  pub arrival : ℤ

-- A node after the driver: its parent, the length of the edge to it, that edge's cost on each layer, its kind (01, Net bytes).
pub record Node : Type 0 where
  pub parent : ℕ
  pub len : ℕ
  pub costs : List ℕ
  pub kind : Kind

-- A net: its layers, its driver (node 0), and nodes 1, 2, .. in file order (01, The tree; source 001, section 2).
pub record Net : Type 0 where
  pub layers : List Layer
  pub driver : Driver
  pub nodes : List Node

-- A sink (01, Net bytes, tag 5).
abbrev pub is_sink : Kind → Bool
is_sink Steiner = false
is_sink (Buffer c r d) = false
is_sink (Sink c t) = true

-- A buffer (01, Net bytes, tag 4).
abbrev pub is_buffer : Kind → Bool
is_buffer Steiner = false
is_buffer (Buffer c r d) = true
is_buffer (Sink c t) = false

-- A terminal is a buffer or a sink (01, The tree; source 001, section 2, V_t).
abbrev pub is_terminal : Kind → Bool
is_terminal k = is_buffer k || is_sink k

-- What stands for a node that there is not; the driver, of which nothing here is asked, counts as this too.
abbrev pub no_node : Node
no_node = record { parent = 0; len = 0; costs = []; kind = Steiner }

-- Node i of a list of nodes that begins with node 1.
unfoldable pub node : List Node → ℕ → Node
node ns i = get_or (no_node ∷ ns) i no_node

-- Node i of a net.
abbrev pub at : Net → ℕ → Node
at n i = node n.nodes i

-- The numbers of the edges, which are those of the nodes after the driver (01, The tree: an edge joins each node but the driver to its parent).
unfoldable pub edges : Net → List ℕ
edges n = from 1 (length n.nodes)

-- The children of node i.
unfoldable pub children_of : Net → ℕ → List ℕ
children_of n i = keep (λ j. eqb (at n j).parent i) (edges n)

-- The root of a stage is a driver or buffer (01, The tree; source 001, section 2, V_r).
abbrev pub is_root : Net → ℕ → Bool
is_root n zero = true
is_root n (suc i) = is_buffer (at n (suc i)).kind

-- The roots in stage order: the driver, then the buffers in file order (01: stage i is that of the i-th buffer in file order).
unfoldable pub roots : Net → List ℕ
roots n = 0 ∷ keep (λ j. is_buffer (at n j).kind) (edges n)

-- s, the number of stages.
unfoldable pub stages : Net → ℕ
stages n = length (roots n)

-- The root of stage t.
unfoldable pub root : Net → ℕ → ℕ
root n t = get_or (roots n) t 0

-- The number of layers.
unfoldable pub layer_count : Net → ℕ
layer_count n = length n.layers

-- The stage that root i drives: as many buffers as there are up to it.
unfoldable pub drives : Net → ℕ → ℕ
drives n i = length (keep (λ j. is_buffer (at n j).kind) (from 1 i))

-- The root of the stage that the wire below node i belongs to: the node itself if it is a root, else that of the wire below its parent.
-- k bounds the climb; the node's number is enough, for parents are lower.
unfoldable pub root_from : ℕ → Net → ℕ → ℕ
root_from zero n i = 0
root_from (suc k) n i = elim (is_root n i) [ true ↦ i | false ↦ root_from k n (at n i).parent ]

-- The edges between node i and the root of the wire below it, from i up; k bounds the climb.
unfoldable pub path_from : ℕ → Net → ℕ → List ℕ
path_from zero n i = []
path_from (suc k) n i = elim (is_root n i) [ true ↦ [] | false ↦ i ∷ path_from k n (at n i).parent ]

-- The stage of edge j: a stage is its root with all wire below it up to the next buffers or sinks (01, The tree; source 001, section 2, T_a).
unfoldable pub stage_of : Net → ℕ → ℕ
stage_of n j = drives n (root_from j n (at n j).parent)

-- The edges between terminal j and the root of its stage (01, Timing rule: 'the edge delays between').
unfoldable pub between : Net → ℕ → List ℕ
between n j = j ∷ path_from j n (at n j).parent

-- The edges of stage t.
unfoldable pub edges_of : Net → ℕ → List ℕ
edges_of n t = keep (λ j. eqb (stage_of n j) t) (edges n)

-- The terminals of stage t: the buffers and sinks at which its wire ends.
unfoldable pub terminals : Net → ℕ → List ℕ
terminals n t = keep (λ j. is_terminal (at n j).kind) (edges_of n t)

-- A plan x is one layer number, from 0, for each stage: the layer of stage t.
abbrev pub on : List ℕ → ℕ → ℕ
on x t = get_or x t 0

-- Each layer number is below the layer count.
unfoldable pub are_layers : Net → List ℕ → Bool
are_layers n x = all (map (λ l. ltb l (layer_count n)) x)

-- A plan of the net has one layer number for each stage, each below the layer count; cost, slack and meeting timing are for these only.
unfoldable pub is_plan : Net → List ℕ → Bool
is_plan n x = eqb (length x) (stages n) && are_layers n x

-- Each of ls before each of ts: the order is by the first number, then by the rest.
abbrev pub before : List ℕ → List (List ℕ) → List (List ℕ)
before [] ts = []
before (l ∷ ls) ts = map (λ t. l ∷ t) ts ++ before ls ts

-- The lists of s numbers below L, ordered by the first number, then the second, and so on.
abbrev pub plans_of : ℕ → ℕ → List (List ℕ)
plans_of L zero = [] ∷ []
plans_of L (suc s) = before (from 0 L) (plans_of L s)

-- The plans of a net in plan order: one layer number below the layer count for each stage (01, The tree).
unfoldable pub plans : Net → List (List ℕ)
plans n = plans_of (layer_count n) (stages n)
