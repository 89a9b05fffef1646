-- 01, 'Reading': fields are read from the front and the first fault met decides.
use Rattle.std.specs.Prelude.{Bool, true, false, not, ◌&&◌, ◌||◌, List, [], ◌∷◌, ◌++◌, map, ℕ, zero, suc, ◌+◌, ◌-◌, leb, ltb, eqb, length}
use Rattle.laws.specs.Basic.{from, all, keep}
use Rattle.rules.specs.declared.Checked.{Checked}
use Rattle.rules.specs.Tree.{Node, Net, is_sink, is_buffer, node, stages, layer_count}
use Rattle.rules.specs.Bytes

-- What an operation gives: it accepts with a result, or refuses with a number.
pub data Answer (A : Type 0) : Type 0 where
  accept : A → Answer A
  refuse : ℕ → Answer A

infixl 1 ◌>>=◌
-- Go on with the result; a refusal is the answer of the whole.
abbrev pub ◌>>=◌ : {A B : Type 0} → Answer A → (A → Answer B) → Answer B
◌>>=◌ (accept a) f = f a
◌>>=◌ (refuse r) f = refuse r

infix 2 ◌unless◌
-- Refuse with this number unless a test passes.
abbrev pub ◌unless◌ : ℕ → Bool → Answer Unit
r unless true = accept tt
r unless false = refuse r

-- Go on after a test.
abbrev pub ◌>>◌ : {B : Type 0} → Answer Unit → Answer B → Answer B
◌>>◌ (accept a) b = b
◌>>◌ (refuse r) b = refuse r

-- The field that is due at i, where `due` says which tags and lengths are allowed. In a field: head (1), tag and length (2), payload (1).
unfoldable pub field : (ℕ → ℕ → Bool) → List ℕ → ℕ → Answer Bytes.Field
field due bs i = do
  1 unless leb (i + 3) (length bs)
  2 unless due (Bytes.field_at bs i).tag (Bytes.field_at bs i).size
  1 unless leb (Bytes.next (Bytes.field_at bs i)) (length bs)
  accept (Bytes.field_at bs i)

-- How many of the nodes have node i for parent.
unfoldable pub children : List Node → ℕ → ℕ
children ns i = length (keep (λ n. eqb n.parent i) ns)

-- How many of the nodes are buffers.
unfoldable pub buffers : List Node → ℕ
buffers ns = length (keep (λ n. is_buffer n.kind) ns)

-- After the nodes ns there is room for node n: it is no 256th node after the driver and no 64th buffer (refusal 4).
unfoldable pub has_room : List Node → Node → Bool
has_room ns n = ltb (length ns) Bytes.max_nodes && (not (is_buffer n.kind) || ltb (buffers ns) (Bytes.max_stages - 1))

-- After the nodes ns, node p may be the parent of the next: it has a lower number, is no sink and has fewer than two children so far (refusal 5).
unfoldable pub is_parent : List Node → ℕ → Bool
is_parent ns p = leb p (length ns) && not (is_sink (node ns p).kind) && ltb (children ns p) Bytes.max_children

-- The node field that is due at i after the nodes ns, with L layers and lengths up to `most`: head, tag and length, payload, then 4, 3, 5.
unfoldable pub node_field : ℕ → List ℕ → ℕ → List Node → ℕ → Answer Bytes.Field
node_field most bs L ns i = do
  f ← field (Bytes.due_node L) bs i
  4 unless has_room ns (Bytes.node_at bs L f)
  3 unless Bytes.is_node most (Bytes.node_at bs L f)
  5 unless is_parent ns (Bytes.node_at bs L f).parent
  accept f

-- The nodes from i to the end, after the nodes ns, with lengths up to `most`: a field is due as long as a byte is left. k bounds the nodes to come; 256
-- less those of ns is enough, for the 256th is refused.
unfoldable pub nodes_from : ℕ → ℕ → List ℕ → ℕ → List Node → ℕ → Answer (List Node)
nodes_from most zero bs L ns i = refuse 4
nodes_from most (suc k) bs L ns i =
    elim (leb (length bs) i) [
      | true ↦ accept ns
      | false ↦ node_field most bs L ns i >>= λ f. nodes_from most k bs L (ns ++ (Bytes.node_at bs L f ∷ [])) (Bytes.next f)
    ]

-- Every node but a sink has a child (refusal 6, at the end).
unfoldable pub is_whole : List Node → Bool
is_whole ns = all (map (λ i. is_sink (node ns i).kind || leb 1 (children ns i)) (from 0 (length ns + 1)))

-- The net that the bytes hold with lengths up to `most`, or the first fault: first layers, then driver, then nodes 1, 2, ... in order.
unfoldable pub read_to : ℕ → List ℕ → Answer Net
read_to most bs = do
  f ← field Bytes.due_layers bs 0
  3 unless all (map Bytes.is_layer (Bytes.layers_at bs f))
  g ← field Bytes.due_driver bs (Bytes.next f)
  3 unless Bytes.is_driver (Bytes.driver_at bs g.start)
  ns ← nodes_from most (Bytes.max_nodes + 1) bs (length (Bytes.layers_at bs f)) [] (Bytes.next g)
  6 unless is_whole ns
  accept (record { layers = Bytes.layers_at bs f; driver = Bytes.driver_at bs g.start; nodes = ns })

-- Reading, with the lengths of 02, wish 3. (The bound is a number handed in above, so that readings with two bounds can be compared.)
unfoldable pub read : List ℕ → Answer Net
read bs = read_to Bytes.max_length bs

-- What checking answers. Accepted: the counts of nodes (driver included), stages and layers. Refused: the number, and zeros.
unfoldable pub check : List ℕ → Checked
check bs = elim (read bs) [
  | accept n ↦ record { refusal = 0; nodes = length n.nodes + 1; stages = stages n; layers = layer_count n }
  | refuse r ↦ record { refusal = r; nodes = 0; stages = 0; layers = 0 }
]
