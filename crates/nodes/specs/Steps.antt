-- One node field: the code's tests and its answer in the terms of 01.
use Rattle.std.specs.Prelude.{◌≡◌, Bool, not, ◌&&◌, ◌||◌, List, ℕ, ◌-◌, ◌<◌, leb, ltb, eqb, get_or, Result}
use Rattle.rules.specs.declared.Refusal.{Refusal}
use Rattle.rules.specs.Refusals.{answered}
use Rattle.rules.specs.Bytes.{Field, buffer_tag, max_nodes, max_stages, max_children, max_length, next, due_node, node_at, is_kind, is_node}
use Rattle.rules.specs.Reading.{Answer, accept, ◌>>=◌, ◌>>◌, ◌unless◌, field}
use Rattle.words.specs.declared.Node.{Node}
use Rattle.words.specs.Words.{node_row, row_for, node_in}
use Rattle.words.specs.Puts.{record_at}
use Rattle.nodes.specs.declared.Step.{Step}

-- The tests of a node over what the code keeps: how many nodes and buffers were read, and for each node how many children it has, plus two for a sink,
-- which takes none and needs none. Room for one more node of this tag (refusal 4):
unfoldable pub room_for : ℕ → ℕ → ℕ → Bool
room_for count bufs tag = ltb count max_nodes && (not (eqb tag buffer_tag) || ltb bufs (max_stages - 1))

-- the numbers of a record in their ranges, given whether its costs are (refusal 3)
unfoldable pub ranges_of : Bool → Node → Bool
ranges_of costs r = leb r.len max_length && costs && is_kind r.kind

-- one more child for node p (refusal 5)
unfoldable pub parent_for : ℕ → List ℕ → ℕ → Bool
parent_for count kids p = leb p count && ltb (get_or kids p 0) max_children

-- the node field at i by these tests: head, tag and length, payload, then 4, 3, 5
unfoldable pub step_field : List ℕ → ℕ → ℕ → ℕ → List ℕ → ℕ → Answer Field
step_field bs L count bufs kids i = do
  f ← field (due_node L) bs i
  4 unless room_for count bufs f.tag
  3 unless is_node max_length (node_at bs L f)
  5 unless parent_for count kids (node_at bs L f).parent
  accept f

-- what a step takes of a node field: its record, and where the next field starts
pub record Taken : Type 0 where
  pub node : Node
  pub next : ℕ

-- that of a field
unfoldable pub taken_at : List ℕ → ℕ → Field → Taken
taken_at bs L f = record { node = record_at bs L f.tag f.start; next = next f }

-- that of the node field at i, or the first fault
unfoldable pub step_at : List ℕ → ℕ → ℕ → ℕ → List ℕ → ℕ → Answer Taken
step_at bs L count bufs kids i = step_field bs L count bufs kids i >>= λ f. accept (taken_at bs L f)

-- that of a step of the code
abbrev pub step_taken : Step → Taken
step_taken s = record { node = s.node; next = s.next }

-- the node of a field in row j, all before that row as it was
pub record Put (bs : List ℕ) (L : ℕ) (f : Field) (old new : List ℕ) (j : ℕ) : Type 0 where
  pub is : node_in new L j ≡ node_at bs L f
  pub lower : (k : ℕ) → k < node_row j → get_or new k 0 ≡ get_or old k 0

-- a step's answer, and the node that it took in its row
pub record StepRead (bs : List ℕ) (L count bufs : ℕ) (kids : List ℕ) (i : ℕ) (keep : Bool) (r : Result Step Refusal) (old new : List ℕ) : Type 0 where
  pub answer : answered step_taken r ≡ step_at bs L count bufs kids i
  pub put : (f : Field) → step_field bs L count bufs kids i ≡ accept f → Put bs L f old new (row_for keep count)
