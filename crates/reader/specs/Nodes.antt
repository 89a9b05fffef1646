-- What the code keeps of the nodes read so far, and its last test and its answers in the terms of 01.
use Rattle.std.specs.Prelude.{◌≡◌, Bool, true, List, [], map, ℕ, ◌+◌, ◌*◌, ◌<◌, ◌≤◌, leb, length, get_or, Result}
use Rattle.rules.specs.declared.Refusal.{Refusal}
use Rattle.rules.specs.Refusals.{answered}
use Rattle.laws.specs.Basic.{all, from, bit}
use Rattle.rules.specs.Tree as tree
use Rattle.rules.specs.Tree.{is_sink, node}
use Rattle.rules.specs.Bytes.{max_length, max_nodes, max_children}
use Rattle.rules.specs.Reading.{Answer, accept, ◌>>=◌, ◌>>◌, ◌unless◌, children, buffers, nodes_from, is_whole}
use Rattle.words.specs.Words.{node_row, nodes_in}
use Rattle.nodes.specs.declared.Counts.{Counts}

-- a child for every node but a sink (refusal 6)
unfoldable pub whole_for : ℕ → List ℕ → Bool
whole_for count kids = all (map (λ i. leb 1 (get_or kids i 0)) (from 0 (count + 1)))

-- how many nodes there are, and how many buffers among them
pub record Counted : Type 0 where
  pub count : ℕ
  pub bufs : ℕ

-- those of a list of nodes
abbrev pub counted : List tree.Node → Counted
counted ns = record { count = length ns; bufs = buffers ns }

-- those that the code gives
abbrev pub nodes_counted : Counts → Counted
nodes_counted n = record { count = n.count; bufs = n.buffers }

-- the children of node j, plus two if it is a sink
unfoldable pub places : List tree.Node → ℕ → ℕ
places ns j = children ns j + max_children * bit (is_sink (node ns j).kind)

-- the layers and row 0 are as they were, and where the net is kept the rows from 1 on are these nodes
pub record Stored (L : ℕ) (ns : List tree.Node) (keep : Bool) (old new : List ℕ) : Type 0 where
  pub lower : (k : ℕ) → k < node_row 1 → get_or new k 0 ≡ get_or old k 0
  pub are : keep ≡ true → nodes_in new L (length ns) ≡ ns

-- kids[j] is what `places` says, at every index
pub record Kids (ns : List tree.Node) (kids : List ℕ) : Type 0 where
  pub each : (j : ℕ) → j < max_nodes + 1 → get_or kids j 0 ≡ places ns j

-- the nodes from the byte at i on, as the code gives them and leaves them in its arrays
pub record NodesRead (bs : List ℕ) (L i : ℕ) (keep : Bool) (r : Result Counts Refusal) (old new kids : List ℕ) : Type 0 where
  pub counts : answered nodes_counted r ≡ (nodes_from max_length (max_nodes + 1) bs L [] i >>= λ ns. accept (counted ns))
  pub few : (ns : List tree.Node) → nodes_from max_length (max_nodes + 1) bs L [] i ≡ accept ns → (length ns ≤ max_nodes) × (buffers ns ≤ max_nodes)
  pub kids_are : (ns : List tree.Node) → nodes_from max_length (max_nodes + 1) bs L [] i ≡ accept ns → Kids ns kids
  pub stored : (ns : List tree.Node) → nodes_from max_length (max_nodes + 1) bs L [] i ≡ accept ns → Stored L ns keep old new

-- the same with the last test, that every node but a sink has a child
unfoldable pub tree_from : List ℕ → ℕ → ℕ → Answer (List tree.Node)
tree_from bs L i = do
  ns ← nodes_from max_length (max_nodes + 1) bs L [] i
  6 unless is_whole ns
  accept ns

-- the tree, as the code gives it and leaves it in the array
pub record TreeRead (bs : List ℕ) (L i : ℕ) (keep : Bool) (r : Result Counts Refusal) (old new : List ℕ) : Type 0 where
  pub counts : answered nodes_counted r ≡ (tree_from bs L i >>= λ ns. accept (counted ns))
  pub few : (ns : List tree.Node) → tree_from bs L i ≡ accept ns → (length ns ≤ max_nodes) × (buffers ns ≤ max_nodes)
  pub stored : (ns : List tree.Node) → tree_from bs L i ≡ accept ns → Stored L ns keep old new
