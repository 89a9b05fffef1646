-- The answer of reading a whole net, in the terms of 01.
use Rattle.std.specs.Prelude.{◌≡◌, Bool, true, List, ℕ, length, Result}
use Rattle.rules.specs.declared.Refusal.{Refusal}
use Rattle.rules.specs.Refusals.{answered}
use Rattle.rules.specs.Tree as tree
use Rattle.rules.specs.Bytes.{buffer_tag, next, due_driver, driver_at, is_driver}
use Rattle.rules.specs.Reading.{Answer, accept, ◌>>=◌, ◌>>◌, ◌unless◌, field, read}
use Rattle.words.specs.Words.{cell, layers_in, net_in}
use Rattle.reader.specs.Nodes.{tree_from}
use Rattle.reader.specs.declared.NetCounts.{NetCounts}

-- the counts of a net: nodes after the driver, stages, layers
pub record Counts : Type 0 where
  pub nodes : ℕ
  pub stages : ℕ
  pub layers : ℕ

-- those of this net
unfoldable pub counts_of : tree.Net → Counts
counts_of n = record { nodes = length n.nodes; stages = tree.stages n; layers = tree.layer_count n }

-- the counts of the net that the bytes hold, or the first fault
unfoldable pub counts : List ℕ → Answer Counts
counts bs = read bs >>= λ n. accept (counts_of n)

-- those that the code gives
abbrev pub net_counts : NetCounts → Counts
net_counts n = record { nodes = n.nodes; stages = n.stages; layers = n.layers }

-- the driver at i and the nodes after it, and with these L layers the net
unfoldable pub rest_from : List ℕ → ℕ → List tree.Layer → ℕ → Answer tree.Net
rest_from bs L ls i = do
  f ← field due_driver bs i
  3 unless is_driver (driver_at bs f.start)
  ns ← tree_from bs L (next f)
  accept (record { layers = ls; driver = driver_at bs f.start; nodes = ns })

-- what it gives and leaves in the array that has the layers
pub record RestRead (bs : List ℕ) (L i : ℕ) (keep : Bool) (r : Result NetCounts Refusal) (old new : List ℕ) : Type 0 where
  pub answer : answered net_counts r ≡ (rest_from bs L (layers_in old L) i >>= λ n. accept (counts_of n))
  pub is : keep ≡ true → (n : tree.Net) → rest_from bs L (layers_in old L) i ≡ accept n → net_in new ≡ n
  pub driver-row : (n : tree.Net) → rest_from bs L (layers_in old L) i ≡ accept n → cell new 0 0 ≡ buffer_tag

-- what reading gives and leaves in the array: the net that the bytes hold, row 0 with a buffer's tag
pub record NetRead (bs : List ℕ) (keep : Bool) (r : Result NetCounts Refusal) (words : List ℕ) : Type 0 where
  pub answer : answered net_counts r ≡ counts bs
  pub is : keep ≡ true → (n : tree.Net) → read bs ≡ accept n → net_in words ≡ n
  pub driver-row : (n : tree.Net) → read bs ≡ accept n → cell words 0 0 ≡ buffer_tag
