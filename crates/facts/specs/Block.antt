-- What holds of every block (02, wish 2): when it is too long, and how large its totals can be. Each bound is computed from the limits of 01 and 02, so that no
-- total of any block overflows.
use Rattle.std.specs.Prelude.{◌≡◌, refl, List, ℕ, ◌*◌, ◌/◌, ◌≤◌, ◌<◌, eqb, length}
use Rattle.std.proofs.Common.{arith}
use Rattle.std.proofs.lemmas.Bool.{lt-leb}
use Rattle.laws.specs.Basic.{keep}
use Rattle.laws.specs.Lists.{length_from, keep_le}
use Rattle.laws.specs.Sums.{sum-most}
use Rattle.rules.specs.Tree.{Net, at, edges, stage_of, on}
use Rattle.rules.specs.Bytes.{max_length, max_nodes}
use Rattle.rules.specs.Reading.{refuse}
use Rattle.rules.specs.Block.{max_block, block, length_on}
use Rattle.facts.specs.Accepted.{Accepted}
use Rattle.facts.specs.Ranges.{length_in}
use Rattle.facts.specs.Costs.{max_plan_cost}

-- More bytes than a block may have are 13, whatever they are.
pub block_too_long : (bs : List ℕ) → max_block < length bs → block bs ≡ refuse 13
unfolding block
block_too_long bs h = rw (lt-leb (length bs) max_block h) refl

-- The most nets of a block: a field has three bytes or more.
abbrev pub max_nets : ℕ
max_nets = max_block / 3

-- The greatest total edge length of a net, and of all nets of a block.
abbrev pub max_wire : ℕ
max_wire = max_nodes * max_length

abbrev pub max_block_wire : ℕ
max_block_wire = max_nets * max_wire

-- The greatest cost of all nets of a block.
abbrev pub max_block_cost : ℕ
max_block_cost = max_nets * max_plan_cost

-- No layer carries more than the wire of a net can be.
pub length-on_in : {n : Net} → Accepted n → (x : List ℕ) (l : ℕ) → length_on n x l ≤ max_wire
unfolding length_on edges
length-on_in {n} A x l =
    let on-layer = keep (λ j. eqb (on x (stage_of n j)) l) (edges n) in
    let all = sum-most (λ j. (at n j).len) max_length (length_in A) on-layer in
    omega (arith, keep_le (λ j. eqb (on x (stage_of n j)) l) (edges n), length_from 1 (length n.nodes), A.few-nodes)
