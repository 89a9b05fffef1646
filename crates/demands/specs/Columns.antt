-- Refusal 12: the columns that planning needs. With p at least 1 they never exceed s plus 2qs/p rounded up (01, Rounded cost and the grain), because
-- twice the grain does not qualify, and V at the grain is at most twice V at twice the grain, plus s.
use Rattle.std.specs.Prelude.{◌≡◌, true, ℕ, ◌+◌, ◌*◌, ◌≤◌, leb}
use Rattle.std.proofs.Common.{arith, le-div_iff_mul-le, le-leb}
use Rattle.rules.specs.Tree.{Net, stages}
use Rattle.rules.specs.Grain.{grain_exponent, columns, columns_needed}
use Rattle.facts.specs.Accepted.{Accepted}
use Rattle.facts.specs.Stages.{stages-some}
use Rattle.oracle.specs.Rounding.{divided_up}
use Rattle.oracle.specs.Value.{exponent, columns_bound}
use Rattle.demands.specs.StageNumbers.{tree_of}
use Rattle.demands.specs.Same.{value_same, exponent_same}
use Rattle.demands.specs.Values.{either, small-costs}

-- A table with the entries of so many columns lends as many.
pub columns-lent : (n : Net) {lent entries : ℕ} → lent * (stages n + 2) ≤ entries → lent ≤ columns n entries
unfolding columns
columns-lent n room = (le-div_iff_mul-le {k = stages n + 2} (omega arith)).1 room

module _ {n : Net} (A : Accepted n) (p q : ℕ) where
  -- Refusal 12: the columns needed never exceed s plus 2qs/p rounded up, ..
  pub columns-most : 1 ≤ p → columns_needed n (grain_exponent n p q) ≤ stages n + divided_up (2 * q * stages n) p
  unfolding columns_needed
  columns-most h = either A
      (λ x M. rw (← exponent_same A p q, ← value_same A (exponent (tree_of n) p q)) (columns_bound (tree_of n) p q h (stages-some n) x M (small-costs A x)))
      (λ z. omega (arith, z (grain_exponent n p q), stages-some n))

  -- .. so a table with that many columns is never refused.
  pub columns-enough : 1 ≤ p → (entries : ℕ) → (stages n + divided_up (2 * q * stages n) p) * (stages n + 2) ≤ entries
      → leb (columns_needed n (grain_exponent n p q)) (columns n entries) ≡ true
  columns-enough h entries room =
      let need = columns-most h in
      let have = columns-lent n room in
      le-leb (columns_needed n (grain_exponent n p q)) (columns n entries) (omega arith)
