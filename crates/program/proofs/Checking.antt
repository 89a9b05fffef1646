-- The line of checking, by what checking answers.
use mathlib.Core.Path.{◌≡◌}
use mathlib.Core.List.{List}
use Prim.Native.Nat.{ℕ, ◌≤◌}
use native.Mathlib.Omega.{arith}
use borrow.Author.Tests.{eq-eqb, ne_eqb}
use Rattle.rules.specs.declared.Checked.{Checked}
use Rattle.rules.specs.Reading.{check}
use Rattle.rules.specs.Program.{refused_line}
use Rattle.line.specs.Counted.{counts_line}
use Rattle.program.specs.Checking.{checked_line, check_line}

module _ (bs : List ℕ) {r : Checked} (same : r ≡ check bs) where
  -- A refusal's line has its number.
  pub refused_checked : 1 ≤ r.refusal → check_line bs ≡ refused_line r.refusal
  unfolding checked_line
  refused_checked one = rw (← same, ne_eqb r.refusal 0 (λ e. omega arith))

  -- An accepted net's line has its counts.
  pub counts_checked : r.refusal ≡ 0 → check_line bs ≡ counts_line r.nodes r.stages r.layers
  unfolding checked_line
  counts_checked none = rw (← same, eq-eqb r.refusal 0 none)
