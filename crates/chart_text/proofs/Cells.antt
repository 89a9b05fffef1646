-- The chart's numbers as they are printed.
use mathlib.Core.List.{List}
use Prim.Native.Nat.{ℕ, ◌≤◌}
use lib.ListN.{length}
use Rattle.rules.specs.Text.{decimal}
use Rattle.rules.specs.Chart.{chart_entry, OnChart}
use Rattle.facts.specs.Chart.{entry-low}
use Rattle.text.proofs.Decimal.{decimal-length}

-- The number for s and q.
abbrev pub printed_entry : ℕ → ℕ → List ℕ
printed_entry s q = decimal (chart_entry s q)

-- It has at most five digits.
pub printed-length : (s q : ℕ) → OnChart s q → length (printed_entry s q) ≤ 5
printed-length s q on = decimal-length 4 (chart_entry s q) (entry-low s q on)
