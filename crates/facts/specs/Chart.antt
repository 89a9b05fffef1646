-- The chart's definitions by cases: what a host is told on the chart and off it, and that the chart's numbers have at most five digits.
use Rattle.std.specs.Prelude.{◌≡◌, true, false, ℕ, ◌+◌, ◌*◌, ◌≤◌, ◌<◌}
use native.Mathlib.Omega.{arith}
use Rattle.std.proofs.Math.Nat.{mul-le-mul}
use borrow.Author.Tests.{le-leb}
use Rattle.laws.specs.Basic.{within}
use Rattle.laws.specs.Booleans.{within-true}
use Rattle.rules.specs.Bytes.{max_stages}
use Rattle.rules.specs.Planning.{enough_columns}
use Rattle.rules.specs.Chart.{chart_shares, chart_entry, OnChart, table_entries}

module _ (s q : ℕ) where
  pub on_chart : within 1 max_stages s ≡ true → within 1 chart_shares q ≡ true → OnChart s q
  on_chart a b =
      let (s-some, s-few) = within-true 1 max_stages s a in
      let (q-some, q-few) = within-true 1 chart_shares q b in
      record { some-stage = s-some; few-stages = s-few; some_share = q-some; few_shares = q-few }

  -- On the chart a host is told the chart's number, off it 0.
  pub told-on : OnChart s q → table_entries s q ≡ chart_entry s q
  unfolding table_entries
  told-on on = simp (le-leb 1 s on.some-stage, le-leb s max_stages on.few-stages, le-leb 1 q on.some_share, le-leb q chart_shares on.few_shares)

  pub told-stages : within 1 max_stages s ≡ false → table_entries s q ≡ 0
  unfolding table_entries
  told-stages e = simp e

  pub told_shares : within 1 max_stages s ≡ true → within 1 chart_shares q ≡ false → table_entries s q ≡ 0
  unfolding table_entries
  told_shares a b = simp (a, b)

  -- At most 64 + 2 × 10 × 64 columns of 64 + 2 rows.
  pub entry-low : OnChart s q → chart_entry s q < 100000
  unfolding chart_entry enough_columns
  entry-low on =
      let shares : q * s ≤ chart_shares * max_stages = mul-le-mul on.few_shares on.few-stages in
      let columns : enough_columns 1 q s ≤ 1344 = omega arith in
      let rows : s + 2 ≤ 66 = omega arith in
      let product : enough_columns 1 q s * (s + 2) ≤ 1344 * 66 = mul-le-mul columns rows in
      omega arith
