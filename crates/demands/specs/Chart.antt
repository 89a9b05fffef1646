-- The chart in the words of the call (02, wish 1): 'the entries that always serve' is demand 3's promise.
use Rattle.std.specs.Prelude.{◌≡◌, List, ℕ, ◌≤◌, ◌*◌, ◌+◌, length, ℤ}
use Rattle.std.proofs.Common.{arith}
use Rattle.rules.specs.declared.Planned.{Planned}
use Rattle.rules.specs.Tree.{Net, stages}
use Rattle.rules.specs.Reading.{accept, read}
use Rattle.rules.specs.Planning.{enough_columns, Plannable, Demand3}
use Rattle.rules.specs.Chart.{chart_shares, chart_entry, OnChart, table_entries}
use Rattle.facts.specs.Accepted.{accepted}
use Rattle.facts.specs.Stages.{stages-some}
use Rattle.facts.specs.Chart.{told-on}

-- A call of planning with share 1/q on the chart, the bytes of a net, and a table that is at least as long as a host is told for the net's stages.
module _ {bs : List ℕ} {q : ℕ} {table : List ℤ} {buffer after : List ℕ} {r : Planned} (D : Demand3 bs 1 q table buffer after r)
    (n : Net) (h : read bs ≡ accept n) (some : 1 ≤ q) (few : q ≤ chart_shares) (long : table_entries (stages n) q ≤ length table) where
  enough : enough_columns 1 q (stages n) * (stages n + 2) ≤ length table
  unfolding chart_entry
  enough =
      let on : OnChart (stages n) q = record { some-stage = omega (arith, stages-some n); few-stages = (accepted bs n h).few-stages; some_share = some; few_shares = few } in
      rw (told-on (stages n) q on) at long

  -- Such a call is never refused with 12.
  pub chart_serves : r.refusal ≡ 12 → ⊥
  chart_serves = D.never-short n h (omega arith) enough

  -- With room for the plan the net is planned, if any plan of it meets timing.
  pub chart_planned : stages n ≤ length buffer → Plannable n → r.refusal ≡ 0
  chart_planned room some-plan = D.planned n h (omega arith) (omega arith) some (omega arith) room enough some-plan
