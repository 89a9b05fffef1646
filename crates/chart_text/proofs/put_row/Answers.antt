-- `put_row` is right: after the number for q the numbers for 1 to q stand at `at`, one space between, and each takes at most six bytes with its space.
use Prim.Native.Nat.{ℕ, ◌+◌, ◌≤◌}
use native.Mathlib.Omega.{arith}
use lib.ListN.{length}
use Rattle.rules.specs.Text.{space}
use Rattle.rules.specs.Bytes.{max_stages}
use Rattle.rules.specs.Chart.{chart_shares, chart_row, OnChart}
use Rattle.text.proofs.Joining as joining
use Rattle.text.proofs.Separated.{later-start, later-put, between_put}
use Rattle.chart_text.proofs.Cells.{printed_entry, printed-length}
use Rattle.chart_text.proofs.put_row.Goals as goal

-- The places that the chart has.
on : {s q : ℕ} → 1 ≤ s → s ≤ max_stages → 1 ≤ q → q ≤ chart_shares → OnChart s q
on a b c d = record { some-stage = a; few-stages = b; some_share = c; few_shares = d }

-- How long its number is there.
short : (s q : ℕ) → 1 ≤ s → s ≤ max_stages → 1 ≤ q → q ≤ chart_shares → length (printed_entry s q) ≤ 5
short s q a b c d = printed-length s q (on a b c d)

pub entry-requires : goal.entry-requires
entry-requires c = on (omega arith) (omega arith) (omega arith) (omega arith)

pub put_number-next-requires : goal.put_number-next-requires
put_number-next-requires c = rw c.entry.ensures (omega (arith, short c.args.s 1 (omega arith) (omega arith) (omega arith) (omega arith)))

pub loop-q-init : goal.loop-q-init
loop-q-init c =
    let put = rw c.entry.ensures at c.put_number-next.ensures in
    record {
      upper_bound = omega (arith, short c.args.s 1 (omega arith) (omega arith) (omega arith) (omega arith), put.ends);
      placed = later-start space _ _ _ (omega (arith, put.room, joining.same_length put));
    }

pub entry-requires-in-loop-q : goal.entry-requires-in-loop-q
entry-requires-in-loop-q c = on (omega arith) (omega arith) (omega arith) (omega arith)

pub put_field-next-requires : goal.put_field-next-requires
put_field-next-requires c =
    rw c.entry-in-loop-q.ensures (omega (arith, short c.args.s (c.loop-q.q + 1) (omega arith) (omega arith) (omega arith) (omega arith)))

pub loop-q-preserved : goal.loop-q-preserved
loop-q-preserved c =
    let l = c.loop-q in
    let put = rw c.entry-in-loop-q.ensures at c.put_field-next.ensures.placed in
    record {
      upper_bound = omega (arith, short c.args.s (l.q + 1) (omega arith) (omega arith) (omega arith) (omega arith), put.ends);
      placed = later-put space (printed_entry c.args.s) l.q (omega arith) l.invariant.placed put;
    }

pub returns : goal.returns
unfolding chart_row
returns c =
    let l = c.loop-q in
    let first = rw c.entry.ensures at c.put_number-next.ensures in
    record {
      placed = between_put space (printed_entry c.args.s) chart_shares (omega arith) l.q (omega arith) first l.invariant.placed;
      upper_bound = omega arith;
    }
