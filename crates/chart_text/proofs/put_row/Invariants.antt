-- `put_row` is right: after the number for q the numbers for 1 to q stand at `at`, one space between, and each takes at most six bytes with its space.
use Prim.Native.Nat.{◌+◌, ◌*◌, ◌≤◌}
use Rattle.rules.specs.Text.{space}
use Rattle.text.specs.Placing.{Placed}
use Rattle.text.proofs.Separated.{later}
use Rattle.chart_text.proofs.Cells.{printed_entry}
use Rattle.chart_text.proofs.put_row.Given as goal

abbrev pub invariant-loop-q : goal.invariant-loop-q
invariant-loop-q l = record {
  upper_bound : l.next + 1 ≤ l.at + 6 * l.q;
  placed : Placed (later space (printed_entry l.s) l.q) l.initial.next l.initial.out l.out l.next;
}
