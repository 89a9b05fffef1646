-- `write_chart` is right: after the line for s the lines for 1 to s stand at the front, a line feed between, and the last line feed makes them the chart.
use Prim.Native.Nat.{◌+◌, ◌*◌, ◌≤◌}
use Rattle.rules.specs.Text.{line_feed}
use Rattle.rules.specs.Chart.{chart_row}
use Rattle.text.specs.Placing.{Placed}
use Rattle.chart_text.specs.Length.{max_row}
use Rattle.text.proofs.Separated.{later}
use Rattle.chart_text.proofs.write_chart.Given as goal

abbrev pub invariant-loop-s : goal.invariant-loop-s
invariant-loop-s l = record {
  upper_bound : l.next + 1 ≤ (max_row + 1) * l.s;
  placed : Placed (later line_feed chart_row l.s) l.initial.next l.initial.out l.out l.next;
}
