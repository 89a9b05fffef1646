-- `write_chart` is right: after the line for s the lines for 1 to s stand at the front, a line feed between, and the last line feed makes them the chart.
use mathlib.Core.Path.{ap, ◌∙◌}
use native.Mathlib.Omega.{arith}
use Rattle.rules.specs.Bytes.{max_stages}
use Rattle.rules.specs.Text.{line_feed}
use Rattle.rules.specs.Chart.{chart_row, chart_text, numbers_in, printed-table}
use Rattle.text.proofs.Joining.{joined, at_front, opening}
use Rattle.text.proofs.Joining as joining
use Rattle.text.proofs.Separated.{later-start, later-put, between_put}
use Rattle.chart_text.proofs.write_chart.Goals as goal

pub loop-s-init : goal.loop-s-init
loop-s-init c =
    let p = c.put_row-next.ensures in
    record {
      upper_bound = omega (arith, p.upper_bound);
      placed = later-start line_feed chart_row _ _ (omega (arith, p.placed.room, joining.same_length p.placed));
    }

pub loop-s-preserved : goal.loop-s-preserved
loop-s-preserved c =
    let l = c.loop-s in
    let row = c.put_row-next-in-loop-s.ensures in
    let line = joined c.put-next.ensures row.placed in
    record {
      upper_bound = omega (arith, c.put-next.ensures.ends, row.upper_bound);
      placed = later-put line_feed chart_row l.s (omega arith) l.invariant.placed line;
    }

pub returns : goal.returns
unfolding chart_text
returns c =
    let lines = between_put line_feed chart_row max_stages (omega arith) c.loop-s.s (omega arith) c.put_row-next.ensures.placed c.loop-s.invariant.placed in
    let chart = joined lines c.put.ensures in
    let front = at_front chart in
    record { value = front.0; out_after = front.1.0; prefix_len = front.1.1; numbers = ap numbers_in (opening chart) ∙ printed-table }
