-- `write_report` is right: a refusal prints its line, and an accepted block the totals.
use native.Mathlib.Omega.{arith}
use Rattle.text.proofs.Joining.{at_front}
use Rattle.report_text.proofs.Lines.{refused_text, totals_text_lem}
use Rattle.report_text.proofs.write_report.Goals as goal

pub returns-then-report-ne0 : goal.returns-then-report-ne0
returns-then-report-ne0 c =
    let line = c.refused_line.ensures in
    rw (refused_text c.args.report (omega arith)) (record { value = line.value; out_after = line.out_after; prefix_len = line.prefix_len })

pub returns : goal.returns
returns c =
    let front = at_front c.put_totals.ensures in
    rw (totals_text_lem c.args.report (omega arith)) (record { value = front.0; out_after = front.1.0; prefix_len = front.1.1 })
