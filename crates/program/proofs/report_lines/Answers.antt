-- `report_lines` is right: what is written is the text of the report that the library answers.
use Rattle.rules.specs.Block.{report_text}
use Rattle.program.proofs.report_lines.Goals as goal

pub returns : goal.returns
unfolding report_text
returns c =
    let text = c.write_report.ensures in
    record { value = rw (← c.report-report.ensures.value) text.value; out_after = rw (← c.report-report.ensures.value) text.out_after; prefix_len = text.prefix_len }
