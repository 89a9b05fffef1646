-- `put_met_line` is right: nothing is put for a count of 0; else the word with its number is put, and the count as the rest of the line.
use native.Mathlib.Omega.{arith}
use Rattle.text.proofs.Joining.{nothing, joined}
use Rattle.report_text.proofs.Lines.{none-met, line-met}
use Rattle.report_text.proofs.put_met_line.Goals as goal

pub returns-then-count-eq0 : goal.returns-then-count-eq0
returns-then-count-eq0 c =
    record { placed = rw (none-met c.args.word.now _ _ c.if-count-eq0.true) (nothing _ _ (omega arith)); upper_bound = omega arith }

pub returns : goal.returns
returns c =
    let count = c.put_count.ensures in
    let line = line-met c.args.word.now c.args.i c.args.count (omega arith) in
    record { placed = rw line (joined c.put_field-next.ensures.placed count.placed); upper_bound = omega (arith, count.upper_bound) }
