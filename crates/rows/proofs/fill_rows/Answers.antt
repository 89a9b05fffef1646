-- `fill_rows` is right: the rows of the stages from i on are finished, and each is made from rows of stages after it.
use Rattle.std.proofs.Common.{arith, rules}
use Rattle.rows.proofs.Tables.{rows_more, rows_end}
use Rattle.rows.proofs.fill_rows.Goals as goal

pub loop-i-preserved : goal.loop-i-preserved
loop-i-preserved c =
    rows_more c.requires.0 c.loop-i.invariant (omega arith) (search rules) (search rules) c.stage_row-span.ensures

pub returns : goal.returns
returns c = rows_end c.requires.0 c.loop-i.invariant (omega arith)
