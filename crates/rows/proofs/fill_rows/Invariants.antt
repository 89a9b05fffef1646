-- `fill_rows` is right: the rows of the stages from i on are finished, and each is made from rows of stages after it.
use Rattle.rows.proofs.Tables.{RowsFrom}
use Rattle.rows.proofs.fill_rows.Given as goal

abbrev pub invariant-loop-i : goal.invariant-loop-i
invariant-loop-i l =
    RowsFrom l.initial.table l.tree.driver.now l.tree.delay.now l.tree.limit.now l.tree.cost.now l.windows.early.now l.windows.late.now
    l.initial.starts l.initial.ends l.tree.stages l.tree.layers l.n.grain l.n.width l.table l.starts l.ends l.i
