-- `raise` is right: the columns before w are raised, and `best` is the last of them.
use Rattle.bands.proofs.Columns.{Raising}
use Rattle.bands.proofs.raise.Given as goal

abbrev pub invariant-loop-w : goal.invariant-loop-w
invariant-loop-w l = Raising l.initial.table l.row l.top l.table l.best l.w
