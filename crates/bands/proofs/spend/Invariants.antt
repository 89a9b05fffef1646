-- `spend` is right: from the last column down to c + i the row holds the later of its own entry and that of the other row at c less budget.
use Rattle.bands.proofs.Columns.{Spending}
use Rattle.bands.proofs.spend.Given as goal

abbrev pub invariant-loop-i : goal.invariant-loop-i
invariant-loop-i l = Spending l.initial.table l.row l.out l.start l.fn.part.end l.c l.fn.part.delay l.table l.i
