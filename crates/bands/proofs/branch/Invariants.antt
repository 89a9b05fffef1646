-- `branch` is right: each entry before w is the lesser of the driven stage's entry less the delay and the limit.
use Rattle.bands.proofs.Columns.{Branching}
use Rattle.bands.proofs.branch.Given as goal

abbrev pub invariant-loop-w : goal.invariant-loop-w
invariant-loop-w l = Branching l.initial.table l.row l.out l.fn.part.start l.end l.fn.part.delay l.limit l.table l.w
