-- `excess_costs` is right: the rows of the stages so far are done, and what was taken off them is added up.
use Rattle.rounding.proofs.Totals.{TakenOff}
use Rattle.rounding.proofs.excess_costs.Given as goal

abbrev pub invariant-loop-i : goal.invariant-loop-i
invariant-loop-i l = TakenOff l.tree.cost.now l.tree.stages l.tree.layers l.g l.initial.excess l.excess l.base l.i
