-- `rounded_cost` is right: what is added up so far is the rounded cost of the stages so far.
use Rattle.rounding.proofs.Totals.{Total, rounds}
use Rattle.rounding.proofs.rounded_cost.Given as goal

abbrev pub invariant-loop-i : goal.invariant-loop-i
invariant-loop-i l = Total (rounds l.cost l.plan l.g) l.stages l.total l.i
