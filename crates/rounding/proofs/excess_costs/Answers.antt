-- `excess_costs` is right: the rows of the stages so far are done, and what was taken off them is added up.
use native.Mathlib.Omega.{arith}
use Rattle.rounding.proofs.Totals.{excess-row_in, least-most, taken_more, taken_end}
use Rattle.rounding.proofs.excess_costs.Goals as goal

pub excess_row-requires : goal.excess_row-requires
excess_row-requires c =
    excess-row_in c.requires c.loop-i.invariant c.loop-i-test.true c.least_rounded-least.ensures

pub overflow_add-base : goal.overflow_add-base
overflow_add-base c =
    let P = c.requires in
    let most = least-most P c.loop-i-test.true c.least_rounded-least.ensures in
    omega (arith, c.loop-i.invariant.sum_is.most, P.costs.few-stages, P.costs.stages-are)

pub loop-i-preserved : goal.loop-i-preserved
loop-i-preserved c =
    taken_more c.requires c.loop-i.invariant c.loop-i-test.true c.least_rounded-least.ensures
    c.excess_row.ensures

pub returns : goal.returns
returns c = taken_end c.requires.excess-long c.loop-i.invariant c.loop-i-test.false
