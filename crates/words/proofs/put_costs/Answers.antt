-- `put_costs` is right: before layer l the row has the costs on the layers below l, and they are in their range.
use Rattle.words.proofs.Cells.{costing_start, costing_more, costing_no, costing_end}
use Rattle.words.proofs.put_costs.Goals as goal

pub loop-l-init : goal.loop-l-init
loop-l-init c = costing_start _ _ _ _ _

pub returns-then-not-cost_in_range : goal.returns-then-not-cost_in_range
returns-then-not-cost_in_range c =
    costing_no c.loop-l.invariant c.loop-l-test.true c.number-cost.ensures c.cost_in_range.ensures c.if-not-cost_in_range.true

pub loop-l-preserved : goal.loop-l-preserved
loop-l-preserved c =
    costing_more c.loop-l.invariant c.loop-l-test.true c.number-cost.ensures c.cost_in_range.ensures c.requires.2 c.requires.0 c.if-not-cost_in_range.false

pub returns : goal.returns
returns c = costing_end c.loop-l.invariant c.loop-l-test.false
