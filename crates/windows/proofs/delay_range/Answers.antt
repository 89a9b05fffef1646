-- `delay_range` is right: the delays on the layers before l are from `least` to `most`.
use Rattle.windows.proofs.Opening.{delays-more}
use Rattle.windows.proofs.delay_range.Goals as goal

pub loop-l-preserved : goal.loop-l-preserved
loop-l-preserved c = delays-more c.loop-l.invariant c.loop-l-test.true c.min-least.ensures c.max-most.ensures
