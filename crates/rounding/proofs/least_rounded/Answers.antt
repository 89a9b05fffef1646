-- `least_rounded` is right: before layer l it has the least of the layers before l.
use Rattle.rounding.proofs.Totals.{least_end}
use Rattle.rounding.proofs.least_rounded.Goals as goal

pub returns : goal.returns
returns c = least_end c.requires.some-layer c.loop-l.invariant c.loop-l-test.false
