-- `after` is right: the time and the delay are small enough for their sum to fit.
use mir.Facts.{to_z-of_z}
use Rattle.readoff.specs.NearTimes.{near_fits, near-sum}
use Rattle.windows.proofs.after.Goals as goal

pub overflow_add-result : goal.overflow_add-result
overflow_add-result c = rw (near-sum _ _ c.ranges.t c.requires.0) (near_fits _ _ c.requires.1 c.requires.0)

pub returns : goal.returns
returns c = rw (near-sum _ _ c.ranges.t c.requires.0) (to_z-of_z (near_fits _ _ c.requires.1 c.requires.0))
