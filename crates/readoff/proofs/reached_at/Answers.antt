-- `reached_at` is right: a time that is not far from 0 and a delay add up within 64 bits.
use mir.Facts.{to_z-of_z}
use Rattle.readoff.specs.NearTimes.{near_fits, near-sum}
use Rattle.readoff.proofs.reached_at.Goals as goal

pub overflow_add-result : goal.overflow_add-result
overflow_add-result c = rw (near-sum _ _ c.ranges.t c.requires.1) (near_fits _ _ c.requires.2 c.requires.1)

pub returns : goal.returns
returns c = rw (near-sum _ _ c.ranges.t c.requires.1) (to_z-of_z (near_fits _ _ c.requires.2 c.requires.1))
