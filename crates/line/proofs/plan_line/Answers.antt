-- `plan_line` is right: the parts of the line are put one after the other, and none is longer than its share of the longest line.
use native.Mathlib.Omega.{arith}
use mir.Facts.{to_z-of_z}
use Rattle.rules.specs.Program.{plan_line}
use Rattle.text.proofs.Joining.{joined, at_front}
use Rattle.text.proofs.Times.{time_length}
use Rattle.line.proofs.plan_line.Goals as goal

pub put_time-at-requires : goal.put_time-at-requires
put_time-at-requires c = rw (to_z-of_z c.ranges.slack) (omega (arith, time_length c.args.slack c.ranges.slack))

pub returns : goal.returns
unfolding plan_line
returns c =
    let numbers = joined c.put_field-at.ensures.placed c.put_field-at-2.ensures.placed in
    let slack = rw (to_z-of_z c.ranges.slack) at c.put_time-at.ensures.placed in
    let times = joined (joined numbers c.put-at.ensures) slack in
    let stages = joined (joined times c.put-at-2.ensures) c.put_plan-at.ensures.placed in
    let front = at_front (joined stages c.put.ensures) in
    record { value = front.0; out_after = front.1.0; prefix_len = front.1.1 }
