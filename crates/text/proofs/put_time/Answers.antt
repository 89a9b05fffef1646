-- `put_time` is right: below 0 a sign comes before the digits of the size, else the digits stand alone.
use mathlib.Core.Path.{ap}
use native.Mathlib.Omega.{arith}
use lib.ListN.{length}
use Rattle.text.proofs.Joining.{joined}
use Rattle.text.proofs.Times.{time_length, time_below, time_above}
use Rattle.text.proofs.put_time.Goals as goal

pub put-next-requires : goal.put-next-requires
put-next-requires c = omega (arith, ap length (time_below _ _ c.ranges.t c.if-t-lt0.true c.unsigned_abs-n.ensures.value))

pub put_number-requires : goal.put_number-requires
put_number-requires c = omega (arith, ap length (time_below _ _ c.ranges.t c.if-t-lt0.true c.unsigned_abs-n.ensures.value))

pub returns-then-t-lt0 : goal.returns-then-t-lt0
returns-then-t-lt0 c =
    let e = time_below _ _ c.ranges.t c.if-t-lt0.true c.unsigned_abs-n.ensures.value in
    record {
      placed = rw e (joined c.put-next.ensures c.put_number.ensures);
      upper_bound = omega (arith, ap length e, time_length c.args.t c.ranges.t);
    }

pub put_number-requires-2 : goal.put_number-requires-2
put_number-requires-2 c = omega (arith, ap length (time_above _ _ c.ranges.t c.if-t-lt0.false c.unsigned_abs-n.ensures.value))

pub returns : goal.returns
returns c =
    let e = time_above _ _ c.ranges.t c.if-t-lt0.false c.unsigned_abs-n.ensures.value in
    record { placed = rw e c.put_number-2.ensures; upper_bound = omega (arith, ap length e, time_length c.args.t c.ranges.t) }
