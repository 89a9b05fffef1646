-- `push` is right: one driven stage after the other is given its time, and the links pass over none.
use Prim.Native.Nat.{◌-◌}
use Rattle.readoff.proofs.Times.{Pushing}
use Rattle.readoff.proofs.push.Given as goal

abbrev pub invariant-loop-to : goal.invariant-loop-to
invariant-loop-to l = Pushing l.tree.driver.now l.tree.delay.now l.initial.times l.tree.stages l.i l.l l.times l.to

abbrev pub decreases-loop-to : goal.decreases-loop-to
decreases-loop-to l = l.tree.stages - l.to
