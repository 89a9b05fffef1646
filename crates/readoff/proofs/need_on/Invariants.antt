-- `need_on` is right: it adds the rounded cost and what the stages driven need, up to one more than the budgets, and the links pass over none; a late
-- sink is above them all.
use Prim.Native.Nat.{◌-◌}
use Rattle.readoff.proofs.Needs.{NeedSoFar}
use Rattle.readoff.proofs.need_on.Given as goal

abbrev pub invariant-loop-j : goal.invariant-loop-j
invariant-loop-j l =
    NeedSoFar l.table l.tree.driver.now l.links.first.now l.links.next.now l.tree.delay.now l.tree.limit.now l.tree.cost.now l.bands.starts.now l.bands.ends.now
    l.tree.stages l.n.width l.n.grain l.i l.l l.t l.need l.j

abbrev pub decreases-loop-j : goal.decreases-loop-j
decreases-loop-j l = l.tree.stages - l.j
