-- `branches` is right: the driven stages, led to by the links, are merged one after the other, the first under the stage's own limit.
use Rattle.std.proofs.Common.{◌-◌}
use Rattle.branches.proofs.Joins.{Joining}
use Rattle.branches.proofs.branches.Given as goal

abbrev pub invariant-loop-j : goal.invariant-loop-j
invariant-loop-j l =
    Joining l.initial.table l.tree.driver.now l.links.first.now l.links.next.now l.tree.delay.now l.tree.limit.now l.bands.starts.now l.bands.ends.now
    l.tree.stages l.width l.left l.i l.l l.initial.part.row l.initial.part.start l.initial.part.end l.initial.part.delay l.initial.j
    l.table l.part.row l.spare l.other l.j l.part.start l.part.end l.part.delay

abbrev pub decreases-loop-j : goal.decreases-loop-j
decreases-loop-j l = l.tree.stages - l.j
