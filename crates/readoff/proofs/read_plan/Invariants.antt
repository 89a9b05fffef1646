-- `read_plan` is right: what is read so far and what the definition reads from the times now are the whole plan.
use Rattle.readoff.proofs.Plan.{Reading}
use Rattle.readoff.proofs.read_plan.Given as goal

abbrev pub invariant-loop-i : goal.invariant-loop-i
invariant-loop-i l =
    Reading l.table l.tree.driver.now l.links.first.now l.links.next.now l.tree.delay.now l.tree.limit.now l.tree.cost.now l.bands.starts.now l.bands.ends.now
    l.tree.stages l.tree.layers l.n.width l.n.grain l.tree.arrival l.initial.times l.initial.plan l.times l.plan l.i
