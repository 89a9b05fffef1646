-- `layer_for` is right: it takes the first layer whose need is within the least; the last attains it if no other does.
use Rattle.readoff.proofs.Layers.{Trying}
use Rattle.readoff.proofs.layer_for.Given as goal

abbrev pub invariant-loop-l : goal.invariant-loop-l
invariant-loop-l l =
    Trying l.table l.tree.driver.now l.links.first.now l.links.next.now l.tree.delay.now l.tree.limit.now l.tree.cost.now l.bands.starts.now l.bands.ends.now
    l.tree.stages l.tree.layers l.n.width l.n.grain l.i l.t l.l
