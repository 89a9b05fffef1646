-- `stage_row` is right: the row is the best of the layers before l; raised and cut it is the band of the stage.
use Rattle.rows.proofs.Stages.{Layering}
use Rattle.rows.proofs.stage_row.Given as goal

abbrev pub invariant-loop-l : goal.invariant-loop-l
invariant-loop-l l =
    Layering l.initial.table l.tree.driver.now l.links.first.now l.links.next.now l.tree.delay.now l.tree.limit.now l.tree.cost.now
    l.bands.starts.now l.bands.ends.now l.tree.stages l.tree.layers l.n.grain l.n.width l.i l.early l.late l.table l.top l.l
