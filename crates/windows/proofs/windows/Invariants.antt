-- `windows` is right: the stages before j have their windows, and stage j's follows from that of the stage that drives it.
use Rattle.windows.proofs.Opening.{Opening}
use Rattle.windows.proofs.windows.Given as goal

abbrev pub invariant-loop-j : goal.invariant-loop-j
invariant-loop-j l = Opening l.tree.driver.now l.tree.delay.now l.tree.stages l.tree.layers l.tree.arrival l.early l.late l.j
