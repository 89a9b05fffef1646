-- `stages` is right: before node j the tables hold the stages of all edges before it, and the count is the number of buffers among the nodes before it.
use Rattle.words.specs.Words.{net_in}
use Rattle.tree.specs.Staged.{Passing}
use Rattle.tree.proofs.stages.Given as goal

abbrev pub invariant-loop-j : goal.invariant-loop-j
invariant-loop-j l = Passing (net_in l.net.words.now) l.stage l.below l.j l.count
