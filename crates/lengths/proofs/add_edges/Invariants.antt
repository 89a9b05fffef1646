-- `add_edges` is right: before node j each layer has the lengths of the edges before it whose stage is on that layer added to what stood there.
use Rattle.words.specs.Words.{net_in}
use Rattle.lengths.specs.Adding.{LengthsBefore}
use Rattle.lengths.proofs.add_edges.Given as goal

abbrev pub invariant-loop-j : goal.invariant-loop-j
invariant-loop-j l = LengthsBefore (net_in l.staged.net.words.now) l.plan l.initial.lengths l.lengths l.j
