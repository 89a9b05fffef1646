-- `add_vias` is right: in each column the via of the layer that the column stands for is added to the delay to the node, and nothing else changes.
use Rattle.words.specs.Words.{net_in}
use Rattle.slices.specs.Rows.{Setting}
use Rattle.delays.specs.Delayed.{via_added}
use Rattle.delays.proofs.add_vias.Given as goal

abbrev pub invariant-loop-c : goal.invariant-loop-c
invariant-loop-c l =
    Setting 0 l.columns l.initial.delay l.delay l.j l.columns l.c (via_added (net_in l.net.words.now) l.columns l.initial.delay l.layer l.pin l.j)
