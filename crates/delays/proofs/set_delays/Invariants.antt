-- `set_delays` is right: in each column the delay to the node, but for the via at it, is the delay to the upper end of its edge and the edge delay; the loop
-- leaves the rows of its parent as they were.
use Rattle.words.specs.Words.{net_in}
use Rattle.slices.specs.Rows.{Setting}
use Rattle.delays.specs.Delayed.{delay_on}
use Rattle.delays.proofs.set_delays.Given as goal

abbrev pub invariant-loop-c : goal.invariant-loop-c
invariant-loop-c l =
    let e = l.edge in
    Setting 0 l.columns l.initial.delay l.delay e.j l.columns l.c
    (delay_on (net_in l.net.words.now) l.columns l.load l.initial.delay
    e.gate e.node.len e.node.kind e.layer e.node.parent e.j)
