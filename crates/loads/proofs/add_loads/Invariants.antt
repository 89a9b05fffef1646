-- `add_loads` is right: in each column the load at the upper end takes the edge's wire and the load at its lower end, which the loop leaves as it was.
use Prim.Native.Nat.{◌+◌}
use Rattle.words.specs.Words.{net_in}
use Rattle.slices.specs.Rows.{entry, Setting}
use Rattle.loads.specs.Edges.{added_on}
use Rattle.loads.proofs.add_loads.Given as goal

abbrev pub invariant-loop-c : goal.invariant-loop-c
invariant-loop-c l =
    Setting 0 l.columns l.initial.load l.load l.node.parent l.columns l.c (λ k. entry l.columns l.initial.load l.node.parent k + added_on (net_in l.net.words.now) l.columns l.initial.load l.node.len l.node.kind l.layer l.j k)
