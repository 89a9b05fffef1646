-- `loads` is right: before node j is taken each entry is what the children after j add, so j adds its whole load, and each count is that of the stage's edges
-- after j, to which the edge to j is one more; in the end all children have added, and all edges are counted.
use mathlib.Core.Path.{◌≡◌}
use lib.ListN.{length}
use Rattle.words.specs.Words.{net_in}
use Rattle.loads.specs.Loaded.{Loading}
use Rattle.loads.specs.Counted.{Counting}
use Rattle.loads.proofs.loads.Given as goal

abbrev pub invariant-loop-j : goal.invariant-loop-j
invariant-loop-j l =
    Loading (net_in l.wires.net.words.now) l.first l.columns l.load l.j × (length l.load ≡ length l.initial.load) × Counting (net_in l.wires.net.words.now) l.edges l.j
