-- `delays` is right: before node j the rows of all nodes before it hold their delays, so the delay to j's upper end is known; its edge adds its own, and the
-- pin at j its via.
use mathlib.Core.Path.{◌≡◌}
use lib.ListN.{length}
use Rattle.words.specs.Words.{net_in}
use Rattle.delays.specs.Delayed.{Delaying}
use Rattle.delays.proofs.delays.Given as goal

abbrev pub invariant-loop-j : goal.invariant-loop-j
invariant-loop-j l = Delaying (net_in l.wires.net.words.now) l.first l.columns l.delay l.j × (length l.delay ≡ length l.initial.delay)
