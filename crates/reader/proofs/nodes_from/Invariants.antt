-- `nodes_from` is right: at each turn the arrays stand for the nodes read so far, and the definition from here on gives the answer of the whole.
use Prim.Native.Nat.{◌-◌}
use lib.ListN.{length}
use Rattle.reader.proofs.Loop.{ReadSoFar}
use Rattle.reader.proofs.nodes_from.Given as goal

abbrev pub invariant-loop-at : goal.invariant-loop-at
invariant-loop-at l = ReadSoFar l.net l.layers l.first l.keep l.initial.words l.words l.kids l.at l.so_far.count l.so_far.buffers

abbrev pub decreases-loop-at : goal.decreases-loop-at
decreases-loop-at l = length l.net - l.at
