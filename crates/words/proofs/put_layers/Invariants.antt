-- `put_layers` is right: before layer l the array has the layers below l, and they are in their ranges.
use lib.ListN.{length}
use Rattle.words.proofs.Layers.{LayersSoFar}
use Rattle.words.proofs.put_layers.Given as goal

abbrev pub invariant-loop-l : goal.invariant-loop-l
invariant-loop-l l = LayersSoFar l.net l.tag l.layers l.at (length l.initial.words) l.words l.l
