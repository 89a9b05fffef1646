-- `least_rounded` is right: before layer l it has the least of the layers before l.
use Prim.Native.Nat.{◌/◌}
use Rattle.slices.specs.Laid.{on_layer}
use Rattle.rounding.proofs.Totals.{Least}
use Rattle.rounding.proofs.least_rounded.Given as goal

abbrev pub invariant-loop-l : goal.invariant-loop-l
invariant-loop-l l = Least (λ m. on_layer l.tree.cost.now l.i m / l.g) l.tree.layers l.least l.l
