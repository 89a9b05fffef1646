-- `excess_row` is right: on each layer the entry is what the rounded cost is above the least, and the rest of the slice is as it was.
use Prim.Native.Nat.{◌-◌, ◌/◌}
use Rattle.rules.specs.Bytes.{max_layers}
use Rattle.slices.specs.Laid.{on_layer}
use Rattle.slices.specs.Rows.{Setting}
use Rattle.rounding.proofs.excess_row.Given as goal

abbrev pub invariant-loop-l : goal.invariant-loop-l
invariant-loop-l l = Setting 0 max_layers l.initial.excess l.excess l.i l.tree.layers l.l (λ m. on_layer l.tree.cost.now l.i m / l.g - l.least)
