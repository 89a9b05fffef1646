-- `put_plan` is right: after i turns the numbers of the first i layers stand at `at`, and they take at most 4 bytes each.
use native.Mathlib.Omega.{arith}
use Rattle.rules.specs.Program.{layer_numbers}
use Rattle.text.proofs.Joining.{nothing}
use Rattle.line.proofs.Layers.{layer-put}
use Rattle.text.proofs.Decimal.{byte_length}
use Rattle.line.proofs.put_plan.Goals as goal

pub loop-layer-init : goal.loop-layer-init
unfolding layer_numbers
loop-layer-init c = record { upper_bound = omega arith; placed = nothing _ _ (omega arith) }

-- A layer is a byte, so its number has at most three digits.
pub put_field-next-requires : goal.put_field-next-requires
put_field-next-requires c = omega (arith, byte_length c.from.result (rw c.from.ensures (c.type_inv.plan c.loop-layer.layer-index).fits))

pub loop-layer-preserved : goal.loop-layer-preserved
loop-layer-preserved c =
    let l = c.loop-layer in
    let short = byte_length c.from.result (rw c.from.ensures (c.type_inv.plan l.layer-index).fits) in
    record {
      upper_bound = omega arith;
      placed = layer-put c.args.plan.now l.layer-index (omega arith) l.invariant.placed (rw c.from.ensures at c.put_field-next.ensures.placed);
    }
