-- `number` is right: after k bytes x is the number in those k bytes, and it is below 256^k, so the next byte fits.
use native.Mathlib.Omega.{arith}
use borrow.Author.Rules.{rules}
use Prim.Native.Nat.{◌+◌}
use Rattle.rules.specs.Bytes.{number}
use Rattle.fields.proofs.Laws.{number-room, byte_more, number_more}
use Rattle.fields.proofs.number.Goals as goal

pub loop-k-init : goal.loop-k-init
unfolding number
loop-k-init c = search rules

pub overflow_mul-x : goal.overflow_mul-x
overflow_mul-x c = let r = number-room _ _ _ c.loop-k.invariant.1 c.loop-k-test.true c.requires.0 in omega arith

pub overflow_add-x : goal.overflow_add-x
overflow_add-x c =
    let r = number-room _ _ _ c.loop-k.invariant.1 c.loop-k-test.true c.requires.0 in
    omega (arith, c.type_inv.net (c.args.at + c.loop-k.k))

pub loop-k-preserved : goal.loop-k-preserved
loop-k-preserved c = (
  rw c.from.ensures (number_more _ _ _ _ c.loop-k.invariant.0),
  byte_more _ _ _ c.loop-k.invariant.1 (omega (arith, c.type_inv.net (c.args.at + c.loop-k.k))),
)
