-- `rounded_cost` is right: what is added up so far is the rounded cost of the stages so far.
use mathlib.Core.Path.{◌∙◌}
use Prim.Native.Nat.{◌^◌, ◌≤◌}
use native.Mathlib.Omega.{arith}
use Rattle.rules.specs.Grain.{max_exponent}
use Rattle.rounding.proofs.Totals.{total-more, total_end, on-layer, rounds-most, rounded-is}
use Rattle.rounding.proofs.rounded_cost.Goals as goal

pub stage_rounded-total-requires : goal.stage_rounded-total-requires
stage_rounded-total-requires c =
    let P = c.requires in
    on-layer _ P.costs P.meets P.some-grain _ c.loop-i-test.true

-- What is added is not above the largest grain.
small : (c : goal.After-stage_rounded-total) → c.stage_rounded-total.result ≤ 2 ^ max_exponent
small c =
    let P = c.requires in
    rounds-most c.args.plan.now P.costs P.meets _ c.loop-i-test.true c.stage_rounded-total.ensures

pub overflow_add-total : goal.overflow_add-total
overflow_add-total c =
    let C = c.requires.costs in
    omega (arith, small c, c.loop-i.invariant.most, C.few-stages, C.stages-are)

pub loop-i-preserved : goal.loop-i-preserved
loop-i-preserved c = total-more c.loop-i.invariant c.loop-i-test.true c.stage_rounded-total.ensures (small c)

pub returns : goal.returns
returns c = λ T k C e M. total_end c.loop-i.invariant c.loop-i-test.false ∙ rounded-is _ C M k e
