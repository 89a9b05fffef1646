-- `feasible` is right: at the largest grain every rounded cost is 0, so column 0 reaches the arrival time exactly if some plan meets timing, and the plan
-- read off that column does.
use Rattle.std.proofs.Common.{arith, refl}
use Rattle.rules.specs.Grain.{max_exponent}
use Rattle.rounds.proofs.Rounds.{value_found, feasible_none, feasible_some, read_in}
use Rattle.rounds.proofs.feasible.Goals as goal

pub returns-then-is_none : goal.returns-then-is_none
returns-then-is_none c = λ T N. feasible_none _ c.if-is_none.ensures N (c.value_at-least.ensures T max_exponent N refl)

pub read_plan-requires : goal.read_plan-requires
read_plan-requires c =
    let (T, N) = c.requires.some_tree in
    let (v, V) = value_found _ c.if-is_none.ensures (c.value_at-least.ensures T max_exponent N refl) in
    read_in N V c.args.ready.now.prepared.linked refl (omega (arith, N.stages-are, N.laid.delays.few-stages)) refl c.requires.room

pub returns : goal.returns
returns c = λ T N.
    let (v, V) = value_found _ c.if-is_none.ensures (c.value_at-least.ensures T max_exponent N refl) in
    feasible_some N V c.value_at-least.auto.table c.read_plan.ensures c.args.ready.now.prepared.linked
