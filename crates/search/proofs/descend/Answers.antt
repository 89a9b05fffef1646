-- `descend` is right: none of the k above has qualified, so the first that does is the grain's, and a V(k) that does not fit settles that the grain's
-- does not.
use borrow.Author.Rules.{rules}
use mathlib.Core.Path.{refl, sym, ◌∙◌}
use Rattle.search.proofs.Descent.{descending_start, bound_test, turn-over, plan-at_in, turn-short, turn-test, turn-found, turn_more}
use Rattle.search.proofs.descend.Goals as goal

pub loop-k-init : goal.loop-k-init
loop-k-init c = descending_start refl

pub qualifies-requires : goal.qualifies-requires
qualifies-requires c = bound_test c.loop-k.invariant c.loop-k-test.true c.rounded_cost-bound.ensures c.requires

pub plan_at-requires : goal.plan_at-requires
plan_at-requires c = plan-at_in c.loop-k.invariant c.loop-k-test.true c.rounded_cost-bound.ensures c.requires

pub returns-in_default : goal.returns-in_default
returns-in_default c = turn-short c.loop-k.invariant c.loop-k-test.true c.rounded_cost-bound.ensures c.in_default.ensures

pub qualifies-requires-then-qualifies : goal.qualifies-requires-then-qualifies
qualifies-requires-then-qualifies c =
    turn-test c.loop-k.invariant c.loop-k-test.true c.rounded_cost-bound.ensures c.in-Some.ensures c.requires

pub returns-then-qualifies-2 : goal.returns-then-qualifies-2
returns-then-qualifies-2 c = λ T P M.
    let test = sym c.qualifies-then-qualifies.ensures ∙ c.if-qualifies-2.true in
    turn-found c.loop-k.invariant c.loop-k-test.true c.rounded_cost-bound.ensures c.in-Some.ensures test T P M

pub loop-k-preserved-else-qualifies-2 : goal.loop-k-preserved-else-qualifies-2
loop-k-preserved-else-qualifies-2 c =
    let test = sym c.qualifies-then-qualifies.ensures ∙ c.if-qualifies-2.false in
    turn_more c.loop-k.invariant c.loop-k-test.true c.rounded_cost-bound.ensures c.in-Some.ensures test (search rules) (search rules)

pub loop-k-preserved : goal.loop-k-preserved
loop-k-preserved c =
    let test = sym c.qualifies.ensures ∙ c.if-qualifies.false in
    turn-over c.loop-k.invariant c.loop-k-test.true c.rounded_cost-bound.ensures test
