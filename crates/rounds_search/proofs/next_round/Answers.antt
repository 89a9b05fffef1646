-- `next_round` is right: V(k) is at least twice V(k + 1) and at most the rounded cost of the plan known. So a round that the first rules out need not be tried,
-- where the two are equal that plan is the one chosen at k too, and else the round finds V(k) or there are too few columns.
use native.Mathlib.Omega.{arith}
use Rattle.rounds.proofs.Grains.{costs_of}
use Rattle.rounds_search.proofs.Rounds.{found-meets, next_hopeless, next-is-kept, value-small, priced-known, known_at, next_in}
use Rattle.rounds_search.proofs.next_round.Goals as goal

pub overflow_mul-least : goal.overflow_mul-least
overflow_mul-least c = let low = value-small c.requires in omega arith

pub returns-then-columns-least : goal.returns-then-columns-least
returns-then-columns-least c = λ T k N e F. next_hopeless F (omega arith)

pub rounded_cost-bound-requires : goal.rounded_cost-bound-requires
rounded_cost-bound-requires c = priced-known c.requires

pub returns-then-bound-least : goal.returns-then-bound-least
returns-then-bound-least c = λ T k N e F.
    next-is-kept F (c.rounded_cost-bound.ensures T k (costs_of N) e (found-meets F)) (omega arith) (omega arith)

pub plan_at-requires : goal.plan_at-requires
plan_at-requires c = next_in c.requires c.rounded_cost-bound.ensures

pub returns : goal.returns
returns c = λ T k N e F. c.plan_at.ensures T k N e (known_at c.requires c.rounded_cost-bound.ensures T k N e F)
