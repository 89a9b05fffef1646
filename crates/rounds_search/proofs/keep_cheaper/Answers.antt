-- `keep_cheaper` is right: a plan's rounded cost at grain 1 is its cost, and the plan known now is copied only where it costs less.
use mathlib.Core.Path.{refl}
use native.Mathlib.Omega.{arith}
use Rattle.rounds_search.proofs.Rounds.{copied-plan, best-kept, best_replaced}
use Rattle.rounds_search.proofs.keep_cheaper.Goals as goal

pub returns-then-least-found : goal.returns-then-least-found
returns-then-least-found c = λ T C M l. best-kept T _ _ _ l (c.rounded_cost-found.ensures T 0 C refl M) (omega arith)

pub returns : goal.returns
returns c = λ T C M l.
    let f = c.rounded_cost-found.ensures T 0 C refl M in
    let long = c.requires.0.long in
    best_replaced T _ _ _ l f (omega arith) (copied-plan _ _ _ long c.copy_plan.ensures)
