-- `rounds_by` is right: each outcome of the rounds is one answer of 02, the cheapest plan is judged as every plan is, and the floor of the last k run is the
-- largest.
use native.Mathlib.Omega.{arith}
use Rattle.std.proofs.lemmas.Result.{err_from_is_err_and}
use Rattle.rounds_planning.specs.Calls.{rounds-unplanned, best_of_net, best-fits, rounds-found-told}
use Rattle.rounds_planning.proofs.rounds_by.Goals as goal

pub returns-in_err-found-clause-answer : goal.returns-in_err-found-clause-answer
returns-in_err-found-clause-answer c = λ bs h.
    let p = err_from_is_err_and c.from_residual.result c.from_residual.ensures.1 in
    rw (p.1, p.2) (rounds-unplanned bs _ _ _ c.requires h _ c.in_err-found.ensures)

pub judged_plan-requires : goal.judged_plan-requires
judged_plan-requires c =
    let G = c.requires in
    let I = c.in_ok-found.ensures in
    let B = best_of_net _ _ G I in
    (best-fits _ _ G I, B.floor-low)

pub returns-clause-answer : goal.returns-clause-answer
returns-clause-answer c = λ bs h. rounds-found-told bs _ _ _ c.requires h c.in_ok-found.ensures c.judged_plan.ensures

pub returns-clause-some_run : goal.returns-clause-some_run
returns-clause-some_run c =
    let B = best_of_net _ _ c.requires c.in_ok-found.ensures in
    rw c.judged_plan.ensures (omega (arith, B.k-most))
