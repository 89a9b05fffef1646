-- `plan_by` is right: each outcome of the search is one answer of 01, and the plan found is judged as every plan is.
use Rattle.std.proofs.lemmas.Result.{err_from_is_err_and}
use Rattle.words.specs.Held.{held-accepted}
use Rattle.planning.specs.Outcomes.{floor-low}
use Rattle.planning.specs.Calls.{unplanned-answer, served-net, plan-fits, found-told}
use Rattle.planning.proofs.plan_by.Goals as goal

pub returns-in_err-found : goal.returns-in_err-found
returns-in_err-found c = λ bs h.
    let p = err_from_is_err_and c.from_residual.result c.from_residual.ensures.1 in
    rw (p.1, p.2) (unplanned-answer bs _ _ _ _ c.requires h _ c.in_err-found.ensures)

pub judged_plan-requires : goal.judged_plan-requires
judged_plan-requires c =
    let G = c.requires in
    let I = c.in_ok-found.ensures in
    (plan-fits _ _ G I, floor-low (held-accepted G.held) (served-net _ _ G I))

pub returns : goal.returns
returns c = λ bs h. found-told bs _ _ _ _ c.requires h c.in_ok-found.ensures c.judged_plan.ensures
