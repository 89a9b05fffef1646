-- `plan_rounds` is right: the answer is that of the definition, and what it promises follows for every answer that is.
use mathlib.Core.Path.{sym, subst}
use Rattle.rules.specs.Rounds.{RoundsPromise}
use Rattle.demands.specs.Rounds.{rounds_promise}
use Rattle.vorphiel.proofs.plan_rounds.Goals as goal

pub returns : goal.returns
returns c =
    let E = c.planned_rounds.ensures in
    record { equation = E; rounds_promise = subst (RoundsPromise _ _ _ _) (sym E) (rounds_promise _ _ _ _) }
