-- `vorphiel_plan_rounds` is right: it hands on what `plan_rounds` answers.
use borrow.Author.Rules.{rules}
use mir.Syntax.{w64}
use mir.Val.{SFits}
use mir.Facts.{to_z-of_z}
use Rattle.vorphiel_c.proofs.vorphiel_plan_rounds.Goals as goal

fits : (c : goal.After-struct_told-1) → SFits w64 c.plan_rounds-best.result.slack
fits c = search rules

pub returns : goal.returns
returns c = rw (to_z-of_z (fits c)) c.plan_rounds-best.ensures
