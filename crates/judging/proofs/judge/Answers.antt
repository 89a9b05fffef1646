-- `judge` is right: a plan of the net is judged as every plan is, and a refusal comes with its number.
use mathlib.Core.Path.{◌∙◌}
use Rattle.judging.proofs.Judging.{judge-refused, judge-done}
use Rattle.judging.proofs.judge.Goals as goal

pub returns-in-Ok : goal.returns-in-Ok
returns-in-Ok c = c.judged.ensures ∙ rw c.of-net.ensures.0 (judge-done _ _ c.in-Ok.ensures.answer)

pub returns-in-Err : goal.returns-in-Err
returns-in-Err c = c.judging_refused.ensures ∙ rw c.from.ensures (judge-refused _ _ c.in-Err.ensures.answer)
