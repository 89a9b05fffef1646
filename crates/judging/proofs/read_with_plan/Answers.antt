-- `read_with_plan` is right: it meets the refusals in the definition's order, and what is left after them is a plan of the net.
use mathlib.Core.Path.{◌∙◌}
use Rattle.std.proofs.lemmas.Result.{err_from_is_err_and}
use Rattle.reader.specs.Kept.{held-read}
use Rattle.judging.proofs.Judging.{judging-unread, plan_7, plan_8, plan-there}
use Rattle.judging.proofs.read_with_plan.Goals as goal

pub returns-in_err-counts : goal.returns-in_err-counts
returns-in_err-counts c =
    let p = err_from_is_err_and c.from_residual.result c.from_residual.ensures.1 in
    rw (p.1, p.2) (judging-unread _ _ c.in_err-counts.ensures)

pub returns-then-plan-counts : goal.returns-then-plan-counts
returns-then-plan-counts c = plan_7 _ _ (held-read c.in_ok-counts.ensures (c.read.auto.words ∙ c.requires)) c.if-plan-counts.true

pub returns-then-not-are_layers : goal.returns-then-not-are_layers
returns-then-not-are_layers c =
    let k = held-read c.in_ok-counts.ensures (c.read.auto.words ∙ c.requires) in
    plan_8 _ _ k c.if-plan-counts.false (c.are_layers.ensures _ k.held.layers-are) c.if-not-are_layers.true

pub returns : goal.returns
returns c =
    let k = held-read c.in_ok-counts.ensures (c.read.auto.words ∙ c.requires) in
    plan-there _ _ k c.if-plan-counts.false (c.are_layers.ensures _ k.held.layers-are) c.if-not-are_layers.false
