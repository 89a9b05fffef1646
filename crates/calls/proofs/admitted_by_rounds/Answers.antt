-- `admitted_by_rounds` is right: it meets the refusals in the definition's order, and what is left after them may be planned by rounds.
use mathlib.Core.Path.{sym, ◌∙◌}
use Rattle.std.proofs.lemmas.Result.{err_from_is_err_and}
use Rattle.reader.specs.Kept.{held-read}
use Rattle.calls.proofs.Rounds.{unread-by-rounds, refused_14, rounds-roomy}
use Rattle.calls.proofs.admitted_by_rounds.Goals as goal

pub returns-in_err-counts : goal.returns-in_err-counts
returns-in_err-counts c =
    let p = err_from_is_err_and c.from_residual.result c.from_residual.ensures.1 in
    rw (p.1, p.2) (unread-by-rounds _ _ _ c.in_err-counts.ensures)

pub returns-then-not-rounds_in_range : goal.returns-then-not-rounds_in_range
returns-then-not-rounds_in_range c =
    refused_14 _ _ _ (held-read c.in_ok-counts.ensures (c.read.auto.words ∙ c.requires)) (sym c.if-not-rounds_in_range.ensures)

pub returns : goal.returns
returns c =
    rounds-roomy _ _ _ (held-read c.in_ok-counts.ensures (c.read.auto.words ∙ c.requires)) (sym c.if-not-rounds_in_range.ensures)
    c.with_room.result c.with_room.ensures
