-- `lower_limits` is right: on each layer the limit becomes the lesser of what it was and what the sink asks.
use mathlib.Core.Path.{◌∙◌}
use native.Mathlib.Omega.{arith}
use borrow.Author.Rules.{sfits_of}
use mir.Facts.{to_z-of_z}
use mir.Syntax.{w64}
use Rattle.stage_numbers.proofs.Times.{lowered-more}
use Rattle.stage_numbers.proofs.lower_limits.Goals as goal

pub loop-l-preserved : goal.loop-l-preserved
loop-l-preserved c =
    let p = c.requires in
    lowered-more _ _ _ p.2 p.0 c.loop-l.invariant c.loop-l-test.true (to_z-of_z {w = w64} (sfits_of (omega arith)))
    (to_z-of_z {w = w64} (sfits_of c.lowered_limit.type_inv) ∙ c.lowered_limit.ensures)
