-- `put_driver` is right: three stores of three numbers make row 0, and its ranges are those of a buffer and of a time.
use mathlib.Core.Path.{ap, ◌∙◌}
use borrow.Author.Rules.{sfits_of}
use mir.Facts.{to_z-of_z}
use mir.Syntax.{w64}
use Rattle.rules.specs.Bytes.{is_time}
use Rattle.words.proofs.Layers.{driver_no, driver-put}
use Rattle.words.proofs.put_driver.Goals as goal

pub returns-else-kind_in_range : goal.returns-else-kind_in_range
returns-else-kind_in_range c = rw c.if-kind_in_range.false
    (driver_no _ _ c.put_three.ensures c.put_three-2.ensures c.put_three-3.ensures c.number-gate_res.ensures c.number-intrinsic.ensures
    c.number-high.ensures c.number-low.ensures c.kind_of-kind.ensures c.time_of-arrival.ensures c.kind_in_range.ensures c.if-kind_in_range.false)

pub returns-then-kind_in_range : goal.returns-then-kind_in_range
returns-then-kind_in_range c =
    driver-put _ _ c.put_three.ensures c.put_three-2.ensures c.put_three-3.ensures c.number-gate_res.ensures c.number-intrinsic.ensures
    c.number-high.ensures c.number-low.ensures c.kind_of-kind.ensures c.time_of-arrival.ensures c.kind_in_range.ensures c.if-kind_in_range.true
    (c.time_in_range.ensures ∙ ap is_time (to_z-of_z (sfits_of {w = w64} c.time_of-arrival.type_inv)))
