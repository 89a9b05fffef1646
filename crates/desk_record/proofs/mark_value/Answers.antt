-- `mark_value` is right: its number is the definition's, and where that is 0 the stage has its place.
use mathlib.Core.Path.{sym, ◌∙◌}
use Rattle.laws.specs.Basic.{bit}
use Rattle.desk_record.specs.OnRecord.{mark_on, marked, none-due, stage-place, change_accepted}
use Rattle.desk_record.proofs.Refusing.{byte_bit, refused_keeps}
use Rattle.desk_record.proofs.mark_value.Goals as goal

pub returns-in-Some : goal.returns-in-Some
unfolding mark_on
returns-in-Some c =
    let s = c.args in
    refused_keeps s.v (marked s.v s.stage (bit s.lock)) c.in-Some.why c.refused.ensures (rw (← c.below-there.ensures) c.in-Some.ensures)

pub bounds-w-stage : goal.bounds-w-stage
bounds-w-stage c = stage-place c.args.v _ (sym c.below-there.ensures ∙ (none-due _ _ _ _ c.in_default.ensures).1)

pub returns : goal.returns
unfolding mark_on
returns c =
    let s = c.args in
    rw (c.from.ensures, byte_bit s.lock) (change_accepted s.v (marked s.v s.stage (bit s.lock)) (rw (← c.below-there.ensures) c.in_default.ensures))
