-- `set_value` is right: its number is the definition's, and where that is 0 stage and layer have their places.
use mathlib.Core.Path.{sym, ◌∙◌}
use native.Mathlib.Omega.{arith}
use Rattle.desk_record.specs.OnRecord.{set_on, moved, none-due, stage-place, layer-place, change_accepted}
use Rattle.desk_record.proofs.Refusing.{refused_keeps}
use Rattle.desk_record.proofs.set_value.Goals as goal

pub returns-in-Some : goal.returns-in-Some
unfolding set_on
returns-in-Some c =
    let s = c.args in
    refused_keeps s.v (moved s.v s.stage s.layer) c.in-Some.why c.refused.ensures
    (rw (← c.below-there.ensures, ← c.below-fits.ensures, ← c.is_locked-locked.ensures) c.in-Some.ensures)

pub overflow_cast-w : goal.overflow_cast-w
overflow_cast-w c =
    let h = layer-place c.args.v _ (sym c.below-fits.ensures ∙ (none-due _ _ _ _ c.in_default.ensures).2) in
    record { fits = omega (arith, h) }

pub bounds-w-stage : goal.bounds-w-stage
bounds-w-stage c = stage-place c.args.v _ (sym c.below-there.ensures ∙ (none-due _ _ _ _ c.in_default.ensures).1)

pub returns : goal.returns
unfolding set_on
returns c =
    let s = c.args in
    change_accepted s.v (moved s.v s.stage s.layer)
    (rw (← c.below-there.ensures, ← c.below-fits.ensures, ← c.is_locked-locked.ensures) c.in_default.ensures)
