-- `push` is right: one driven stage after the other is given its time, and the links pass over none.
use borrow.Author.Rules.{rules, sfits_of}
use mathlib.Core.Path.{◌≡◌, ◌∙◌}
use native.Mathlib.Omega.{arith}
use mir.Facts.{to_z-of_z}
use mir.Syntax.{w64}
use mir.Val.{to_z, of_z}
use Rattle.slices.specs.Laid.{time_at}
use Rattle.readoff.proofs.Times.{pushing_more}
use Rattle.readoff.proofs.push.Goals as goal

pub loop-to-preserved : goal.loop-to-preserved
loop-to-preserved c =
    let p = c.requires in
    let reached = c.reached_at-reached in
    let t = time_at c.args.times.now c.args.i in
    let same : to_z w64 (of_z w64 t) ≡ t = search rules in
    let is = rw same at reached.ensures in
    pushing_more p.linked c.loop-to.invariant p.times_long (omega arith)
    (to_z-of_z {w = w64} {z = reached.result} (sfits_of reached.type_inv) ∙ is)
