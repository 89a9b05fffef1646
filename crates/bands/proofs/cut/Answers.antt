-- `cut` is right: before the first column that meets the earliest time no time asked is met, and behind the first that meets the latest, or all that the last
-- column does, none is met that was not.
use borrow.Author.Rules.{rules, sfits_of}
use mathlib.Core.Path.{◌≡◌, refl, ◌∙◌}
use mir.Facts.{to_z-of_z}
use mir.Syntax.{w64}
use mir.Val.{to_z, of_z}
use Prim.Native.Nat.{◌-◌}
use Rattle.bands.specs.Entries.{row_at}
use Rattle.bands.proofs.Columns.{cut_empty, cut_some, lesser-time}
use Rattle.bands.proofs.cut.Goals as goal

pub returns-then-top-start : goal.returns-then-top-start
returns-then-top-start c = cut_empty (to_z-of_z c.ranges.early) c.first_column-start.ensures c.if-top-start.true

pub returns : goal.returns
returns c =
    let a = c.args in
    let last : to_z w64 (of_z w64 (row_at a.table.now a.row (a.top - 1))) ≡ row_at a.table.now a.row (a.top - 1) = search rules in
    let target = rw last at (c.min.ensures.value ∙ lesser-time (to_z-of_z c.ranges.late) _) in
    cut_some (to_z-of_z c.ranges.early) c.first_column-start.ensures c.if-top-start.false refl (to_z-of_z {w = w64} (sfits_of c.min.type_inv) ∙ target)
    c.first_column-c.ensures
