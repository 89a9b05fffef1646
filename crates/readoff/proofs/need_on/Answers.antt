-- `need_on` is right: it adds the rounded cost and what the stages driven need, up to one more than the budgets, and the links pass over none; a late
-- sink is above them all.
use borrow.Author.Rules.{rules}
use mathlib.Core.Path.{◌≡◌}
use native.Mathlib.Omega.{arith}
use mir.Facts.{to_z-of_z}
use mir.Syntax.{w64}
use mir.Val.{to_z, of_z}
use Rattle.slices.specs.Laid.{limit_on}
use Rattle.readoff.proofs.Needs.{driven_in, need_start, need_more, adding_end, need_late}
use Rattle.readoff.proofs.need_on.Goals as goal

pub returns-then-last-t : goal.returns-then-last-t
returns-then-last-t c =
    let last = limit_on c.args.tree.now.limit.now c.args.i c.args.l in
    let same : to_z w64 (of_z w64 last) ≡ last = search rules in
    need_late c.requires.1 c.requires.2 (rw (same, to_z-of_z c.ranges.t) at c.if-last-t.true)

pub loop-j-init : goal.loop-j-init
loop-j-init c = let P = c.requires in need_start P.0.0 P.0.1 P.0.2 P.1

pub driven_need-need-requires : goal.driven_need-need-requires
driven_need-need-requires c =
    driven_in c.requires.0.0 c.requires.0.1 c.requires.0.2 (omega arith) (omega arith) (rw (to_z-of_z c.ranges.t) c.requires.2)

pub loop-j-preserved : goal.loop-j-preserved
loop-j-preserved c =
    let S = c.requires.0.1 in
    need_more c.loop-j.invariant S.some-column S.linked (omega arith) c.driven_need-need.ensures

pub returns : goal.returns
returns c =
    let last = limit_on c.args.tree.now.limit.now c.args.i c.args.l in
    let same : to_z w64 (of_z w64 last) ≡ last = search rules in
    adding_end (rw (to_z-of_z c.ranges.t) at c.loop-j.invariant) c.requires.0.1.some-column (omega arith) (omega arith)
    (rw (same, to_z-of_z c.ranges.t) at c.if-last-t.false)
