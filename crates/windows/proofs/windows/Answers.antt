-- `windows` is right: the stages before j have their windows, and stage j's follows from that of the stage that drives it.
use Rattle.std.proofs.Common.{◌≡◌, get_or, rules, arith, to_z, of_z}
use mir.Facts.{to_z-of_z}
use mir.Syntax.{w64}
use borrow.Author.Rules.{sfits_of}
use Rattle.slices.specs.Laid.{time_at}
use Rattle.windows.proofs.Opening.{driver_before, next-stage, opening-more, opening_end, sum_is}
use Rattle.windows.proofs.windows.Goals as goal

pub offset_bounds-early-i : goal.offset_bounds-early-i
offset_bounds-early-i c = omega (arith, driver_before c.loop-j.invariant c.loop-j-test.true)

pub slice_copy_out-after : goal.slice_copy_out-after
slice_copy_out-after c = omega (arith, driver_before c.loop-j.invariant c.loop-j-test.true)

pub after-requires : goal.after-requires
after-requires c =
    let n = next-stage c.loop-j.invariant c.loop-j-test.true in
    let f = n.delays-fit c.delay_range-range.ensures in
    let t = time_at c.loop-j.early (get_or c.args.tree.now.driver.now c.loop-j.j 0) in
    let same : to_z w64 (of_z w64 t) ≡ t = search rules in
    (f.0, rw same n.near-early)

pub offset_bounds-late-i : goal.offset_bounds-late-i
offset_bounds-late-i c = omega (arith, driver_before c.loop-j.invariant c.loop-j-test.true)

pub slice_copy_out-after-in-loop-j : goal.slice_copy_out-after-in-loop-j
slice_copy_out-after-in-loop-j c = omega (arith, driver_before c.loop-j.invariant c.loop-j-test.true)

pub after-requires-in-loop-j : goal.after-requires-in-loop-j
after-requires-in-loop-j c =
    let n = next-stage c.loop-j.invariant c.loop-j-test.true in
    let f = n.delays-fit c.delay_range-range.ensures in
    let t = time_at c.loop-j.late (get_or c.args.tree.now.driver.now c.loop-j.j 0) in
    let same : to_z w64 (of_z w64 t) ≡ t = search rules in
    (f.1, rw same n.near-late)

pub loop-j-preserved : goal.loop-j-preserved
loop-j-preserved c =
    let l = c.loop-j in
    let n = next-stage l.invariant c.loop-j-test.true in
    let range = c.delay_range-range in
    let i = get_or c.args.tree.now.driver.now l.j 0 in
    opening-more l.invariant c.loop-j-test.true range.ensures
    (sum_is (time_at l.early i) range.result.least (to_z-of_z {w = w64} (sfits_of c.after.type_inv)) c.after.ensures (search rules))
    (sum_is (time_at l.late i) range.result.most (to_z-of_z {w = w64} (sfits_of c.after-in-loop-j.type_inv)) c.after-in-loop-j.ensures (search rules))
    n.early-long n.late-long

pub returns : goal.returns
returns c = opening_end c.loop-j.invariant c.loop-j-test.false
