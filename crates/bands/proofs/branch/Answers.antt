-- `branch` is right: each entry before w is the lesser of the driven stage's entry less the delay and the limit.
use borrow.Author.Rules.{sfits_of}
use mathlib.Core.Path.{◌∙◌}
use native.Mathlib.Omega.{arith}
use mir.Facts.{to_z-of_z}
use mir.Syntax.{w64}
use Rattle.bands.proofs.Columns.{branch_read, branch_range, branch_more, branch_end, less-fits, less-is, lesser-time}
use Rattle.bands.proofs.branch.Goals as goal

pub overflow_sub-x : goal.overflow_sub-x
overflow_sub-x c =
    let I = c.requires in
    let B = c.loop-w.invariant in
    let h = c.loop-w-test.true in
    less-fits (branch_read I B h) (branch_range I B h) I.small

pub loop-w-preserved : goal.loop-w-preserved
loop-w-preserved c =
    let I = c.requires in
    let B = c.loop-w.invariant in
    let h = c.loop-w-test.true in
    let x = less-is (branch_read I B h) (branch_range I B h) I.small in
    branch_more I B h (to_z-of_z {w = w64} (sfits_of c.min.type_inv) ∙ c.min.ensures.value ∙ lesser-time x _)

pub returns : goal.returns
returns c = branch_end c.requires c.loop-w.invariant (omega arith) (to_z-of_z c.ranges.limit)
