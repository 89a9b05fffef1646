-- `branches` is right: the driven stages, led to by the links, are merged one after the other, the first under the stage's own limit.
use Rattle.std.proofs.Common.{arith, to_z-of_z}
use Rattle.branches.proofs.Joins.{own_is, join-none, join-start, merge_in, join_more, join_end, next-ahead}
use Rattle.branches.proofs.branches.Goals as goal

pub returns-then-tree-j : goal.returns-then-tree-j
returns-then-tree-j c =
    let I = c.requires in
    join-none I (own_is I) c.if-tree-j.true c.fill.ensures

pub loop-j-init : goal.loop-j-init
loop-j-init c =
    rw (c.limited-part.ensures.start, c.limited-part.ensures.end)
    (join-start c.requires c.if-tree-j.false (own_is c.requires) c.seen-begun.ensures c.limited-part.ensures.band)

pub merge-end-requires : goal.merge-end-requires
merge-end-requires c = merge_in c.loop-j.invariant c.loop-j-test.true c.seen-more.ensures

pub loop-j-smaller : goal.loop-j-smaller
loop-j-smaller c = omega (arith, next-ahead c.loop-j.invariant c.loop-j-test.true)

pub loop-j-preserved : goal.loop-j-preserved
loop-j-preserved c =
    join_more c.loop-j.invariant c.loop-j-test.true c.seen-more.ensures c.merge-end.ensures c.min.ensures

pub returns : goal.returns
returns c =
    let I = c.requires in
    let B = rw (to_z-of_z c.ranges.late) at c.limited-part.ensures.band in
    let J = rw (c.limited-part.ensures.start, c.limited-part.ensures.end) at c.loop-j.invariant in
    join_end I c.if-tree-j.false (own_is I) c.seen-begun.ensures B J c.loop-j-test.false
