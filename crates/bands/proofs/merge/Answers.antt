-- `merge` is right: i and j are the two pointers of the definition, and the columns before w, from the first on, hold the lesser of their entries.
use borrow.Author.Rules.{rules}
use Prim.Native.Nat.{◌<◌}
use mathlib.Core.Logic.{inl, inr}
use native.Mathlib.Omega.{arith}
use Rattle.bands.proofs.Columns.{merge-start, i_low, j_low, merge-read-a, merge-read-b, merge-left, merge-right, merge-stop, merge-last, less-fits, less-is}
use Rattle.bands.proofs.merge.Goals.{else-x-y, then-x-y, then-i-end_a-via-then-i-end_a, then-i-end_a-via-else-i-end_a+then-j-end_b}
use Rattle.bands.proofs.merge.Goals as goal

pub loop-w-init : goal.loop-w-init
loop-w-init c = merge-start (search rules)

pub returns-then-i-end_a : goal.returns-then-i-end_a
returns-then-i-end_a c = merge-stop c.requires c.loop-w.invariant (omega arith) (inr (elim c.then-i-end_a.branch [
  | then-i-end_a-via-then-i-end_a w ↦ inl w.if-i-end_a.true
  | then-i-end_a-via-else-i-end_a+then-j-end_b w ↦ inr w.if-j-end_b.true
]))

pub overflow_sub-x : goal.overflow_sub-x
overflow_sub-x c =
    let I = c.requires in
    let M = c.loop-w.invariant in
    let h : c.loop-w.i < c.args.a.end = omega (arith, M.i_most) in
    less-fits (merge-read-a I M h) (I.range-a c.loop-w.i (i_low I M) h) I.small-a

pub overflow_sub-y : goal.overflow_sub-y
overflow_sub-y c =
    let I = c.requires in
    let M = c.loop-w.invariant in
    let h : c.loop-w.j < c.args.b.end = omega (arith, M.j_most) in
    less-fits (merge-read-b I M h) (I.range-b c.loop-w.j (j_low I M) h) I.small_b

pub loop-w-preserved : goal.loop-w-preserved
loop-w-preserved c =
    let I = c.requires in
    let M = c.loop-w.invariant in
    let h = c.loop-w-test.true in
    let hi : c.loop-w.i < c.args.a.end = omega (arith, M.i_most) in
    let hj : c.loop-w.j < c.args.b.end = omega (arith, M.j_most) in
    let x = less-is (merge-read-a I M hi) (I.range-a c.loop-w.i (i_low I M) hi) I.small-a in
    let y = less-is (merge-read-b I M hj) (I.range-b c.loop-w.j (j_low I M) hj) I.small_b in
    elim c.if-x-y.branch [
      | then-x-y w ↦ rw (w.table-is, w.i-is, w.j-is) (merge-left I M h hi hj x y w.if-x-y.true)
      | else-x-y w ↦ rw (w.table-is, w.i-is, w.j-is) (merge-right I M h hi hj x y w.if-x-y.false)
    ]

pub returns : goal.returns
returns c = merge-last c.requires c.loop-w.invariant (omega arith)
