-- `spend` is right: from the last column down to c + i the row holds the later of its own entry and that of the other row at c less budget.
use mathlib.Core.Path.{◌≡◌}
use Prim.Native.Nat.{◌-◌, ◌≤◌, suc}
use native.Mathlib.Omega.{arith}
use Rattle.bands.specs.Entries.{range-more}
use Rattle.bands.proofs.Columns.{spend_from, spend_out, spend_in_from, spend_in_out, spend_better, spend_worse, spend_end, entry-is, less-fits, less-is}
use Rattle.bands.proofs.spend.Goals as goal

pub overflow_sub-x : goal.overflow_sub-x
overflow_sub-x c =
    let I = c.requires in
    let S = c.loop-i.invariant in
    less-fits (spend_from I S (omega arith) (omega arith)) (spend_in_from I S (omega arith) (omega arith)) I.small

pub loop-i-preserved-then-y-x : goal.loop-i-preserved-then-y-x
loop-i-preserved-then-y-x c =
    let I = c.requires in
    let S = c.loop-i.invariant in
    let one : c.loop-i.i ≡ suc (c.loop-i.i - 1) = omega arith in
    let h : c.args.part.start ≤ c.loop-i.i - 1 = omega arith in
    let x = less-is (spend_from I S one h) (spend_in_from I S one h) I.small in
    let y = entry-is (spend_out I S one h) (range-more _ (spend_in_out I S one h)) in
    spend_better I S one h x y c.if-y-x.true

pub loop-i-preserved : goal.loop-i-preserved
loop-i-preserved c =
    let I = c.requires in
    let S = c.loop-i.invariant in
    let one : c.loop-i.i ≡ suc (c.loop-i.i - 1) = omega arith in
    let h : c.args.part.start ≤ c.loop-i.i - 1 = omega arith in
    let x = less-is (spend_from I S one h) (spend_in_from I S one h) I.small in
    let y = entry-is (spend_out I S one h) (range-more _ (spend_in_out I S one h)) in
    spend_worse I S one h x y c.if-y-x.false

pub returns : goal.returns
returns c = spend_end c.requires c.loop-i.invariant (omega arith)
