-- `raise` is right: the columns before w are raised, and `best` is the last of them.
use native.Mathlib.Omega.{arith}
use Rattle.bands.specs.Entries.{range-more}
use Rattle.bands.proofs.Columns.{raise_start, raise_read, raise_best, raise_keep, raise_end, entry-is}
use Rattle.bands.proofs.raise.Goals.{else-best-x, then-best-x}
use Rattle.bands.proofs.raise.Goals as goal

pub loop-w-init : goal.loop-w-init
loop-w-init c = raise_start

pub loop-w-preserved : goal.loop-w-preserved
loop-w-preserved c =
    let I = c.requires in
    let S = c.loop-w.invariant in
    let h = c.loop-w-test.true in
    let x = entry-is (raise_read I S h) (range-more _ (I.range c.loop-w.w (omega arith) h)) in
    elim c.if-best-x.branch [
      | then-best-x w ↦ rw (w.table-is, w.best-is) (raise_best I S h x w.if-best-x.true)
      | else-best-x w ↦ rw (w.table-is, w.best-is) (raise_keep I S h x w.if-best-x.false)
    ]

pub returns : goal.returns
returns c = raise_end c.requires c.loop-w.invariant (omega arith)
