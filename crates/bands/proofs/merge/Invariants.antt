-- `merge` is right: i and j are the two pointers of the definition, and the columns before w, from the first on, hold the lesser of their entries.
use Rattle.bands.proofs.Columns.{Merging}
use Rattle.bands.proofs.merge.Given as goal

abbrev pub invariant-loop-w : goal.invariant-loop-w
invariant-loop-w l =
    Merging l.initial.table l.row_a l.initial.i l.end_a l.fn.a.delay l.row_b l.initial.j l.end_b l.fn.b.delay l.out l.width l.table l.i l.j l.w
