-- `first_column` is right: the halved range always holds the column looked for.
use Prim.Native.Nat.{◌-◌}
use Rattle.bands.specs.Entries.{row_at}
use Rattle.bands.proofs.Columns.{Halving}
use Rattle.bands.proofs.first_column.Given as goal

abbrev pub invariant-loop-low : goal.invariant-loop-low
invariant-loop-low l = Halving (row_at l.table l.row) l.start l.end l.t l.low l.high

abbrev pub decreases-loop-low : goal.decreases-loop-low
decreases-loop-low l = l.high - l.low
