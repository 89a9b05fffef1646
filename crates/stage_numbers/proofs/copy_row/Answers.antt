-- `copy_row` is right: on each layer the entry is the delay to the buffer, and the rest of the table is as it was.
use native.Mathlib.Omega.{arith}
use Rattle.stage_numbers.proofs.Times.{row-copied}
use Rattle.stage_numbers.proofs.copy_row.Goals as goal

pub returns : goal.returns
returns c = let p = c.requires in rw c.copy_from_slice.ensures.after (row-copied p.0 p.1 p.2 (omega arith) (omega arith))
