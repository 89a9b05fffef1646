-- `check` is right: the reader gives the counts of the net that the bytes hold, or the number of the first fault.
use native.Mathlib.Omega.{arith}
use Rattle.judging.proofs.Checking.{checked_refused, checked_found, few-read}
use Rattle.judging.proofs.check.Goals as goal

pub overflow_add-result : goal.overflow_add-result
overflow_add-result c = let h = few-read c.in-Ok.ensures in omega arith

pub returns-in-Ok : goal.returns-in-Ok
returns-in-Ok c = checked_found c.in-Ok.ensures

pub returns-in-Err : goal.returns-in-Err
returns-in-Err c = rw c.from.ensures (checked_refused c.in-Err.ensures)
