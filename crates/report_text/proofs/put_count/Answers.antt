-- `put_count` is right: the word with its number and the line feed are put one after the other, and a number of 64 bits has at most 20 digits.
use native.Mathlib.Omega.{arith}
use Rattle.rules.specs.Block.{count_line}
use Rattle.text.proofs.Joining.{joined}
use Rattle.report_text.proofs.put_count.Goals as goal

pub returns : goal.returns
unfolding count_line
returns c = record { placed = joined c.put_field-next.ensures.placed c.put.ensures; upper_bound = omega arith }
