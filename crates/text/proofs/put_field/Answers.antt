-- `put_field` is right: the word is put, and the digits of the number after it.
use native.Mathlib.Omega.{arith}
use Rattle.text.proofs.Decimal.{number_length}
use Rattle.text.proofs.Joining.{joined}
use Rattle.text.proofs.put_field.Goals as goal

pub returns : goal.returns
returns c = record { placed = joined c.put-next.ensures c.put_number.ensures; upper_bound = omega (arith, number_length c.args.n (omega arith)) }
