-- `put_number` is right: what `io::decimal` writes are the fewest digits that hold the number, which are those of the definition.
use mathlib.Core.Path.{ap, ◌∙◌}
use native.Mathlib.Omega.{arith}
use lib.ListN.{length}
use Rattle.text.proofs.Decimal.{digits_decimal}
use Rattle.text.proofs.put_number.Goals as goal

pub put-requires : goal.put-requires
put-requires c = omega (arith, ap length (c.decimal-k.ensures.digits ∙ digits_decimal _ _ c.decimal-k.ensures.len))

pub returns : goal.returns
returns c = rw (c.decimal-k.ensures.digits ∙ digits_decimal _ _ c.decimal-k.ensures.len) at c.put.ensures
