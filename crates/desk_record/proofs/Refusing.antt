-- What the code makes of a lock and of a refused change: no reason has the number of acceptance, so the definition keeps the desk as the code does.
use mathlib.Core.Path.{◌≡◌, refl, ◌∙◌}
use mathlib.Core.Bool.{Bool, true, false}
use Prim.Native.Nat.{ℕ}
use mir.Val.{bool_byte}
use Rattle.laws.specs.Basic.{bit}
use Rattle.rules.specs.declared.Refusal.{Refusal}
use Rattle.rules.specs.declared.Refusal.TheVariants as refusal
use Rattle.rules.specs.Refusals.{number_of}
use Rattle.desk_record.specs.declared.Desk.{Desk}
use Rattle.desk_record.specs.declared.Changed.{Changed}
use Rattle.desk_record.specs.OnRecord.{changed, change_refused}

-- A lock's mark, as the code writes it.
pub byte_bit : (b : Bool) → bool_byte b ≡ bit b
byte_bit true = refl
byte_bit false = refl

-- No reason's number is 0.
number_some : (why : Refusal) → number_of why ≡ 0 → ⊥
number_some refusal.Ended e = cc
number_some refusal.WrongField e = cc
number_some refusal.OutOfRange e = cc
number_some refusal.TooMany e = cc
number_some refusal.WrongParent e = cc
number_some refusal.Childless e = cc
number_some refusal.WrongStages e = cc
number_some refusal.WrongLayer e = cc
number_some refusal.WrongShare e = cc
number_some refusal.NoRoom e = cc
number_some refusal.TooLate e = cc
number_some refusal.TooShort e = cc
number_some refusal.NoBlock e = cc
number_some refusal.WrongRounds e = cc
number_some refusal.TooLong e = cc
number_some refusal.NeverOpened e = cc
number_some refusal.Locked e = cc

-- What is handed back of a change that is due the number of this reason.
pub refused_keeps : (d w : Desk) (why : Refusal) {n : ℕ} {o : Changed} → o ≡ record { desk = d; answer = number_of why } → number_of why ≡ n → o ≡ changed d n w
refused_keeps d w why o e = o ∙ change_refused d w e (number_some why)
