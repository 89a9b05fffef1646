-- The refusal numbers of 01 and 02 (docs/FORMAT.md, section 3) beside the code's reasons, and what the code answers in the terms of the definitions.
use Rattle.std.specs.Prelude.{ℕ, Result, Ok, Err}
use Rattle.rules.specs.declared.Refusal.{Refusal}
use Rattle.rules.specs.declared.Refusal.TheVariants as refusal
use Rattle.rules.specs.Reading.{Answer, accept, refuse}

-- the number that a call answers for this reason
abbrev pub number_of : Refusal → ℕ
number_of refusal.Ended = 1
number_of refusal.WrongField = 2
number_of refusal.OutOfRange = 3
number_of refusal.TooMany = 4
number_of refusal.WrongParent = 5
number_of refusal.Childless = 6
number_of refusal.WrongStages = 7
number_of refusal.WrongLayer = 8
number_of refusal.WrongShare = 9
number_of refusal.NoRoom = 10
number_of refusal.TooLate = 11
number_of refusal.TooShort = 12
number_of refusal.NoBlock = 13
number_of refusal.WrongRounds = 14
number_of refusal.TooLong = 15
number_of refusal.NeverOpened = 16
number_of refusal.Locked = 17

-- what the code gives, `seen` being what its result is in the terms of 01
abbrev pub answered : {A B : Type 0} → (A → B) → Result A Refusal → Answer B
answered seen (Ok a) = accept (seen a)
answered seen (Err why) = refuse (number_of why)
