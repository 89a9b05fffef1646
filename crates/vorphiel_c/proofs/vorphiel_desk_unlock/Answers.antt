-- `vorphiel_desk_unlock` meets its contract: it leaves and answers what `unlock_value` gives, and unlocking follows the rules.
use Prim.Native.Nat.{ℕ}
use Rattle.rules.specs.Desk.{to_unlock, number_reply}
use Rattle.desk_record.specs.declared.Desk.{Desk}
use Rattle.desk_record.specs.declared.Changed.{Changed}
use Rattle.desk_record.specs.OnRecord.{unlock_on}
use Rattle.desk.specs.Stands.{Follows, unlock_follows}
use Rattle.lent_desk.proofs.Said.{one-said}
use Rattle.vorphiel_c.proofs.vorphiel_desk_unlock.Goals as goal

-- what the second clause says
abbrev Said : Desk → ℕ → Changed → Type 0
Said d t o = Follows (to_unlock t) d o.desk (number_reply o.answer)

pub returns : goal.returns
returns c = let (e, f) = one-said unlock_on Said unlock_follows c.unlock_value-o.ensures in record { equation = e; follows = f }
