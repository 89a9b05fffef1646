-- `vorphiel_desk_set` meets its contract: it leaves and answers what `set_value` gives, and setting follows the rules.
use Prim.Native.Nat.{ℕ}
use Rattle.rules.specs.Desk.{to_set, number_reply}
use Rattle.desk_record.specs.declared.Desk.{Desk}
use Rattle.desk_record.specs.declared.Changed.{Changed}
use Rattle.desk_record.specs.OnRecord.{set_on}
use Rattle.desk.specs.Stands.{Follows, set-follows}
use Rattle.lent_desk.proofs.Said.{two-said}
use Rattle.vorphiel_c.proofs.vorphiel_desk_set.Goals as goal

-- what the second clause says
abbrev Said : Desk → ℕ → ℕ → Changed → Type 0
Said d t l o = Follows (to_set t l) d o.desk (number_reply o.answer)

pub returns : goal.returns
returns c = let (e, f) = two-said set_on Said set-follows c.set_value-o.ensures in record { equation = e; follows = f }
