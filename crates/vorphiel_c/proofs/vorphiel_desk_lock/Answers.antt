-- `vorphiel_desk_lock` meets its contract: it leaves and answers what `lock_value` gives, and locking follows the rules.
use Prim.Native.Nat.{ℕ}
use Rattle.rules.specs.Desk.{to_lock, number_reply}
use Rattle.desk_record.specs.declared.Desk.{Desk}
use Rattle.desk_record.specs.declared.Changed.{Changed}
use Rattle.desk_record.specs.OnRecord.{lock_on}
use Rattle.desk.specs.Stands.{Follows, lock_follows}
use Rattle.lent_desk.proofs.Said.{one-said}
use Rattle.vorphiel_c.proofs.vorphiel_desk_lock.Goals as goal

-- what the second clause says
abbrev Said : Desk → ℕ → Changed → Type 0
Said d t o = Follows (to_lock t) d o.desk (number_reply o.answer)

pub returns : goal.returns
returns c = let (e, f) = one-said lock_on Said lock_follows c.lock_value-o.ensures in record { equation = e; follows = f }
