-- `vorphiel_desk_open` meets its contract: it leaves and answers what `open_value` gives, and opening follows the rules.
use Prim.Native.Nat.{ℕ}
use mathlib.Core.List.{List}
use Rattle.rules.specs.Desk.{to_open, counts_reply}
use Rattle.desk_record.specs.declared.Desk.{Desk}
use Rattle.desk_record.specs.declared.Opened.{Opened}
use Rattle.desk.specs.OnDesk.{open_on}
use Rattle.desk.specs.Stands.{Follows, open_follows}
use Rattle.lent_desk.proofs.Said.{opened-said}
use Rattle.vorphiel_c.proofs.vorphiel_desk_open.Goals as goal

-- what the second clause says
abbrev Said : Desk → List ℕ → Opened → Type 0
Said d bs o = Follows (to_open bs) d o.desk (counts_reply o.answer)

pub returns : goal.returns
returns c = let (e, f) = opened-said open_on Said open_follows c.open_value-o.ensures in record { equation = e; follows = f }
