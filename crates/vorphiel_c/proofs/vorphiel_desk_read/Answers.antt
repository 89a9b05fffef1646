-- `vorphiel_desk_read` meets its contract: it answers what `read_value` gives, and reading follows the rules.
use Rattle.rules.specs.declared.Judged.{Judged}
use Rattle.rules.specs.Desk.{to_read, figures_reply}
use Rattle.desk_record.specs.declared.Desk.{Desk}
use Rattle.desk.specs.OnDesk.{read_on}
use Rattle.desk.specs.Stands.{Follows, read-follows}
use Rattle.lent_desk.proofs.Said.{seen-said}
use Rattle.vorphiel_c.proofs.vorphiel_desk_read.Goals as goal

-- what the second clause says
abbrev Said : Desk → Judged → Type 0
Said d r = Follows to_read d d (figures_reply r)

pub returns : goal.returns
returns c = let (e, f) = seen-said read_on Said read-follows c.read_value.ensures in record { value = e; follows = f }
