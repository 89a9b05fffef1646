-- What opening and reading make of the desk's record, and their answers, for every content that a record can have (02, wish 8). Setting, locking and unlocking,
-- which do not look at the net's bytes: desk_record/specs/OnRecord.antt.
use Rattle.std.specs.Prelude.{List, ℕ, leb, length, take, pos, if◌then◌else◌}
use Rattle.rules.specs.declared.Checked.{Checked}
use Rattle.rules.specs.declared.Judged.{Judged}
use Rattle.rules.specs.Reading.{check}
use Rattle.rules.specs.Judging.{judge}
use Rattle.rules.specs.Desk.{max_desk_net}
use Rattle.desk_record.specs.declared.Desk.{Desk}
use Rattle.desk_record.specs.declared.Opened.{Opened}
use Rattle.desk_record.specs.OnRecord.{open_with, is_readable}

-- The answer to a net that is too long.
abbrev pub too_long : Checked
too_long = record { refusal = 15; nodes = 0; stages = 0; layers = 0 }

-- Opening: what checking the bytes gives decides, where a desk takes so many.
unfoldable pub open_on : Desk → List ℕ → Opened
open_on d bs = if leb (length bs) max_desk_net then open_with d bs (check bs) else record { desk = d; answer = too_long }

-- The answer of reading on a desk never opened.
abbrev pub unopened : Judged
unopened = record { refusal = 16; cost = 0; slack = pos 0 }

-- Reading: what judging gives for the net's bytes and the plan on the desk, where its counts may be those of an open one.
unfoldable pub read_on : Desk → Judged
read_on d = if is_readable d.used d.stages then judge (take d.used d.net) (take d.stages d.plan) else unopened
