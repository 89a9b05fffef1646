-- The line that checking prints, as bytes: `counts_line` if it accepts the net, `refused_line` if it refuses.
use Rattle.std.specs.Prelude.{List, ℕ, eqb, if◌then◌else◌}
use Rattle.rules.specs.declared.Checked.{Checked}
use Rattle.rules.specs.Reading.{check}
use Rattle.rules.specs.Program.{refused_line}
use Rattle.line.specs.Counted.{counts_line}

-- The line of an answer of checking, whose refusal is 0 if the net is accepted.
unfoldable pub checked_line : Checked → List ℕ
checked_line r = if eqb r.refusal 0 then counts_line r.nodes r.stages r.layers else refused_line r.refusal

-- The line for an input.
abbrev pub check_line : List ℕ → List ℕ
check_line bs = checked_line (check bs)
