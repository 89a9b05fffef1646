-- `check_line` is right: a refusal prints its number, and an accepted net the counts that checking answers.
use native.Mathlib.Omega.{arith}
use Rattle.program.proofs.Checking.{refused_checked, counts_checked}
use Rattle.program.proofs.check_line.Goals as goal

pub returns-then-checked-ne0 : goal.returns-then-checked-ne0
returns-then-checked-ne0 c =
    let line = c.refused_line.ensures in
    rw (refused_checked _ c.check-checked.ensures (omega arith)) (record { value = line.value; out_after = line.out_after; prefix_len = line.prefix_len })

pub returns : goal.returns
returns c =
    let line = c.counts_line.ensures in
    rw (counts_checked _ c.check-checked.ensures (omega arith)) (record { value = line.value; out_after = line.out_after; prefix_len = line.prefix_len })
