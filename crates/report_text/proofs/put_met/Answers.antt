-- `put_met` is right: after i turns the lines of the first i counts stand at `at`, and they take at most as many bytes as i longest lines.
use native.Mathlib.Omega.{arith}
use Rattle.report_text.proofs.Lines.{met_start, met-put}
use Rattle.report_text.proofs.put_met.Goals as goal

pub loop-i-init : goal.loop-i-init
loop-i-init c = record { placed = met_start c.args.word.now c.args.counts.now (omega arith); upper_bound = omega arith }

pub loop-i-preserved : goal.loop-i-preserved
loop-i-preserved c =
    let l = c.loop-i in
    let line = c.put_met_line-next.ensures in
    record { placed = met-put _ _ l.i (omega arith) l.invariant.placed line.placed; upper_bound = omega (arith, line.upper_bound) }
