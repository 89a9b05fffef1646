-- `stage_numbers` is right: before node j the tables hold what the nodes before it give, and at the end all have given theirs.
use Rattle.words.specs.Words.{net_in}
use Rattle.stage_numbers.specs.Numbered.{Numbering}
use Rattle.stage_numbers.proofs.stage_numbers.Given as goal

abbrev pub invariant-loop-j : goal.invariant-loop-j
invariant-loop-j l = Numbering (net_in l.staged.net.words.now) l.driver l.wire l.limit l.j
