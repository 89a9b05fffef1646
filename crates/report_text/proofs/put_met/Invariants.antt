-- `put_met` is right: after i turns the lines of the first i counts stand at `at`, and they take at most as many bytes as i longest lines.
use Prim.Native.Nat.{◌+◌, ◌*◌, ◌≤◌}
use lib.ListN.{take}
use Rattle.rules.specs.Block.{met_from}
use Rattle.text.specs.Placing.{Placed}
use Rattle.report_text.specs.Length.{max_met_line}
use Rattle.report_text.proofs.put_met.Given as goal

abbrev pub invariant-loop-i : goal.invariant-loop-i
invariant-loop-i l = record {
  placed : Placed (met_from l.word 0 (take l.i l.counts)) l.at l.initial.out l.out l.next;
  upper_bound : l.next ≤ l.at + max_met_line * l.i;
}
