-- `totals` is right: before each field the sums are the totals of the nets so far, and the nets from here on are those still to come.
use mathlib.Core.Path.{◌≡◌}
use Prim.Native.Nat.{◌-◌}
use lib.ListN.{length}
use Rattle.rules.specs.Program.{program_table, program_room}
use Rattle.words.specs.Words.{word_count}
use Rattle.block.specs.Sums.{Adding}
use Rattle.block.proofs.totals.Given as goal

abbrev pub invariant-loop-at : goal.invariant-loop-at
invariant-loop-at l =
    Adding l.block l.at l.sums × (length l.words ≡ word_count) × (length l.table ≡ program_table) × (length l.plan ≡ program_room)

abbrev pub decreases-loop-at : goal.decreases-loop-at
decreases-loop-at l = length l.block - l.at
