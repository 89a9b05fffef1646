-- `put_plan` is right: after i turns the numbers of the first i layers stand at `at`, and they take at most 4 bytes each.
use Prim.Native.Nat.{◌≤◌, ◌+◌, ◌*◌}
use lib.ListN.{take}
use Rattle.rules.specs.Program.{layer_numbers}
use Rattle.text.specs.Placing.{Placed}
use Rattle.line.proofs.put_plan.Given as goal

abbrev pub invariant-loop-layer : goal.invariant-loop-layer
invariant-loop-layer l = record {
  upper_bound : l.next ≤ l.at + 4 * l.layer-index;
  placed : Placed (layer_numbers (take l.layer-index l.plan)) l.at l.initial.out l.out l.next;
}
