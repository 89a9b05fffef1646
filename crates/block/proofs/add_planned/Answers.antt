-- `add_planned` is right: each number is that of the definition, and the lengths are those that `add_lengths` promises.
use native.Mathlib.Omega.{arith}
use Prim.Native.Nat.{◌≤◌}
use Rattle.facts.specs.Costs.{cost_in_lem}
use Rattle.facts.specs.Block.{max_block_cost}
use Rattle.words.specs.Net.{held}
use Rattle.block.proofs.add_planned.Goals as goal

pub overflow_add-result-3 : goal.overflow_add-result-3
overflow_add-result-3 c =
    let low : c.args.sums.cost ≤ max_block_cost = c.requires.0.cost-low in
    omega (arith, low, c.requires.2, cost_in_lem (held c.args.net.now.held).accepted c.args.plan.now)
