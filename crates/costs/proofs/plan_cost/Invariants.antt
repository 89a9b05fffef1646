-- `plan_cost` is right: before node j the total is what the edges before it cost on the layers of their stages.
use Prim.Native.Nat.{◌-◌, ◌≤◌, ◌+◌}
use mathlib.Core.Path.{◌≡◌}
use Rattle.words.specs.Words.{net_in}
use Rattle.costs.specs.Priced.{cost_to, cost_under}
use Rattle.costs.proofs.plan_cost.Given as goal

abbrev pub invariant-loop-j : goal.invariant-loop-j
invariant-loop-j l = (1 ≤ l.j) × (l.j ≤ l.edges.net.nodes + 1) × (l.total ≡ cost_to (cost_under (net_in l.edges.net.words.now) l.plan) (l.j - 1))
