-- Costs: what the stages cost adds up to the cost of the plan, since every edge is in one stage, and no plan costs as much as 2^28.
use Rattle.std.specs.Prelude.{◌≡◌, List, ℕ, ◌*◌, ◌^◌, ◌≤◌, ◌<◌, length}
use Rattle.std.proofs.Common.{arith}
use Rattle.std.proofs.Math.Dec.{eqb}
use Rattle.laws.specs.Basic.{sum}
use Rattle.laws.specs.Lists.{length_from, keep_le}
use Rattle.laws.specs.Sums.{sum-most}
use Rattle.rules.specs.Tree.{Net, edges, stage_of, edges_of, on}
use Rattle.rules.specs.Bytes.{max_cost, max_nodes}
use Rattle.rules.specs.Timing.{edge_cost, cost, stage_cost, stage_costs}
use Rattle.rules.specs.Grain.{max_exponent}
use Rattle.facts.specs.Accepted.{Accepted}
use Rattle.facts.specs.Ranges.{edge-cost_in}
use Rattle.facts.specs.EdgeCounts.{sum-by-stage}

-- The greatest cost of a plan, and so of a stage.
abbrev pub max_plan_cost : ℕ
max_plan_cost = max_nodes * max_cost

module _ {n : Net} (A : Accepted n) where
  -- The costs of the stages add up to the cost of the plan.
  pub sum-costs : (x : List ℕ) → sum (stage_costs n x) ≡ cost n x
  unfolding stage_costs cost stage_cost
  sum-costs x = sum-by-stage A (λ t j. edge_cost n (on x t) j)

  pub cost_in_lem : (x : List ℕ) → cost n x ≤ max_plan_cost
  unfolding cost edges
  cost_in_lem x =
      let all = sum-most (λ j. edge_cost n (on x (stage_of n j)) j) max_cost (λ j. edge-cost_in A (on x (stage_of n j)) j) (edges n) in
      omega (arith, length_from 1 (length n.nodes), A.few-nodes)

  pub stage-cost_in : (l t : ℕ) → stage_cost n l t ≤ max_plan_cost
  unfolding stage_cost edges_of edges
  stage-cost_in l t =
      let all = sum-most (edge_cost n l) max_cost (edge-cost_in A l) (edges_of n t) in
      omega (arith, keep_le (λ j. eqb (stage_of n j) t) (edges n), length_from 1 (length n.nodes), A.few-nodes)

  -- At the greatest k of 01 every cost is below the grain, so it rounds to 0.
  pub small : (x : List ℕ) → cost n x < 2 ^ max_exponent
  small x = omega (arith, cost_in_lem x)

  pub stage-small : (l t : ℕ) → stage_cost n l t < 2 ^ max_exponent
  stage-small l t = omega (arith, stage-cost_in l t)
