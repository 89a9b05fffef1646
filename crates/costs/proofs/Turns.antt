-- A turn of the pass over the edges: what it may rely on, and what it leaves.
use mathlib.Core.Path.{◌≡◌}
use mathlib.Core.List.{List}
use Prim.Native.Nat.{ℕ, ◌+◌, ◌*◌, ◌-◌, ◌≤◌, ◌<◌}
use native.Mathlib.Omega.{arith}
use lib.ListN.{length, get_or}
use Rattle.rules.specs.Tree.{stages, stage_of}
use Rattle.rules.specs.Bytes.{max_cost, max_layers, max_nodes}
use Rattle.rules.specs.Timing.{edge_cost}
use Rattle.facts.specs.Stages.{stage-below}
use Rattle.facts.specs.Ranges.{edge-cost_in}
use Rattle.words.specs.Words.{net_in}
use Rattle.words.specs.Held.{Held, held-accepted}
use Rattle.tree.specs.Staged.{Staged}
use Rattle.tree.specs.Plans.{Fitting}
use Rattle.slices.specs.Rows.{RowSet}
use Rattle.costs.specs.Priced.{cost_to, cost-more, cost_under, cost_under_lem, plan-cost-low}
use Rattle.costs.specs.Adding.{Room, cost_with}
use Rattle.costs.specs.Pricing.{Pricing, room, pricing_more}

module _ {w : List ℕ} {nodes layers : ℕ} (H : Held w nodes layers) {stage below : List ℕ} (S : Staged (net_in w) stage below) {costs : List ℕ} {j : ℕ}
    (P : Pricing (net_in w) costs j) (h : j ≤ nodes) where
  -- Node j of the code is one of the net,
  inside : j ≤ length (net_in w).nodes
  inside = omega (arith, H.nodes-are)

  -- there is room for the costs of its edge,
  pub room-here : Room (net_in w) j (get_or stage j 0) layers costs
  room-here = room (held-accepted H) P inside H.layers-are (S.stage_is j P.some inside)

  -- and with them the table holds the costs up to it.
  pub more-here : {next : List ℕ} → RowSet 0 max_layers costs next (get_or stage j 0) layers (cost_with (net_in w) j (get_or stage j 0) costs)
      → Pricing (net_in w) next (j + 1)
  more-here = pricing_more (held-accepted H) P inside H.layers-are (S.stage_is j P.some inside)

-- A turn of the sum over the edges under plan x.
pub record CostTurn (w stage x : List ℕ) (layers j : ℕ) : Type 0 where
  pub stage_in : get_or stage j 0 < length x
  pub layer_in_lem : get_or x (get_or stage j 0) 0 < layers
  pub cost_in_lem : edge_cost (net_in w) (get_or x (get_or stage j 0) 0) j ≤ max_cost
  pub before_in : cost_to (cost_under (net_in w) x) (j - 1) ≤ max_nodes * max_cost
  pub more : cost_to (cost_under (net_in w) x) (j - 1) + edge_cost (net_in w) (get_or x (get_or stage j 0) 0) j ≡ cost_to (cost_under (net_in w) x) (j + 1 - 1)

pub cost-turn : {w : List ℕ} {nodes layers : ℕ} → Held w nodes layers → {stage below : List ℕ} → Staged (net_in w) stage below → {x : List ℕ} → Fitting
    (net_in w) x
    → {j : ℕ} → 1 ≤ j → j ≤ nodes → CostTurn w stage x layers j
cost-turn {w} {nodes} {layers} H {stage} S {x} F {j} a b =
    let A = held-accepted H in
    let inside : j ≤ length (net_in w).nodes = omega (arith, H.nodes-are) in
    let e : get_or stage j 0 ≡ stage_of (net_in w) j = S.stage_is j a inside in
    let t : get_or stage j 0 < stages (net_in w) = omega (arith, stage-below A j a inside) in
    let q : j + 1 - 1 ≡ j = omega arith in
    record {
      stage_in = omega (arith, F.sized);
      layer_in_lem = omega (arith, F.layered (get_or stage j 0) t, H.layers-are);
      cost_in_lem = edge-cost_in A (get_or x (get_or stage j 0) 0) j;
      before_in = omega (arith, plan-cost-low A x (j - 1), A.few-nodes);
      more = rw q (omega (arith, cost-more (cost_under (net_in w) x) j a, cost_under_lem (net_in w) x j e));
    }
