-- What the functions that round costs ask and give. Of each stage the slice has a row of costs, one for each layer.
use Rattle.std.specs.Prelude.{◌≡◌, List, ℕ, ◌+◌, ◌*◌, ◌/◌, ◌≤◌, ◌<◌, length, take}
use Rattle.rules.specs.Bytes.{max_layers, max_stages}
use Rattle.oracle.specs.Stages.{StageTree}
use Rattle.oracle.specs.Value.{MeetingPlan}
use Rattle.oracle.specs.Excess.{base, excess}
use Rattle.slices.specs.Rows.{RowOf}
use Rattle.slices.specs.Laid.{on_layer, LaidCosts}

-- The slice holds the costs of tree T, which has `stages` stages; they and the layers are few enough for the sums and places.
pub record Costs (T : StageTree) (cost : List ℕ) (stages : ℕ) : Type 0 where
  pub laid : LaidCosts T cost
  pub stages-are : stages ≡ T.stages
  pub few-stages : T.stages ≤ max_stages
  pub some-layer : 0 < T.layers
  pub few-layers : T.layers ≤ max_layers

-- The plan in the first bytes of a buffer.
abbrev pub plan_in : ℕ → List ℕ → List ℕ
plan_in stages plan = take stages plan

-- Stage i has a cost on this layer in the slice.
pub record OnLayerIn (cost : List ℕ) (g i layer : ℕ) : Type 0 where
  pub stage_in : i < max_stages
  pub layer_in_lem : layer < max_layers
  pub long : i * max_layers + max_layers ≤ length cost
  pub some-grain : 0 < g

-- The costs are those of some tree, and the plan is a plan of it.
pub record PricedPlan (cost plan : List ℕ) (stages g : ℕ) : Type 0 where
  pub tree : StageTree
  pub costs : Costs tree cost stages
  pub long : stages ≤ length plan
  pub meets : MeetingPlan tree (plan_in stages plan)
  pub some-grain : 0 < g

-- Row i of the costs.
pub record CostRow (cost : List ℕ) (layers g i : ℕ) : Type 0 where
  pub stage_in : i < max_stages
  pub some-layer : 0 < layers
  pub few-layers : layers ≤ max_layers
  pub long : i * max_layers + max_layers ≤ length cost
  pub some-grain : 0 < g

-- There is a row i in `excess` too, and `least` is no more than any of row i of the costs, rounded.
pub record ExcessRowIn (cost : List ℕ) (layers g i least : ℕ) (excess : List ℕ) : Type 0 where
  pub row : CostRow cost layers g i
  pub excess-row : RowOf max_stages max_layers excess i
  pub least_le : (l : ℕ) → l < layers → least ≤ on_layer cost i l / g

-- The costs are those of some tree, and there is room for what they are above the least.
pub record ExcessIn (cost : List ℕ) (stages layers g : ℕ) (excess : List ℕ) : Type 0 where
  pub tree : StageTree
  pub costs : Costs tree cost stages
  pub layers-are : layers ≡ tree.layers
  pub excess-long : max_stages * max_layers ≤ length excess
  pub some-grain : 0 < g

-- The slice holds the costs of the tree `excess`, and r is the sum of what was taken off.
pub record Excess (T : StageTree) (k : ℕ) (slice : List ℕ) (r : ℕ) : Type 0 where
  pub base-is : r ≡ base T k
  pub laid : LaidCosts (excess T k) slice
