-- One edge's costs added to those of its stage, layer after layer: what stands on the layers to come is still what stood there.
use Rattle.std.specs.Prelude.{◌≡◌, refl, List, ℕ, ◌+◌, ◌*◌, ◌≤◌, ◌<◌, length, set}
use Rattle.std.proofs.Common.{arith}
use Rattle.rules.specs.Tree.{Net}
use Rattle.rules.specs.Bytes.{max_cost, max_layers, max_nodes, max_stages}
use Rattle.rules.specs.Timing.{edge_cost}
use Rattle.slices.specs.Rows.{RowOf, Setting, place_in, next-kept, setting_more}
use Rattle.slices.specs.Laid.{on_layer}

-- What stage t costs on layer l with the edge to node j, where the table `was` has its cost without that edge.
abbrev pub cost_with : Net → ℕ → ℕ → List ℕ → ℕ → ℕ
cost_with n j t was l = on_layer was t l + edge_cost n l j

-- What the code needs so that no sum overflows.
pub record Room (n : Net) (j t layers : ℕ) (was : List ℕ) : Type 0 where
  pub few : layers ≤ max_layers
  pub row : RowOf max_stages max_layers was t
  pub priced : (l : ℕ) → l < layers → edge_cost n l j ≤ max_cost
  pub low : (l : ℕ) → l < layers → on_layer was t l ≤ max_nodes * max_cost

module _ {n : Net} {j t layers : ℕ} {was now : List ℕ} {l : ℕ} (R : Room n j t layers was)
    (S : Setting 0 max_layers was now t layers l (cost_with n j t was)) (b : l < layers) where
  -- The place of layer l in the table,
  pub index_in : t * max_layers + l < length now
  index_in = omega (arith, place_in R.row (column b), S.so_far.long)
    where
      column : l < layers → l < max_layers
      column h = omega (arith, R.few)

  -- what is to stand there,
  pub sum_low : on_layer now t l + edge_cost n l j ≤ (max_nodes + 1) * max_cost
  sum_low = omega (arith, next-kept S R.few b, R.low l b, R.priced l b)

  -- and the table with it.
  pub layer-added : {x : ℕ} → x ≡ edge_cost n l j
      → Setting 0 max_layers was (set now (t * max_layers + l) (on_layer now t l + x)) t layers (l + 1) (cost_with n j t was)
  layer-added e = setting_more _ R.row R.few S b (rw (e, next-kept S R.few b) refl)
