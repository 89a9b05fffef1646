-- The cost of each stage on each layer, and of a plan (01, Timing rule; source 001, section 2: the sum of all wire costs of a stage on a layer is computed
-- once). Both are sums over the edges in node order.
use Rattle.std.specs.Prelude.{◌≡◌, refl, Bool, List, map, ℕ, zero, suc, ◌+◌, ◌*◌, ◌-◌, ◌≤◌, ◌<◌, eqb, length, if◌then◌else◌}
use Rattle.std.proofs.Common.{ap, sym, eq-eqb, ne_eqb}
use Rattle.std.proofs.Math.Bool.{true, false}
use native.Mathlib.Omega.{arith}
use Rattle.laws.specs.Basic.{from, sum}
use Rattle.laws.specs.Lists.{length_from}
use Rattle.laws.specs.Sums.{sum-keep, sum-from, sum-most}
use Rattle.rules.specs.Tree.{Net, edges, edges_of, stage_of, stages, layer_count, on}
use Rattle.rules.specs.Bytes.{max_cost, max_layers, max_stages}
use Rattle.rules.specs.Timing.{edge_cost, stage_cost, cost}
use Rattle.facts.specs.Accepted.{Accepted}
use Rattle.facts.specs.Ranges.{edge-cost_in}
use Rattle.slices.specs.Laid.{on_layer}

-- The table holds the cost of each stage on each layer.
pub record Priced (n : Net) (costs : List ℕ) : Type 0 where
  pub each : (t l : ℕ) → t < stages n → l < layer_count n → on_layer costs t l ≡ stage_cost n l t
  pub long : length costs ≡ max_stages * max_layers

-- What the edges up to node m cost, where the edge to node j costs f j.
unfoldable pub cost_to : (ℕ → ℕ) → ℕ → ℕ
cost_to f m = sum (map f (from 1 m))

-- Before the first edge: nothing.
pub cost-none : (f : ℕ → ℕ) → cost_to f 0 ≡ 0
unfolding cost_to
cost-none f = refl

-- One edge more.
pub cost-more : (f : ℕ → ℕ) (j : ℕ) → 1 ≤ j → cost_to f j ≡ cost_to f (j - 1) + f j
unfolding cost_to
cost-more f zero h = absurd (omega arith)
cost-more f (suc m) h =
    let e : suc m - 1 ≡ m = omega arith in
    let q : 1 + m ≡ suc m = omega arith in
    rw e (rw q at (sum-from f 1 m))

-- Edges that cost no more than the range allows.
pub cost-low : (f : ℕ → ℕ) → ((j : ℕ) → f j ≤ max_cost) → (m : ℕ) → cost_to f m ≤ m * max_cost
unfolding cost_to
cost-low f h m = omega (arith, sum-most f max_cost h (from 1 m), ap (λ (k : ℕ). k * max_cost) (length_from 1 m))

-- What the edge to node j costs stage t on layer l: nothing if it is an edge of another stage.
unfoldable pub cost_in : Net → ℕ → ℕ → ℕ → ℕ
cost_in n l t j = if eqb (stage_of n j) t then edge_cost n l j else 0

-- An edge of the stage,
pub own-cost : (n : Net) (l : ℕ) {t : ℕ} (j : ℕ) → t ≡ stage_of n j → cost_in n l t j ≡ edge_cost n l j
unfolding cost_in
own-cost n l {t} j e = rw (eq-eqb (stage_of n j) t (sym e)) refl

-- and one of another.
pub no_cost : (n : Net) (l : ℕ) {t : ℕ} (j : ℕ) → (t ≡ stage_of n j → ⊥) → cost_in n l t j ≡ 0
unfolding cost_in
no_cost n l {t} j ne = rw (ne_eqb (stage_of n j) t (λ q. ne (sym q))) refl

-- What the edge to node j costs under plan x: its cost on the layer of its stage.
unfoldable pub cost_under : Net → List ℕ → ℕ → ℕ
cost_under n x j = edge_cost n (on x (stage_of n j)) j

-- By the number of that stage.
pub cost_under_lem : (n : Net) (x : List ℕ) {t : ℕ} (j : ℕ) → t ≡ stage_of n j → cost_under n x j ≡ edge_cost n (on x t) j
unfolding cost_under
cost_under_lem n x j e = rw e refl

-- All edges: the cost of the stage,
pub stage-cost-all : (n : Net) (l t : ℕ) → cost_to (cost_in n l t) (length n.nodes) ≡ stage_cost n l t
unfolding cost_to cost_in stage_cost edges_of edges
stage-cost-all n l t = sym (sum-keep (λ j. eqb (stage_of n j) t) (edge_cost n l) (from 1 (length n.nodes)))

-- and of the plan.
pub plan-cost-all : (n : Net) (x : List ℕ) → cost_to (cost_under n x) (length n.nodes) ≡ cost n x
unfolding cost_to cost_under cost edges
plan-cost-all n x = refl

module _ {n : Net} (A : Accepted n) where
  -- No edge costs more than the range of costs allows: so the edges up to node m cost a stage,
  pub stage-cost-low : (l t m : ℕ) → cost_to (cost_in n l t) m ≤ m * max_cost
  unfolding cost_in
  stage-cost-low l t = cost-low (cost_in n l t) (λ j. small (eqb (stage_of n j) t) j)
    where
      small : (b : Bool) (j : ℕ) → (if b then edge_cost n l j else 0) ≤ max_cost
      small true j = edge-cost_in A l j
      small false j = omega arith

  -- and under a plan, so much at most.
  pub plan-cost-low : (x : List ℕ) (m : ℕ) → cost_to (cost_under n x) m ≤ m * max_cost
  unfolding cost_under
  plan-cost-low x = cost-low (cost_under n x) (λ j. edge-cost_in A (on x (stage_of n j)) j)
