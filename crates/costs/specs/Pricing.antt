-- The pass over the edges: before node j the table holds the costs of the edges before it, and the edge to node j adds its costs to those of its stage.
use Rattle.std.specs.Prelude.{◌≡◌, ◌⊎◌, List, ℕ, ◌+◌, ◌*◌, ◌-◌, ◌≤◌, ◌<◌, length, replicate}
use Rattle.std.proofs.Common.{ap, sym, ◌∙◌, inl, inr, arith}
use Rattle.std.proofs.lemmas.List.{length-replicate, get_or-replicate}
use Rattle.laws.specs.Booleans.{same_or}
use Rattle.rules.specs.Tree.{Net, stage_of, layer_count}
use Rattle.rules.specs.Bytes.{max_layers, max_stages}
use Rattle.facts.specs.Accepted.{Accepted}
use Rattle.facts.specs.Ranges.{edge-cost_in}
use Rattle.facts.specs.Stages.{stage-below}
use Rattle.slices.specs.Rows.{RowSet, row_kept}
use Rattle.slices.specs.Laid.{on_layer}
use Rattle.costs.specs.Priced.{Priced, cost_to, cost-none, cost-more, cost_in, own-cost, no_cost, stage-cost-all, stage-cost-low}
use Rattle.costs.specs.Adding.{Room, cost_with}

-- The pass before node j.
pub record Pricing (n : Net) (costs : List ℕ) (j : ℕ) : Type 0 where
  pub some : 1 ≤ j
  pub inside : j ≤ length n.nodes + 1
  pub each : (t l : ℕ) → t < max_stages → l < layer_count n → on_layer costs t l ≡ cost_to (cost_in n l t) (j - 1)
  pub long : length costs ≡ max_stages * max_layers

-- At first the table is all zeros.
pub pricing_start : {n : Net} → Accepted n → {costs : List ℕ} → costs ≡ replicate (max_stages * max_layers) 0 → Pricing n costs 1
pricing_start {n} A e = record {
  some = omega arith;
  inside = omega arith;
  each = λ t l a b. rw e (get_or-replicate (max_stages * max_layers) (t * max_layers + l) 0 0 (omega (arith, A.few-layers)) ∙ sym (cost-none (cost_in n l t)));
  long = ap length e ∙ length-replicate {A = ℕ} (max_stages * max_layers) 0;
}

-- After the last node it holds the costs of all edges.
pub pricing_end : {n : Net} → Accepted n → {costs : List ℕ} {j : ℕ} → Pricing n costs j → length n.nodes < j → Priced n costs
pricing_end {n} A {costs} {j} P h = record {
  each = λ t l a b.
      let e : j - 1 ≡ length n.nodes = omega (arith, P.inside) in
      P.each t l (omega (arith, A.few-stages)) b ∙ (ap (cost_to (cost_in n l t)) e ∙ stage-cost-all n l t);
  long = P.long;
}

-- A turn: t is the stage of the edge to node j.
module _ {n : Net} (A : Accepted n) {costs : List ℕ} {j t layers : ℕ} (P : Pricing n costs j) (b : j ≤ length n.nodes) (el : layers ≡ layer_count n)
    (et : t ≡ stage_of n j) where
  stage_in : t < max_stages
  stage_in = omega (arith, stage-below A j P.some b, A.few-stages)

  -- There is room for the costs of the edge.
  pub room : Room n j t layers costs
  room = record {
    few = omega (arith, A.few-layers);
    row = record { row_in = stage_in; long = omega (arith, P.long) };
    priced = λ l a. edge-cost_in A l j;
    low = λ l a. omega (arith, P.each t l stage_in (omega arith), stage-cost-low A l t (j - 1), A.few-nodes);
  }

  -- With them the table holds the costs up to node j.
  pub pricing_more : {next : List ℕ} → RowSet 0 max_layers costs next t layers (cost_with n j t costs) → Pricing n next (j + 1)
  pricing_more {next} D = record {
    some = omega arith;
    inside = omega arith;
    each = λ s l a c. rw now (here s l a c (same_or t s));
    long = D.long ∙ P.long;
  }
    where
      now : j + 1 - 1 ≡ j
      now = omega arith

      here : (s l : ℕ) → s < max_stages → l < layer_count n → (s ≡ t) ⊎ (s ≡ t → ⊥) → on_layer next s l ≡ cost_to (cost_in n l s) j
      here s l a c (inl q) =
          rw q (omega (arith, D.set_to l (omega arith), P.each t l stage_in c, cost-more (cost_in n l t) j P.some, own-cost n l j et))
      here s l a c (inr ne) =
          let k : l < max_layers = omega (arith, A.few-layers) in
          omega (arith, row_kept D s l k ne, P.each s l a c, cost-more (cost_in n l s) j P.some, no_cost n l {t = s} j (λ q. ne (q ∙ sym et)))
