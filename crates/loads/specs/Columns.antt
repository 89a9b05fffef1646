-- Which layers the columns of the tables stand for. Each stage has w columns, for the layers from `first` of the stage on: judging has one column, the layer
-- that the plan gives the stage, and planning has them all, from layer 0 on. So one version of loads and delays serves both.
use Rattle.std.specs.Prelude.{◌≡◌, refl, List, ℕ, ◌+◌, ◌≤◌, ◌<◌, length, get_or, replicate}
use Rattle.std.proofs.Common.{ap, sym, ◌∙◌, arith}
use Rattle.std.proofs.Math.Decide.{dec_lt}
use Rattle.std.proofs.lemmas.List.{length-replicate, get_or-replicate}
use Rattle.std.proofs.Math.ListN.{get_or-eq_default}
use Rattle.rules.specs.declared.Kind.TheVariants.{Steiner}
use Rattle.rules.specs.Tree.{Net, at, stage_of, stages, layer_count, on}
use Rattle.rules.specs.Bytes.{max_nodes, max_stages}
use Rattle.facts.specs.Accepted.{Accepted}
use Rattle.facts.specs.Stages.{stage-below}
use Rattle.tree.specs.Staged.{Staged, stage_below, stage-is-below, below-is, wire-below}
use Rattle.tree.specs.Plans.{Fitting}

-- The columns of each stage stand for layers that there are.
pub record Columns (n : Net) (first : List ℕ) (w : ℕ) : Type 0 where
  pub inside : (t : ℕ) → t < stages n → on first t + w ≤ layer_count n
  pub long : stages n ≤ length first

-- A plan gives each stage its one column.
pub plan-columns : {n : Net} {plan : List ℕ} → Fitting n plan → Columns n plan 1
plan-columns F = record { inside = λ t h. omega (arith, F.layered t h); long = omega (arith, F.sized) }

-- In an array of zeros every entry is 0, also one that there is not.
pub zeros : (m k : ℕ) → get_or (replicate {A = ℕ} m 0) k 0 ≡ 0
zeros m k = go (dec_lt k m)
  where
    go : Dec (k < m) → ◌≡◌ {A = ℕ} (get_or (replicate {A = ℕ} m 0) k 0) 0
    go (yes h) = get_or-replicate m k 0 0 h
    go (no h) = get_or-eq_default (replicate {A = ℕ} m 0) 0 (omega (arith, length-replicate {A = ℕ} m 0))

-- Zeros give each stage all layers.
pub layer-columns : {n : Net} → Accepted n → {w : ℕ} → w ≡ layer_count n → Columns n (replicate {A = ℕ} max_stages 0) w
layer-columns A e = record {
  inside = λ t h. omega (arith, zeros max_stages t);
  long = omega (arith, A.few-stages, length-replicate {A = ℕ} max_stages 0);
}

-- The wire below the upper end of an edge, and below its lower end if that is a Steiner point, is of the edge's stage, so the columns stand for the same
-- layers (01, The tree). l is the first layer of that stage.
module _ {n : Net} (A : Accepted n) (first : List ℕ) {j l : ℕ} (h : 1 ≤ j) (e : l ≡ on first (stage_of n j)) where
  pub layer-above : on first (stage_below n (at n j).parent) ≡ l
  layer-above = sym (e ∙ ap (on first) (stage-is-below A j h))

  pub layer_below : (at n j).kind ≡ Steiner → on first (stage_below n j) ≡ l
  layer_below s = ap (on first) (below-is A j h ∙ rw s refl) ∙ sym e

-- The stage of edge j as code looks it up, which is that of the wire below the upper end of the edge, and the first layer of that stage.
pub record Staging (n : Net) (below first : List ℕ) (w j : ℕ) : Type 0 where
  pub parent-lower : (at n j).parent < j
  pub node_in : j ≤ max_nodes
  pub below-long : length below ≡ max_nodes + 1
  pub each_in : (i : ℕ) → i ≤ j → get_or below i 0 < max_stages
  pub first_in : (i : ℕ) → i ≤ j → get_or below i 0 < length first
  pub columns_in : (i : ℕ) → i ≤ j → on first (get_or below i 0) + w ≤ layer_count n
  pub stage_is : get_or below (at n j).parent 0 ≡ stage_of n j
  pub layer-is : {l : ℕ} → l ≡ get_or first (get_or below (at n j).parent 0) 0 → l ≡ on first (stage_of n j)
  pub layer_in_lem : {l : ℕ} → l ≡ get_or first (get_or below (at n j).parent 0) 0 → l + w ≤ layer_count n

pub staging : {n : Net} → Accepted n → {stage below first : List ℕ} {w j : ℕ} → Staged n stage below → Columns n first w → 1 ≤ j → j ≤ length n.nodes
    → Staging n below first w j
staging {n} A {stage} {below} {first} {w} {j} S C a b =
    let lower = A.parent-lower j a in
    let e : get_or below (at n j).parent 0 ≡ stage_of n j = S.below-is (at n j).parent (omega arith) ∙ sym (stage-is-below A j a) in
    let h : get_or below (at n j).parent 0 < stages n = omega (arith, stage-below A j a b) in
    record {
      parent-lower = lower;
      node_in = omega (arith, A.few-nodes);
      below-long = S.below-long;
      each_in = λ i k. omega (arith, low i k, A.few-stages);
      first_in = λ i k. omega (arith, low i k, C.long);
      columns_in = λ i k. C.inside (get_or below i 0) (low i k);
      stage_is = e;
      layer-is = λ q. q ∙ ap (on first) e;
      layer_in_lem = λ q. omega (arith, C.inside (get_or below (at n j).parent 0) h);
    }
  where
    low : (i : ℕ) → i ≤ j → get_or below i 0 < stages n
    low i k = let c : i ≤ length n.nodes = omega arith in omega (arith, S.below-is i c, wire-below A i c)
