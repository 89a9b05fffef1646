-- The edges of each stage, counted one by one (02, wish 4): an edge counts 1 for its own stage and 0 for every other. As each edge is of one stage, the
-- counts of the stages add up to the number of edges, which is that of the nodes after the driver (01, The tree; source 001, section 2).
use Rattle.std.specs.Prelude.{◌≡◌, Bool, map, ℕ, suc, ◌+◌, ◌≤◌, length, if◌then◌else◌}
use Rattle.std.proofs.Math.Path.{refl, sym}
use Rattle.std.proofs.Common.{ap, ◌∙◌}
use Rattle.std.proofs.Math.Bool.{true, false}
use native.Mathlib.Omega.{arith}
use Rattle.std.proofs.Math.Dec.{eqb}
use Rattle.laws.specs.Basic.{from, sum, keep}
use Rattle.laws.specs.Lists.{length_from, from_low, from-mem, map_same}
use Rattle.laws.specs.Sums.{sum-most, sum-keep, sum_ones, sum-by_class}
use Rattle.rules.specs.Tree.{Net, edges, edges_of, stage_of, stages}
use Rattle.facts.specs.Accepted.{Accepted}
use Rattle.facts.specs.Stages.{stage-below}

-- How many of the m edges from a on are edges of stage t.
unfoldable pub edges_from : Net → ℕ → ℕ → ℕ → ℕ
edges_from n t a m = sum (map (λ j. if eqb (stage_of n j) t then 1 else 0) (from a m))

module _ (n : Net) (t : ℕ) where
  -- Of none of them: none.
  pub edges_none : (a : ℕ) → edges_from n t a 0 ≡ 0
  unfolding edges_from
  edges_none a = refl

  -- One edge more.
  pub edges_more : (a m : ℕ) → edges_from n t a (suc m) ≡ (if eqb (stage_of n a) t then 1 else 0) + edges_from n t (suc a) m
  unfolding edges_from
  edges_more a m = refl

  -- No more than there are.
  pub edges_few : (a m : ℕ) → edges_from n t a m ≤ m
  unfolding edges_from
  edges_few a m = omega (arith, sum-most (λ j. if eqb (stage_of n j) t then 1 else 0) 1 (λ j. once (eqb (stage_of n j) t)) (from a m), length_from a m)
    where
      once : (b : Bool) → (if b then 1 else 0) ≤ 1
      once true = omega arith
      once false = omega arith

  -- Of all edges: those of the stage.
  pub edges-all : edges_from n t 1 (length n.nodes) ≡ length (edges_of n t)
  unfolding edges_from edges_of edges
  edges-all = sym (sum-keep (λ j. eqb (stage_of n j) t) (λ j. 1) (from 1 (length n.nodes))) ∙
      sum_ones (keep (λ j. eqb (stage_of n j) t) (from 1 (length n.nodes)))

-- There are as many edges as nodes after the driver.
edge-number : (n : Net) → length (edges n) ≡ length n.nodes
unfolding edges
edge-number n = length_from 1 (length n.nodes)

module _ {n : Net} (A : Accepted n) where
  -- Summed over the edges of each stage and then over the stages, every edge counts once, with its stage.
  pub sum-by-stage : (value : ℕ → ℕ → ℕ)
      → sum (map (λ t. sum (map (value t) (edges_of n t))) (from 0 (stages n))) ≡ sum (map (λ j. value (stage_of n j) j) (edges n))
  unfolding edges_of edges
  sum-by-stage value = sum-by_class value (stage_of n) (stages n) (from 1 (length n.nodes))
      (λ j m. stage-below A j (from_low 1 (length n.nodes) j m) (omega (arith, from-mem 1 (length n.nodes) j m)))

  -- Over the stages the numbers of edges add up to the nodes after the driver.
  pub edges-by-stage : sum (map (λ t. length (edges_of n t)) (from 0 (stages n))) ≡ length n.nodes
  edges-by-stage =
      ap sum (map_same (λ t. length (edges_of n t)) (λ t. sum (map (λ j. 1) (edges_of n t))) (from 0 (stages n)) (λ t m. sym (sum_ones (edges_of n t)))) ∙
      sum-by-stage (λ t j. 1) ∙ sum_ones (edges n) ∙ edge-number n
