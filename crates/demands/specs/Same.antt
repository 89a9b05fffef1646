-- Plans, V(k), the grain and the plan chosen by the tree of stages are those of 01 ('Rounded cost and the grain'): both are defined in the same words from
-- meeting timing and stage costs, and these are the same.
use Rattle.std.specs.Prelude.{◌≡◌, Bool}
use Rattle.std.proofs.Math.Path.{ap, fun_ext}
use Rattle.std.proofs.Common.{◌∙◌}
use mathlib.Core.List.{List, head?}
use Prim.Native.Nat.{ℕ, ◌*◌, ◌-◌, ◌^◌}
use Rattle.std.proofs.Math.Dec.{leb}
use Rattle.laws.specs.Basic.{sum, keep, lowest, largest}
use Rattle.rules.specs.Tree.{Net, stages, plans}
use Rattle.rules.specs.Timing.{cost, stage_costs}
use Rattle.rules.specs.Grain.{max_exponent, rounded_cost, meeting_plans, least_rounded, qualifies, grain_exponent, chosen}
use Rattle.facts.specs.Accepted.{Accepted}
use Rattle.facts.specs.Costs.{sum-costs}
use Rattle.oracle.specs.Stages.{plan_costs}
use Rattle.oracle.specs.Value.{value, passes, exponent, first_plan}
use Rattle.demands.specs.StageNumbers.{tree_of}
use Rattle.demands.specs.Required.{meets-same, costs-same}

module _ {n : Net} (A : Accepted n) where
  pub cost-same : (x : List ℕ) → sum (plan_costs (tree_of n) x) ≡ cost n x
  cost-same x = ap sum (costs-same n x) ∙ sum-costs A x

  -- V(k).
  pub value_same : (k : ℕ) → value (tree_of n) k ≡ least_rounded n k
  unfolding least_rounded meeting_plans rounded_cost stage_costs plans
  value_same k = ap (λ (test : List ℕ → Bool). lowest (rounded_cost n k) (keep test (plans n))) (fun_ext (meets-same A))

  -- The test of k at share p/q.
  pub passes_same : (p q k : ℕ) → passes (tree_of n) p q k ≡ qualifies n p q k
  unfolding qualifies
  passes_same p q k = ap (λ (v : ℕ). leb (q * stages n * (2 ^ k - 1)) (p * 2 ^ k * v)) (value_same k)

  -- The k of the grain.
  pub exponent_same : (p q : ℕ) → exponent (tree_of n) p q ≡ grain_exponent n p q
  unfolding exponent grain_exponent
  exponent_same p q = ap (λ (test : ℕ → Bool). largest test max_exponent) (fun_ext (passes_same p q))

  -- The plan chosen at k.
  pub first-same : (k : ℕ) → first_plan (tree_of n) k ≡ chosen n k
  unfolding chosen rounded_cost stage_costs plans
  first-same k =
      ap (λ (test : List ℕ → Bool). head? (keep test (plans n)))
      (fun_ext (λ x. rw (meets-same A x, value_same k)))
