-- V(k) and the grain of a net (01, Rounded cost and the grain): what doubling the grain does to V(k), how large V(k) can be, which k is the grain's.
-- The laws are those of the tree of stages; where no plan meets timing V(k) is 0 for every k, so that they hold there too.
use Rattle.std.specs.Prelude.{◌≡◌, refl, Bool, true, false, List, [], ◌∷◌, ℕ, ◌*◌, ◌-◌, ◌^◌, ◌≤◌, ◌<◌, ltb, length}
use Rattle.std.proofs.Common.{sym, ◌∙◌, arith, mul-le-mul_right, pow_mono, ltb-false, le-leb}
use Rattle.std.proofs.Math.Decide.{dec_le}
use Rattle.std.proofs.Math.Nat.{mul-le-mul}
use Rattle.std.proofs.lemmas.Bool.{lt-leb}
use Rattle.laws.specs.Basic.{sum, lowest}
use Rattle.laws.specs.Extremes.{largest-passes, largest_le}
use Rattle.rules.specs.Tree.{Net, stages, is_plan}
use Rattle.rules.specs.Timing.{meets, cost}
use Rattle.rules.specs.Grain.{max_exponent, rounded_cost, meeting_plans, least_rounded, floor, qualifies, grain_exponent}
use Rattle.facts.specs.Accepted.{Accepted}
use Rattle.facts.specs.Stages.{stages-some}
use Rattle.facts.specs.Costs.{small}
use Rattle.oracle.specs.Stages.{plan_costs}
use Rattle.oracle.specs.Value.{MeetingPlan, value-zero, floor-below}
use Rattle.demands.specs.StageNumbers.{tree_of}
use Rattle.demands.specs.Same.{cost-same, value_same}
use Rattle.demands.specs.Plans.{meeting, meeting-is, some-meeting}

-- These hold of every net.
-- Where no plan meets timing, V(k) is 0.
pub least-none : (n : Net) → ltb 0 (length (meeting_plans n)) ≡ false → (k : ℕ) → least_rounded n k ≡ 0
unfolding least_rounded
least-none n e k = go (meeting_plans n) e
  where
    go : (xs : List (List ℕ)) → ltb 0 (length xs) ≡ false → lowest (rounded_cost n k) xs ≡ 0
    go [] e = refl
    go (x ∷ xs) e = absurd (omega (arith, ltb-false 0 (length (x ∷ xs)) e))

-- Demand 2, k: k = 0 always qualifies (01), so the grain's k does; and it is one of 0 to 28.
pub zero-qualifies : (n : Net) (p q : ℕ) → qualifies n p q 0 ≡ true
unfolding qualifies
zero-qualifies n p q = le-leb (q * stages n * (2 ^ 0 - 1)) (p * 2 ^ 0 * least_rounded n 0) (omega arith)

pub grain-qualifies : (n : Net) (p q : ℕ) → qualifies n p q (grain_exponent n p q) ≡ true
unfolding grain_exponent
grain-qualifies n p q = largest-passes (qualifies n p q) max_exponent (zero-qualifies n p q)

pub grain-most : (n : Net) (p q : ℕ) → grain_exponent n p q ≤ max_exponent
unfolding grain_exponent
grain-most n p q = largest_le (qualifies n p q) max_exponent

-- Taken for as many grains of a smaller size, V(k) is no more than the floor at k.
pub finer_floor : (n : Net) {j k : ℕ} → j ≤ k → 2 ^ j * least_rounded n k ≤ floor n k
unfolding floor
finer_floor n {k = k} h = mul-le-mul_right (least_rounded n k) (pow_mono h)

module _ {n : Net} (A : Accepted n) where
  -- What holds where a plan meets timing, and where V(k) is 0 for every k, holds.
  pub either : {P : Type 0} → ((x : List ℕ) → MeetingPlan (tree_of n) x → P) → (((k : ℕ) → least_rounded n k ≡ 0) → P) → P
  either {P} some none = go (ltb 0 (length (meeting_plans n))) refl
    where
      go : (b : Bool) → ltb 0 (length (meeting_plans n)) ≡ b → P
      go true e = let (x, M) = some-meeting A e in some x M
      go false e = none (least-none n e)

  -- No plan costs as much as 2^28, by the tree of stages either.
  pub small-costs : (x : List ℕ) → sum (plan_costs (tree_of n) x) < 2 ^ max_exponent
  small-costs x = omega (arith, small A x, cost-same A x)

  -- Demand 2, refusal 11: V(28) = 0, since no plan costs as much as 2^28; so one column is enough there.
  pub least_top : least_rounded n max_exponent ≡ 0
  least_top = either (λ x M. sym (value_same A max_exponent) ∙ value-zero (tree_of n) x M (small-costs x)) (λ z. z max_exponent)

  -- Demand 3: the floor at k is at most the cost of every plan that meets timing, ..
  pub grain-below : (k : ℕ) (y : List ℕ) → is_plan n y ≡ true → meets n y ≡ true → floor n k ≤ cost n y
  unfolding floor
  grain-below k y p m = rw (← value_same A k, ← cost-same A y) (floor-below (tree_of n) k y (meeting A y p m))

  -- .. so it is below 2^28.
  pub grain-small : (k : ℕ) → floor n k < 2 ^ max_exponent
  unfolding floor
  grain-small k = either
      (λ x M. let (p, m) = meeting-is A x M in omega (arith, grain-below k x p m, small A x))
      (λ z. rw (z k) (omega arith))

  -- Demand 2, k: 28 never qualifies, so the grain's k is at most 27.
  pub top_fails : (p q : ℕ) → 1 ≤ q → qualifies n p q max_exponent ≡ false
  unfolding qualifies
  top_fails p q h =
      let one : 1 * 1 ≤ q * stages n = mul-le-mul h (stages-some n) in
      rw least_top (lt-leb (q * stages n * (2 ^ max_exponent - 1)) (p * 2 ^ max_exponent * 0) (omega arith))

  pub grain_in : (p q : ℕ) → 1 ≤ q → grain_exponent n p q < max_exponent
  grain_in p q h = go (dec_le max_exponent (grain_exponent n p q))
    where
      go : Dec (max_exponent ≤ grain_exponent n p q) → grain_exponent n p q < max_exponent
      go (yes a) =
          let e : grain_exponent n p q ≡ max_exponent = omega (arith, grain-most n p q) in
          let z : ◌≡◌ {A = ℕ} 0 1 = cc (grain-qualifies n p q, top_fails p q h) in
          absurd (omega arith)
      go (no a) = omega arith
