-- Demand 3: the plan is near the cheapest. The floor is the grain times V(k): rounding never adds, so it is at most the cost of every plan that meets
-- timing, and it takes less than one grain off each stage, which the test of k keeps within the share (01, Planning; source 000, section IV.B).
use Rattle.std.specs.Prelude.{◌≡◌, refl, true, List, ℕ, ◌+◌, ◌*◌, ◌≤◌}
use Rattle.std.proofs.Math.Path.{ap}
use Rattle.std.proofs.Common.{◌∙◌, arith, add-zero, mul-le-mul_left}
use Rattle.std.proofs.Math.Option.{some}
use Rattle.std.proofs.Math.Nat.{le_of_mul-le-mul_left}
use Rattle.rules.specs.Tree.{Net, is_plan}
use Rattle.rules.specs.Timing.{meets, cost}
use Rattle.rules.specs.Grain.{floor, grain_exponent, chosen}
use Rattle.rules.specs.Planning.{IsFloor}
use Rattle.facts.specs.Accepted.{Accepted}
use Rattle.oracle.specs.Value.{exponent, first_plan}
use Rattle.oracle.specs.Result
use Rattle.demands.specs.StageNumbers.{tree_of}
use Rattle.demands.specs.Same.{cost-same, value_same, exponent_same, first-same}
use Rattle.demands.specs.Values.{grain-below}

-- The two bounds on a floor put the cost within the share of the cost of every plan that meets timing.
pub floor-near : {n : Net} {p q plan_cost bound : ℕ} → IsFloor n p q plan_cost bound → (y : List ℕ) → is_plan n y ≡ true → meets n y ≡ true
    → q * plan_cost ≤ (q + p) * cost n y
floor-near {n} {p} {q} F y plan m = omega (arith, F.near, mul-le-mul_left (q + p) (F.below y plan m))

module _ {n : Net} (A : Accepted n) (p q : ℕ) (x : List ℕ) (is : chosen n (grain_exponent n p q) ≡ some x) where
  -- Demand 3: the floor at the grain's k keeps both bounds for the plan chosen, ..
  pub chosen-floor : IsFloor n p q (cost n x) (floor n (grain_exponent n p q))
  unfolding floor
  chosen-floor = record {
    below = grain-below A (grain_exponent n p q);
    near =
        let first = ap (first_plan (tree_of n)) (exponent_same A p q) ∙ first-same A (grain_exponent n p q) ∙ is in
        rw (← cost-same A x, ← exponent_same A p q, ← value_same A (exponent (tree_of n) p q)) (Result.floor-bounds (tree_of n) p q x first).1;
  }

  -- .. so q times its cost is at most (q + p) times the cost of every plan of the net that meets timing.
  pub near-cheapest : (y : List ℕ) → is_plan n y ≡ true → meets n y ≡ true → q * cost n x ≤ (q + p) * cost n y
  near-cheapest = floor-near chosen-floor

-- What is within share 0 of a number is no more than it.
pub within-zero : {p q plan_cost bound : ℕ} → p ≡ 0 → 1 ≤ q → q * plan_cost ≤ (q + p) * bound → plan_cost ≤ bound
within-zero {q = q} z h e = le_of_mul-le-mul_left (rw (z, add-zero q) at e) h

-- Demand 3 at a share of 0: the plan chosen is the cheapest (01, Rounded cost and the grain).
pub cheapest : {n : Net} (A : Accepted n) (q : ℕ) → 1 ≤ q → (x : List ℕ) → chosen n (grain_exponent n 0 q) ≡ some x
    → (y : List ℕ) → is_plan n y ≡ true → meets n y ≡ true → cost n x ≤ cost n y
cheapest A q h x is y p m = within-zero refl h (near-cheapest A 0 q x is y p m)
