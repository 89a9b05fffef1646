-- The plan at a grain, from the rows of the tree in which each stage's least rounded cost is taken off: V(k) is what was taken off and what the rows say
-- is spent above it, and the plan that 01 chooses is the one read off them.
use mathlib.Core.Path.{◌≡◌, refl, sym, ◌∙◌}
use mathlib.Core.List.{List}
use Rattle.std.specs.Prelude.{Some, None}
use Prim.Native.Nat.{ℕ, suc, ◌+◌, ◌-◌, ◌*◌, ◌/◌, ◌^◌, ◌≤◌, ◌<◌, min}
use native.Mathlib.Omega.{arith}
use native.Mathlib.Nat.{mul-le-mul_left, mul-le-mul_right, pow-suc}
use lib.ListN.{length}
use lib.IntN.{ℤ}
use lib.Pow.{pow_pos}
use Rattle.std.proofs.Common.{SFits, w64, to_z, of_z, to_z-of_z}
use Rattle.laws.specs.Sums.{sum_mono}
use Rattle.laws.specs.Basic.{from}
use Rattle.rules.specs.Bytes.{max_stages}
use Rattle.rules.specs.Grain.{max_exponent}
use Rattle.rules.specs.Tree.{on}
use Rattle.oracle.specs.Stages.{StageTree, plan_costs}
use Rattle.oracle.specs.Rounding.{rounded-below}
use Rattle.oracle.specs.Value.{plan_rounded, value, MeetingPlan, value_le}
use Rattle.oracle.specs.Excess.{excess, excess_formed, excess-less, excess-plan, value-split, first-excess}
use Rattle.fanout.specs.Clauses.{Linked}
use Rattle.slices.specs.Laid.{LaidDelays}
use Rattle.readoff.specs.Clauses.{ReadIn, PlanRead}
use Rattle.rounding.specs.Clauses.{Costs, plan_in, PricedPlan, Excess}
use Rattle.rounds.specs.Problem.{Numbers, numbers-same}
use Rattle.rounds.specs.Clauses.{RoundIn, ValueAt, Known, PlanAt}
use Rattle.rounds.proofs.Rounds.{round_value, read_in, round_first}

-- Taking costs off leaves drivers and delays.
excess-delays : {T : StageTree} (k : ℕ) {driver delay : List ℕ} → LaidDelays T driver delay → LaidDelays (excess T k) driver delay
excess-delays k L = record {
  few-stages = L.few-stages;
  few-layers = L.few-layers;
  driver-long = L.driver-long;
  delay-long = L.delay-long;
  driver-at = L.driver-at;
  delay-at = L.delay-at;
  delays-to = L.delays-to;
  delay-most = L.delay-most;
  delays-most = L.delays-most;
  arrival-most = L.arrival-most;
}

-- Half of a grain is the next.
pub half-grain : {g : ℕ} (k : ℕ) → g ≡ 2 ^ suc k → g / 2 ≡ 2 ^ k
half-grain k e = let p : 2 ^ suc k ≡ 2 ^ k * 2 = pow-suc 2 k in omega arith

module _ {driver delay : List ℕ} {limit : List ℤ} {cost : List ℕ} {stages layers : ℕ} {arrival : ℤ} where
  -- What rounding asks of the slice of costs, ..
  pub costs_of : {T : StageTree} → Numbers T driver delay limit cost stages layers arrival → Costs T cost stages
  costs_of N = record {
    laid = N.laid.costs;
    stages-are = N.stages-are;
    few-stages = N.laid.delays.few-stages;
    some-layer = N.tree.some-layer;
    few-layers = N.laid.delays.few-layers;
  }

  -- .. and of a plan.
  pub priced-plan : {T : StageTree} {plan : List ℕ} {g : ℕ} → Numbers T driver delay limit cost stages layers arrival → stages ≤ length plan
      → MeetingPlan T (plan_in stages plan) → 0 < g → PricedPlan cost plan stages g
  priced-plan {T} N long M h = record { tree = T; costs = costs_of N; long = long; meets = M; some-grain = h }

  -- The same numbers with the arrival time as it is lent on.
  pub numbers-kept : {T : StageTree} → SFits w64 arrival → Numbers T driver delay limit cost stages layers arrival
      → Numbers T driver delay limit cost stages layers (to_z w64 (of_z w64 arrival))
  numbers-kept h N = numbers-same (to_z-of_z h) N

  -- What is taken off at the grain.
  pub taken_off : {T : StageTree} {k g base : ℕ} {slice : List ℕ} → Numbers T driver delay limit cost stages layers arrival → g ≡ 2 ^ k
      → ((T : StageTree) (k : ℕ) → Costs T cost stages → layers ≡ T.layers → g ≡ 2 ^ k → Excess T k slice base) → Excess T k slice base
  taken_off {T} {k} N e E = E T k (costs_of N) N.layers-are e

  -- The slices with the costs that are left hold the numbers of the tree with these costs.
  pub excess-numbers : {T : StageTree} {k base : ℕ} {slice : List ℕ} → Numbers T driver delay limit cost stages layers arrival
      → Excess T k slice base → Numbers (excess T k) driver delay limit slice stages layers arrival
  excess-numbers {T} {k} N X =
      let L = N.laid in
      record {
        laid = record {
          delays = excess-delays k L.delays;
          limit_long = L.limit_long;
          limit_at = L.limit_at;
          limit_most = L.limit_most;
          costs = X.laid;
        };
        tree = excess_formed T k N.tree;
        stages-are = N.stages-are;
        layers-are = N.layers-are;
        arrival-is = N.arrival-is;
        cheap = λ x.
            let less = sum_mono (λ i. (excess T k).cost i (on x i)) (λ i. T.cost i (on x i)) (λ i. excess-less T k i (on x i)) (from 0 T.stages) in
            omega (arith, N.cheap x);
      }

  -- The rounded cost of a known plan is small.
  pub bound_small : {T : StageTree} {k bound : ℕ} {known : List ℕ} → Numbers T driver delay limit cost stages layers arrival → Known T k stages known bound
      → bound < 2 ^ max_exponent
  bound_small {T} {k} {bound} {known} N K =
      let x = plan_in stages known in
      let h = pow_pos k in
      omega (arith, rounded-below (2 ^ k) (plan_costs T x), N.cheap x, mul-le-mul_right (plan_rounded T k x) h, K.bound_is)

  module _ {T : StageTree} {k bound base : ℕ} {known slice : List ℕ} (N : Numbers T driver delay limit cost stages layers arrival)
      (K : Known T k stages known bound) (X : Excess T k slice base) where
    pub left : Numbers (excess T k) driver delay limit slice stages layers arrival
    left = excess-numbers N X

    left_meets : MeetingPlan (excess T k) (plan_in stages known)
    left_meets = excess-plan T k (plan_in stages known) K.meets

    value-is : value T k ≡ base + value (excess T k) 0
    value-is = omega (arith, value-split T k (plan_in stages known) K.meets, X.base-is)

    within_bound : value T k ≤ bound
    within_bound = omega (arith, value_le T k (plan_in stages known) K.meets, K.bound_is)

    -- What is taken off already needs all columns.
    pub none_left : (after : List ℕ) {columns : ℕ} → columns ≤ base → PlanAt T k columns stages after None
    none_left after h = omega (arith, value-is)

    -- What is taken off is within the bound.
    pub base-within : base ≤ bound
    base-within = omega (arith, value-is, within_bound)

    -- m is where the columns end: past the bound, or at the table's end.
    module _ {columns m : ℕ} (h : base < columns) (w : m ≡ min columns (bound + 1)) where
      abbrev width : ℕ
      width = m - base

      pub some-width : 0 < width
      some-width = omega (arith, value-is, within_bound)

      module _ (table : List ℤ) (room : (stages + 2) * columns ≤ length table) where
        room-left : (stages + 2) * width ≤ length table
        room-left = let m : width ≤ columns = omega arith in omega (arith, room, mul-le-mul_left (stages + 2) m)

        pub round_in : {starts ends : List ℕ} → length starts ≡ max_stages → length ends ≡ max_stages
            → RoundIn table driver delay limit slice starts ends stages layers arrival 1 width
        round_in p q = record {
          tree = excess T k;
          numbers = left;
          sized = room-left;
          starts_long = omega (arith, N.stages-are, N.laid.delays.few-stages);
          ends-long = omega (arith, N.stages-are, N.laid.delays.few-stages);
          some-column = some-width;
          some-grain = omega arith;
        }

        -- V(k) is past the columns.
        pub all_spent : (after : List ℕ) {starts ends : List ℕ} → ValueAt (excess T k) 0 width table starts ends None → PlanAt T k columns stages after None
        all_spent after R = let past = round_value None left some-width R (plan_in stages known) left_meets in omega (arith, value-is, within_bound)

        module _ {starts ends : List ℕ} {spent : ℕ} (R : ValueAt (excess T k) 0 width table starts ends (Some spent)) where
          spent_is : (spent ≡ value (excess T k) 0) × (spent < width)
          spent_is = round_value (Some spent) left some-width R (plan_in stages known) left_meets

          pub reading : {first next : List ℕ} {times : List ℤ} {plan : List ℕ} → Linked driver first next stages → length times ≡ max_stages
              → stages ≤ length plan → ReadIn table driver first next delay limit slice starts ends stages layers width 1 arrival times plan
          reading L = read_in left R L refl room-left

          pub plan-at : {first next before after : List ℕ} → Linked driver first next stages
              → PlanRead table driver first next delay limit slice starts ends stages layers width 1 arrival before after
              → PlanAt T k columns stages after (Some (base + spent))
          plan-at L P = record {
            is = omega (arith, value-is, spent_is);
            fits = omega (arith, spent_is);
            chosen =
                sym (first-excess T k (plan_in stages known) K.meets)
                ∙ round_first left R L refl room-left (plan_in stages known) left_meets P;
          }

          pub sum-small : base + spent ≤ bound
          sum-small = omega (arith, value-is, within_bound, spent_is)
