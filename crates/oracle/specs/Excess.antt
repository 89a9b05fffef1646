-- Each stage's least rounded cost taken off beforehand: a tree whose stages cost only what they spend above it. Every plan is charged the same amount
-- less, so the same plans are least, and the columns of the table count only what is spent above the least.
use Rattle.std.specs.Prelude.{◌≡◌, eqb, length, ◌-ℤ◌}
use Rattle.std.proofs.Math.Path.{refl, ap}
use Rattle.std.proofs.Common.{sym, ◌∙◌, arith, div-one, div-le_self, eqb-true, eq-eqb}
use mathlib.Core.List.{List, map, Memᴰ}
use Prim.Native.Nat.{ℕ, zero, suc, ◌+◌, ◌-◌, ◌/◌, ◌^◌, ◌≤◌, ◌<◌}
use Rattle.std.proofs.Math.IntN.{pos}
use Rattle.std.specs.Int.Signed.{le_z}
use Rattle.laws.specs.Basic.{from, sum, lowest}
use Rattle.laws.specs.Booleans.{both}
use Rattle.laws.specs.Extremes.{lowest_le}
use Rattle.laws.specs.Lists.{map_same, mem-from, find-keep, find_cong}
use Rattle.rules.specs.Tree.{on}
use Rattle.rules.specs.Grain.{rounded}
use Rattle.oracle.specs.Stages.{StageTree, WellFormed, driven_by, tree_plans}
use Rattle.oracle.specs.Plans.{EachBelow, each_at, plans-mem}
use Rattle.oracle.specs.Timing.{required_time_from, required_time, meets_timing}
use Rattle.oracle.specs.Value.{plan_rounded, value, is_best, first_plan, MeetingPlan, value_le, value-at}

module _ (T : StageTree) (k : ℕ) where
  -- The least rounded cost of stage i over the layers, ..
  abbrev pub stage_least : ℕ → ℕ
  stage_least i = lowest (λ l. T.cost i l / 2 ^ k) (from 0 T.layers)

  -- .. and of all stages together: no plan has a lower rounded cost.
  abbrev pub base : ℕ
  base = sum (map stage_least (from 0 T.stages))

  -- The tree in which a stage costs what its layer's rounded cost is above its least.
  abbrev pub excess : StageTree
  excess = record {
    stages = T.stages;
    layers = T.layers;
    driver = T.driver;
    delay = T.delay;
    limits = T.limits;
    cost = λ i l. T.cost i l / 2 ^ k - stage_least i;
    arrival = T.arrival;
  }

  pub excess_formed : WellFormed T → WellFormed excess
  excess_formed W = record { some-stage = W.some-stage; some-layer = W.some-layer; lower = W.lower; ends = W.ends }

  pub excess-less : (i l : ℕ) → excess.cost i l ≤ T.cost i l
  excess-less i l = omega (arith, div-le_self (T.cost i l) (2 ^ k))

  -- Required times do not rest on costs.
  required-same : (n : ℕ) (x : List ℕ) (i : ℕ) → required_time_from excess n x i ≡ required_time_from T n x i
  unfolding required_time_from
  required-same zero x i = refl
  required-same (suc n) x i =
      let r : map (λ j. required_time_from excess n x j -ℤ pos (T.delay j (on x i))) (driven_by T i) ≡ map (λ j. required_time_from T n x j -ℤ pos (T.delay j (on x i))) (driven_by T i) =
      map_same _ _ (driven_by T i) (λ j m. ap (λ t. t -ℤ pos (T.delay j (on x i))) (required-same n x j)) in
      rw r

  pub meets-excess : (x : List ℕ) → meets_timing excess x ≡ meets_timing T x
  unfolding required_time
  meets-excess x = ap (le_z T.arrival) (required-same T.stages x 0)

  pub excess-plan : (x : List ℕ) → MeetingPlan T x → MeetingPlan excess x
  excess-plan x M = record { plan = M.plan; meets = meets-excess x ∙ M.meets }

  plan-excess : (x : List ℕ) → MeetingPlan excess x → MeetingPlan T x
  plan-excess x M = record { plan = M.plan; meets = sym (meets-excess x) ∙ M.meets }

  -- What one stage costs, in two parts.
  stage-split : (i l : ℕ) → l < T.layers → T.cost i l / 2 ^ k ≡ stage_least i + excess.cost i l
  stage-split i l h = omega (arith, lowest_le (λ l. T.cost i l / 2 ^ k) (from 0 T.layers) (mem-from 0 T.layers l (omega arith) (omega arith)))

  split_from : (x : List ℕ) → EachBelow T.layers x → (i n : ℕ) → i + n ≤ length x
      → rounded (2 ^ k) (map (λ i. T.cost i (on x i)) (from i n))
      ≡ sum (map stage_least (from i n)) + rounded (2 ^ 0) (map (λ i. excess.cost i (on x i)) (from i n))
  split_from x u i zero h = refl
  split_from x u i (suc n) h =
      omega (arith, stage-split i (on x i) (each_at T.layers x i u (omega arith)), div-one (excess.cost i (on x i)), split_from x u (suc i) n (omega arith))

  -- Every plan's rounded cost is the least of all stages together and what it spends above that.
  pub rounded-split : (x : List ℕ) → Memᴰ x (tree_plans T) → plan_rounded T k x ≡ base + plan_rounded excess 0 x
  rounded-split x m = let (len, u) = plans-mem T.layers T.stages x m in split_from x u 0 T.stages (omega arith)

  module _ (x : List ℕ) (M : MeetingPlan T x) where
    -- So V(k) is too, ..
    pub value-split : value T k ≡ base + value excess 0
    value-split =
        let (z, N, e) = value-at T k x M in
        let (y, L, f) = value-at excess 0 x (excess-plan x M) in
        omega (
          arith,
          rounded-split z N.plan,
          value_le excess 0 z (excess-plan z N),
          rounded-split y L.plan,
          value_le T k y (plan-excess y L),
        )

    best-same : (y : List ℕ) → Memᴰ y (tree_plans T) → is_best excess 0 y ≡ is_best T k y
    best-same y m =
        let r = rounded-split y m in
        let v = value-split in
        let e : eqb (plan_rounded excess 0 y) (value excess 0) ≡ eqb (plan_rounded T k y) (value T k) =
        both (eqb (plan_rounded excess 0 y) (value excess 0)) (eqb (plan_rounded T k y) (value T k))
        (λ t. eq-eqb (plan_rounded T k y) (value T k) (omega (arith, eqb-true (plan_rounded excess 0 y) (value excess 0) t)))
        (λ t. eq-eqb (plan_rounded excess 0 y) (value excess 0) (omega (arith, eqb-true (plan_rounded T k y) (value T k) t))) in
        rw (meets-excess y, e)

    -- .. and the plan that 01 chooses is the same.
    pub first-excess : first_plan excess 0 ≡ first_plan T k
    first-excess =
        find-keep (is_best excess 0) (tree_plans T)
        ∙ find_cong (is_best excess 0) (is_best T k) (tree_plans T) best-same
        ∙ sym (find-keep (is_best T k) (tree_plans T))
