-- What the search rests on, for every tree of stages: the least charge of the tree is V(k), and V(k) is the first column of the driver's row that reaches
-- the arrival time; the plan read off the table is the plan that 01 chooses; and that plan is near the cheapest.
use Rattle.std.specs.Prelude.{◌≡◌, refl, Bool, true, false, ◌&&◌, ℕ, zero, suc, ◌+◌, ◌*◌, ◌^◌, ◌≤◌, min, leb, eqb, length}
use Rattle.std.proofs.Common.{ap, sym, ◌∙◌, arith, leb-true, leb-false, eq-eqb, ne_eqb}
use Rattle.std.proofs.Math.Option.{some}
use mathlib.Core.List.{List, Memᴰ}
use Rattle.std.proofs.Math.Decide.{dec_le}
use Rattle.laws.specs.Basic.{sum}
use Rattle.laws.specs.Lists.{find, find-keep, find_cong}
use Rattle.oracle.specs.Stages.{StageTree, WellFormed, tree_plans, plan_costs}
use Rattle.oracle.specs.Plans.{mem-plans, plans-mem}
use Rattle.oracle.specs.Programme.{plan_charge, least_charge, least_charge_le, least_charge-at, least_of_all}
use Rattle.oracle.specs.Timing.{meets_timing, late_sinks, charge, least_at, charge-split, on_time}
use Rattle.oracle.specs.Value.{plan_rounded, value, exponent, is_best, first_plan, MeetingPlan, value_le, value-at, first-meets, floor-below, near-floor}
use Rattle.oracle.specs.ReadOff.{read_off, read_first}

module _ (T : StageTree) (k hi : ℕ) where
  -- The least charge of the whole tree, reached at the arrival time.
  abbrev pub tree_least : ℕ
  tree_least = least_at T k hi 0 T.arrival

  -- The plan read off a table with the columns 0 to hi.
  abbrev pub read_plan : List ℕ
  read_plan = read_off T (charge T k hi) T.stages 0 (λ j. T.arrival)

  -- What a plan is charged: its rounded cost if it meets timing, and more than hi if not.
  abbrev tree_charge : List ℕ → ℕ
  tree_charge x = plan_charge T (charge T k hi) 0 (λ j. T.arrival) x

  module _ (W : WellFormed T) where
    split : (x : List ℕ) → length x ≡ T.stages → tree_charge x ≡ plan_rounded T k x + suc hi * plan_charge T (late_sinks T) 0 (λ j. T.arrival) x
    split x len = charge-split T k hi x T.stages 0 (λ j. T.arrival) (omega arith)

    charge-meets : (x : List ℕ) → MeetingPlan T x → tree_charge x ≡ plan_rounded T k x
    charge-meets x M =
        let (len, u) = plans-mem T.layers T.stages x M.plan in
        let z = (on_time T W x len u).1 M.meets in
        let s = rw z at (split x len) in
        omega arith

    within-zero : (m : ℕ) → suc hi * m ≤ hi → m ≡ 0
    within-zero zero h = refl
    within-zero (suc m) h = omega arith

    meets-charge : (x : List ℕ) → Memᴰ x (tree_plans T) → tree_charge x ≤ hi → meets_timing T x ≡ true
    meets-charge x m h =
        let (len, u) = plans-mem T.layers T.stages x m in
        let s = split x len in
        (on_time T W x len u).0 (within-zero (plan_charge T (late_sinks T) 0 (λ j. T.arrival) x) (omega arith))

    -- The programme is exact: a least charge up to hi is the rounded cost of a plan that meets timing, ..
    pub least-plan : tree_least ≤ hi → (x : List ℕ) × MeetingPlan T x × (plan_rounded T k x ≡ tree_least)
    least-plan h =
        let (x, len, u, e) = least_charge-at T (charge T k hi) W.some-layer T.stages 0 (λ j. T.arrival) in
        let o = least_of_all T (charge T k hi) W (λ j. T.arrival) in
        let m : Memᴰ x (tree_plans T) = rw len at (mem-plans T.layers x u) in
        let M : MeetingPlan T x = record { plan = m; meets = meets-charge x m (omega arith) } in
        (x, M, omega (arith, charge-meets x M))

    -- .. and no plan that meets timing has a lower one.
    pub plan-least : (x : List ℕ) → MeetingPlan T x → tree_least ≤ plan_rounded T k x
    plan-least x M =
        let (len, u) = plans-mem T.layers T.stages x M.plan in
        let b = rw len at (least_charge_le T (charge T k hi) 0 (λ j. T.arrival) x u) in
        omega (arith, least_of_all T (charge T k hi) W (λ j. T.arrival), charge-meets x M)

    -- Where some plan meets timing:
    module _ (x : List ℕ) (M : MeetingPlan T x) where
      -- The least charge is V(k), as far as hi + 1, ..
      pub least-capped : min tree_least (suc hi) ≡ min (value T k) (suc hi)
      least-capped = go (dec_le tree_least hi) (value-at T k x M)
        where
          go : Dec (tree_least ≤ hi) → (z : List ℕ) × MeetingPlan T z × (plan_rounded T k z ≡ value T k) → min tree_least (suc hi) ≡ min (value T k) (suc hi)
          go (yes h) (z, N, e) = let (y, L, f) = least-plan h in omega (arith, plan-least z N, value_le T k y L)
          go (no h) (z, N, e) = omega (arith, plan-least z N)

      -- .. so it is V(k) if V(k) fits the columns.
      pub least-value : value T k ≤ hi → tree_least ≡ value T k
      least-value h = omega (arith, least-capped)

      -- The plans that 01 chooses among are those that are charged no more than V(k).
      same_test : value T k ≤ hi → (y : List ℕ) → Memᴰ y (tree_plans T) → is_best T k y ≡ leb (tree_charge y) (value T k)
      same_test h y m = go (meets_timing T y) (leb (tree_charge y) (value T k)) refl refl
        where
          meeting : meets_timing T y ≡ true → MeetingPlan T y
          meeting e = record { plan = m; meets = e }

          left : (a : Bool) → meets_timing T y ≡ a → is_best T k y ≡ a && eqb (plan_rounded T k y) (value T k)
          left a e = ap (λ b. b && eqb (plan_rounded T k y) (value T k)) e

          go : (a b : Bool) → meets_timing T y ≡ a → leb (tree_charge y) (value T k) ≡ b → is_best T k y ≡ b
          go true true e f =
              let c = leb-true (tree_charge y) (value T k) f in
              left true e ∙ eq-eqb (plan_rounded T k y) (value T k) (omega (arith, charge-meets y (meeting e), value_le T k y (meeting e)))
          go true false e f =
              let c = leb-false (tree_charge y) (value T k) f in
              left true e ∙ ne_eqb (plan_rounded T k y) (value T k) (λ q. omega (arith, charge-meets y (meeting e)))
          go false true e f = let d = meets-charge y m (omega (arith, leb-true (tree_charge y) (value T k) f)) in cc
          go false false e f = left false e

      -- The plan read off the table is the plan that 01 chooses: the first in plan order that meets timing with rounded cost V(k).
      pub read-chosen : value T k ≤ hi → first_plan T k ≡ some read_plan
      read-chosen h =
          let e : least_charge T (charge T k hi) T.stages 0 (λ j. T.arrival) ≡ value T k = least_of_all T (charge T k hi) W (λ j. T.arrival) ∙ least-value h in
          find-keep (is_best T k) (tree_plans T)
          ∙ find_cong (is_best T k) (λ y. leb (tree_charge y) (value T k)) (tree_plans T) (same_test h)
          ∙ ap (λ v. find (λ y. leb (tree_charge y) v) (tree_plans T)) (sym e)
          ∙ read_first T (charge T k hi) W T.stages 0 (λ j. T.arrival) (omega arith)

module _ (T : StageTree) (p q : ℕ) where
  -- The floor: the grain times V(k), at the k of the grain.
  abbrev pub floor_of : ℕ
  floor_of = 2 ^ exponent T p q * value T (exponent T p q)

  -- Demand 3: the floor is at most the cost of every plan that meets timing, and q times the cost of the chosen plan is at most (q + p) times the floor.
  pub floor-bounds : (x : List ℕ) → first_plan T (exponent T p q) ≡ some x
      → ((y : List ℕ) → MeetingPlan T y → floor_of ≤ sum (plan_costs T y)) × (q * sum (plan_costs T x) ≤ (q + p) * floor_of)
  floor-bounds x e = (floor-below T (exponent T p q), near-floor T p q x (first-meets T (exponent T p q) x e).1)
