-- Required times of a plan, and that it meets timing just where no sink is late once the arrival time is pushed forward through the tree
-- (01, Timing rule; source 001, section 2). So meeting timing and cost are both sums over the stages, which the programme can search.
use Rattle.std.specs.Prelude.{◌≡◌, refl, Bool, true, false, ◌&&◌, ◌↔◌, length, drop, ◌-ℤ◌, if◌then◌else◌}
use Rattle.std.proofs.Math.Path.{ap, sym}
use Rattle.std.proofs.Common.{◌∙◌, inl, inr, drop_of_length-le, drop-cons}
use mathlib.Core.List.{List, [], ◌∷◌, ◌++◌, map, map-append}
use Prim.Native.Nat.{ℕ, zero, suc, ◌+◌, ◌*◌, ◌-◌, ◌/◌, ◌^◌, ◌≤◌, ◌<◌}
use native.Mathlib.Omega.{arith}
use Rattle.std.proofs.Math.IntN.{ℤ, pos}
use Rattle.std.specs.Int.Signed.{le_z}
use Rattle.laws.specs.Basic.{from, sum, keep, least_of}
use Rattle.laws.specs.Integers.{all_le, le_least_z, adjoint}
use Rattle.laws.specs.Lists.{map-map, map_same, some-map, some_left, some_right, Some}
use Rattle.laws.specs.Sums.{sum_append}
use Rattle.rules.specs.Tree.{on}
use Rattle.rules.specs.Grain.{rounded}
use Rattle.oracle.specs.Stages.{StageTree, WellFormed, HasTerminal, drives_stage, driven_by, arrive, reach, driven-mem}
use Rattle.oracle.specs.Plans.{EachBelow, each_at}
use Rattle.oracle.specs.Programme.{reached-self, driven_sum, pending_sum, pending_reach, pending_first, plan_charge, least}

-- 1 if t is past r, else 0.
abbrev pub late : ℤ → ℤ → ℕ
late r t = if le_z t r then 0 else 1

-- How many of the times rs are past at t.
abbrev pub late_count : List ℤ → ℤ → ℕ
late_count rs t = sum (map (λ r. late r t) rs)

late_count_append : (rs qs : List ℤ) (t : ℤ) → late_count (rs ++ qs) t ≡ late_count rs t + late_count qs t
late_count_append rs qs t = ap sum (map-append (λ r. late r t) rs qs) ∙ sum_append (map (λ r. late r t) rs) (map (λ r. late r t) qs)

late-zero : (r t : ℤ) → (late r t ≡ 0) ↔ (le_z t r ≡ true)
late-zero r t = go (le_z t r) refl
  where
    go : (b : Bool) → le_z t r ≡ b → (late r t ≡ 0) ↔ (le_z t r ≡ true)
    go true e = rw e ((λ f. refl), (λ f. refl))
    go false e = rw e ((λ f. cc), (λ f. cc))

-- None is late just where t is no later than each.
pub none-late : (rs : List ℤ) (t : ℤ) → (late_count rs t ≡ 0) ↔ (all_le t rs ≡ true)
none-late [] t = ((λ e. refl), (λ e. refl))
none-late (r ∷ rs) t = go (le_z t r) refl (none-late rs t)
  where
    go : (b : Bool) → le_z t r ≡ b → (late_count rs t ≡ 0) ↔ (all_le t rs ≡ true) → (late_count (r ∷ rs) t ≡ 0) ↔ (le_z t r && all_le t rs ≡ true)
    go true e ih = rw e ((λ f. ih.0 (omega arith)), (λ f. omega (arith, ih.1 f)))
    go false e ih = rw e ((λ f. let z : ◌≡◌ {A = ℕ} 0 1 = omega arith in cc), (λ f. let z : ◌≡◌ {A = ℕ} 0 1 = cc in omega arith))

late-least : (rs : List ℤ) (t : ℤ) → Some rs → (late (least_of rs) t ≡ 0) ↔ (late_count rs t ≡ 0)
late-least [] t s = absurd s
late-least (r ∷ rs) t s =
    let z = late-zero (least_of (r ∷ rs)) t in
    let n = none-late (r ∷ rs) t in
    ((λ e. n.1 (sym (le_least_z t r rs) ∙ z.0 e)), (λ e. z.1 (le_least_z t r rs ∙ n.0 e)))

module _ (T : StageTree) where
  -- The required time at the gate input of stage i under plan x: the least of the limits of its own sinks and of what the stages that it drives
  -- require, less the delay to them. n bounds the stages on the way; s - i is enough, for a stage drives stages of higher number.
  unfoldable pub required_time_from : ℕ → List ℕ → ℕ → ℤ
  required_time_from zero x i = pos 0
  required_time_from (suc n) x i = least_of (T.limits i (on x i) ++ map (λ j. required_time_from n x j -ℤ pos (T.delay j (on x i))) (driven_by T i))

  -- The required time at stage i under plan x: s stages are on the way at most.
  unfoldable pub required_time : List ℕ → ℕ → ℤ
  required_time x i = required_time_from T.stages x i

  -- A plan meets timing if the driver's required time is no earlier than its arrival time.
  abbrev pub meets_timing : List ℕ → Bool
  meets_timing x = le_z T.arrival (required_time x 0)

  enough : (n m : ℕ) (x : List ℕ) (i : ℕ) → i < T.stages → T.stages ≤ n + i → T.stages ≤ m + i → required_time_from n x i ≡ required_time_from m x i
  unfolding required_time_from
  enough zero m x i h a b = absurd (omega arith)
  enough (suc n) zero x i h a b = absurd (omega arith)
  enough (suc n) (suc m) x i h a b = ap (λ rs. least_of (T.limits i (on x i) ++ rs))
      (map_same (λ j. required_time_from n x j -ℤ pos (T.delay j (on x i))) (λ j. required_time_from m x j -ℤ pos (T.delay j (on x i))) (driven_by T i)
      (λ j d. let (u, v, e) = driven-mem T i j h d in ap (λ r. r -ℤ pos (T.delay j (on x i))) (enough n m x j v (omega arith) (omega arith))))

  -- The rule with no bound on the stages.
  pub required_time-is : (x : List ℕ) (i : ℕ) → i < T.stages
      → required_time x i ≡ least_of (T.limits i (on x i) ++ map (λ j. required_time x j -ℤ pos (T.delay j (on x i))) (driven_by T i))
  unfolding required_time required_time_from
  required_time-is x i h = enough T.stages (suc T.stages) x i h (omega arith) (omega arith)

  -- How many of its own sinks are late, if stage i is on layer l and is reached at t.
  abbrev pub late_sinks : ℕ → ℕ → ℤ → ℕ
  late_sinks i l t = late_count (T.limits i l) t

  -- What the search charges stage i: its rounded cost, and hi + 1 for each of its sinks that is late, which is more than any budget up to hi (so that no
  -- infinite number is needed).
  abbrev pub charge : ℕ → ℕ → ℕ → ℕ → ℤ → ℕ
  charge k hi i l t = T.cost i l / 2 ^ k + suc hi * late_sinks i l t

  -- The least rounded cost with which the part of the tree at and below stage i keeps all required times if stage i is reached at t; more than hi if that
  -- takes more than hi or cannot be. `least-is` has its recursion.
  abbrev pub least_at : ℕ → ℕ → ℕ → ℤ → ℕ
  least_at k hi i t = least T (charge k hi) i t

  -- The two parts of what a plan is charged, for the stages from i on: rounded cost, and late sinks.
  pub charge-split : (k hi : ℕ) (x : List ℕ) (n i : ℕ) (times : ℕ → ℤ) → i + n ≡ length x
      → plan_charge T (charge k hi) i times (drop i x)
      ≡ rounded (2 ^ k) (map (λ i. T.cost i (on x i)) (from i n)) + suc hi * plan_charge T late_sinks i times (drop i x)
  charge-split k hi x zero i times e = rw (drop_of_length-le x {i = i} (omega arith)) (omega arith)
  charge-split k hi x (suc n) i times e = rw (drop-cons x i 0 (omega arith)) (omega (arith, charge-split k hi x n (suc i) (reach T i (on x i) times) (omega arith)))

  module _ (W : WellFormed T) (x : List ℕ) (len : length x ≡ T.stages) (each : EachBelow T.layers x) where
    some_terminal : (i : ℕ) → i < T.stages → (g : ℕ → ℤ) → Some (T.limits i (on x i) ++ map g (driven_by T i))
    some_terminal i h g = go (W.ends i (on x i) h (each_at T.layers x i each (omega arith)))
      where
        go : HasTerminal T i (on x i) → Some (T.limits i (on x i) ++ map g (driven_by T i))
        go (inl s) = some_left (T.limits i (on x i)) (map g (driven_by T i)) s
        go (inr s) = some_right (T.limits i (on x i)) (map g (driven_by T i)) (some-map g (driven_by T i) s)

    -- 1 if stage j is reached after its required time, else 0.
    missed : ℕ → ℤ → ℕ
    missed j t = late (required_time x j) t

    driven-missed : (i l : ℕ) (t : ℤ) (js : List ℕ)
        → driven_sum T missed i l t js ≡ late_count (map (λ j. required_time x j -ℤ pos (T.delay j l)) (keep (drives_stage T i) js)) t
    unfolding missed
    driven-missed i l t js = ap sum (
        map_same (λ j. late (required_time x j) (arrive T j l t)) (λ j. late (required_time x j -ℤ pos (T.delay j l)) t) (keep (drives_stage T i) js)
        (λ j m. ap {B = ℕ} (λ b. if b then 0 else 1) (adjoint t (required_time x j) (T.delay j l)))
        ∙ sym (map-map (λ r. late r t) (λ j. required_time x j -ℤ pos (T.delay j l)) (keep (drives_stage T i) js))
        )

    -- A stage is late just where one of its terminals is.
    missed-is : (i : ℕ) (t : ℤ) (n : ℕ) → i + suc n ≡ T.stages
        → (missed i t ≡ 0) ↔ (late_sinks i (on x i) t + driven_sum T missed i (on x i) t (from (suc i) n) ≡ 0)
    unfolding missed
    missed-is i t n e =
        let g : ℕ → ℤ = λ j. required_time x j -ℤ pos (T.delay j (on x i)) in
        let rs = T.limits i (on x i) ++ map g (driven_by T i) in
        let h : i < T.stages = omega arith in
        let same : T.stages - suc i ≡ n = omega arith in
        let d = rw (← same) at (driven-missed i (on x i) t (from (suc i) n)) in
        let z = late-least rs t (some_terminal i h g) in
        let r = ap (λ q. late q t) (required_time-is x i h) in
        let a = late_count_append (T.limits i (on x i)) (map g (driven_by T i)) t in
        rw (← same) ((λ e. let u = z.0 (sym r ∙ e) in omega arith), (λ e. r ∙ z.1 (omega arith)))

    on_time_from : (n i : ℕ) (times : ℕ → ℤ) → i + n ≡ T.stages
        → (plan_charge T late_sinks i times (drop i x) ≡ 0) ↔ (pending_sum T missed i times (from i n) ≡ 0)
    on_time_from zero i times e = rw (drop_of_length-le x {i = i} (omega arith)) ((λ e. refl), (λ e. refl))
    on_time_from (suc n) i times e =
        let ih = on_time_from n (suc i) (reach T i (on x i) times) (omega arith) in
        let k = missed-is i (times i) n e in
        let p = pending_reach T missed i (on x i) times i n in
        rw (drop-cons x i 0 (omega arith), reached-self T W i)
        ((λ e. let u = ih.0 (omega arith) in omega (arith, k.1 (omega arith))), (λ e. let u = k.0 (omega arith) in omega (arith, ih.1 (omega arith))))

    -- Pushed forward from the driver's arrival time, no sink is late just where the plan meets timing.
    pub on_time : (plan_charge T late_sinks 0 (λ j. T.arrival) x ≡ 0) ↔ (meets_timing x ≡ true)
    unfolding missed
    on_time =
        let m = on_time_from T.stages 0 (λ j. T.arrival) (omega arith) in
        let z = late-zero (required_time x 0) T.arrival in
        let h = pending_first T missed (λ j. T.arrival) T.stages W.some-stage in
        ((λ e. z.0 (sym h ∙ m.0 e)), (λ e. m.1 (h ∙ z.1 e)))
