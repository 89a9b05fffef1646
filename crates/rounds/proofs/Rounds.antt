-- One round of the search: what the rows at a grain say of V(k) and of whether some plan meets timing.
use mathlib.Core.Path.{◌≡◌, refl}
use mathlib.Core.Bool.{true, false}
use mathlib.Core.Option.{some}
use Rattle.std.specs.Prelude.{Option, Some, None, is_some}
use mathlib.Core.List.{List}
use Prim.Native.Nat.{ℕ, suc, ◌+◌, ◌-◌, ◌*◌, ◌^◌, ◌≤◌, ◌<◌, min}
use native.Mathlib.Omega.{arith}
use lib.ListN.{length, get_or, drop}
use lib.Seq.{take_at}
use lib.IntN.{ℤ}
use lib.Pow.{pow_pos}
use Rattle.rules.specs.Bytes.{max_stages}
use Rattle.rules.specs.Grain.{max_exponent}
use Rattle.oracle.specs.Stages.{StageTree, plan_costs}
use Rattle.oracle.specs.Rounding.{rounded-small}
use Rattle.oracle.specs.Plans.{plans-mem}
use Rattle.oracle.specs.Value.{value, first_plan, MeetingPlan, first-meets}
use Rattle.oracle.specs.Timing.{least_at}
use Rattle.oracle.specs.Result.{read_plan, least-plan, plan-least, least-capped, least-value, read-chosen}
use Rattle.oracle.specs.Windows.{arrival-asked, passes_on}
use Rattle.slices.specs.Laid.{time_at}
use Rattle.rows.specs.Clauses.{AllRows, asked_in}
use Rattle.fanout.specs.Clauses.{Linked}
use Rattle.readoff.specs.Clauses.{Column, Sized, BandsFilled, Finished, ReadIn, PlanRead}
use Rattle.rounding.specs.Clauses.{plan_in}
use Rattle.rounds.specs.Problem.{Numbers, windows-asked, represents}
use Rattle.rounds.specs.Clauses.{Prepared, RoundIn, BelowWidth, ValueAt, Feasible}

-- It is enough that the numbers agree as far as n.
pub below_same : (x y n : ℕ) (r : Option ℕ) → min x n ≡ min y n → BelowWidth x n r → BelowWidth y n r
below_same x y n None e b = omega arith
below_same x y n (Some v) e (p, q) = (omega arith, omega arith)

-- A value that there is.
pub value_found : {T : StageTree} {k width : ℕ} {table : List ℤ} {starts ends : List ℕ} (r : Option ℕ) → is_some r ≡ true
    → ValueAt T k width table starts ends r → (v : ℕ) × ValueAt T k width table starts ends (Some v)
value_found None e V = absurd (cc)
value_found (Some v) e V = (v, V)

module _ {driver delay : List ℕ} {limit : List ℤ} {cost : List ℕ} {stages layers : ℕ} {arrival : ℤ} where
  pub round_is : {first next : List ℕ} {early late : List ℤ} {before after : List ℤ} {starts₀ ends₀ starts ends : List ℕ} {g width m : ℕ} {a : ℤ} (r : Option ℕ)
      → RoundIn before driver delay limit cost starts₀ ends₀ stages layers arrival g width
      → Prepared driver first next delay early late stages layers arrival
      → AllRows before after driver delay limit cost early late starts₀ ends₀ starts ends stages layers g width → a ≡ arrival
      → Column after 0 (get_or starts 0 0) (get_or ends 0 0) width a m → BelowWidth m width r
      → (T : StageTree) (k : ℕ) → Numbers T driver delay limit cost stages layers arrival → g ≡ 2 ^ k → ValueAt T k width after starts ends r
  round_is {early = early} {late = late} {after = after} {starts = starts} {ends = ends} {width = width} r R P A same C b T k N e =
      let O = P.opened T (windows-asked N) in
      let S = represents N e O in
      let D = A.band T k S in
      let F : BandsFilled T k (asked_in early late) width after starts ends = record {
        band = λ i h. D i (omega arith) h;
        passes = passes_on T k (width - 1) (time_at early) (time_at late) S.windows;
      } in
      let z : 0 * width ≡ 0 = omega arith in
      let D0 = rw z at (D 0 (omega arith) N.tree.some-stage) in
      let q = arrival-asked T k (width - 1) (time_at early) (time_at late) S.windows in
      record {
        asked = asked_in early late;
        at-arrival = q;
        filled = F;
        starts_long = omega (arith, R.starts_long, A.starts_long, N.stages-are);
        ends-long = omega (arith, R.ends-long, A.ends-long, N.stages-are);
        order = λ j h. (A.range j (omega arith) (omega (arith, N.stages-are))).order;
        end_most = λ j h. (A.range j (omega arith) (omega (arith, N.stages-are))).most;
        is =
            let least = rw (same, N.arrival-is) at (C.is (asked_in early late 0) (least_at T k (width - 1) 0) D0 (rw (same, N.arrival-is) q)) in
            below_same _ _ _ r (omega (arith, least)) b;
      }

  -- V(k), if it is below `width`.
  pub round_value : {T : StageTree} {k width : ℕ} {table : List ℤ} {starts ends : List ℕ} (r : Option ℕ)
      → Numbers T driver delay limit cost stages layers arrival → 0 < width → ValueAt T k width table starts ends r → (x : List ℕ) → MeetingPlan T x
      → BelowWidth (value T k) width r
  round_value {T} {k} {width} r N h R x M =
      let e : suc (width - 1) ≡ width = omega arith in
      below_same _ _ _ r (rw e at (least-capped T k (width - 1) N.tree x M)) R.is

  -- A finished table whose columns V(k) fits: ..
  module _ {first next : List ℕ} {T : StageTree} {k width g v : ℕ} {table : List ℤ} {starts ends : List ℕ}
      (N : Numbers T driver delay limit cost stages layers arrival) (R : ValueAt T k width table starts ends (Some v))
      (L : Linked driver first next stages) (e : g ≡ 2 ^ k) (room : (stages + 2) * width ≤ length table) where
    sized : Sized T table driver first next delay limit cost starts ends stages width g
    sized = record {
      laid = N.laid;
      tree = N.tree;
      stages-are = N.stages-are;
      linked = L;
      some-column = omega (arith, R.is.1);
      rows_long = omega (arith, room);
      starts_long = omega (arith, R.starts_long, N.stages-are);
      ends-long = omega (arith, R.ends-long, N.stages-are);
      order = λ j h. R.order j (omega (arith, N.stages-are));
      end_most = λ j h. R.end_most j (omega (arith, N.stages-are));
      some-grain = rw e (pow_pos k);
    }

    -- .. a plan can be read off it, ..
    pub read_in : {times : List ℤ} {plan : List ℕ} → length times ≡ max_stages → stages ≤ length plan
        → ReadIn table driver first next delay limit cost starts ends stages layers width g arrival times plan
    read_in same h = record {
      tree = T;
      sized = sized;
      layers-are = N.layers-are;
      arrival-is = N.arrival-is;
      times_long = omega (arith, N.stages-are, N.laid.delays.few-stages);
      plan-long = h;
    }

    -- .. and that is the plan that 01 chooses at the grain.
    pub round_first : (x : List ℕ) → MeetingPlan T x → {before after : List ℕ}
        → PlanRead table driver first next delay limit cost starts ends stages layers width g arrival before after → first_plan T k ≡ some (plan_in stages after)
    round_first x M {before} {after} P =
        let h : value T k ≤ width - 1 = let (same, fits) = round_value (Some v) N (omega (arith, R.is.1)) R x M in omega arith in
        let F : Finished T k R.asked table driver first next delay limit cost starts ends stages width g =
        record { sized = sized; grain-is = e; filled = R.filled } in
        let small = least-value T k (width - 1) N.tree x M h in
        let is = P.is T k R.asked F N.layers-are N.arrival-is R.at-arrival (omega (arith, small)) in
        let chosen = read-chosen T k (width - 1) N.tree x M h in
        let (Q, f) = first-meets T k (read_plan T k (width - 1)) chosen in
        let (len, u) = plans-mem T.layers T.stages (read_plan T k (width - 1)) Q.plan in
        let t : plan_in stages after ≡ read_plan T k (width - 1) =
        rw is (take_at (read_plan T k (width - 1)) (drop stages before) stages (omega (arith, N.stages-are))) in
        rw t chosen

  -- At the largest grain every rounded cost is 0: the round in one column tells whether some plan meets timing.
  pub feasible_none : {T : StageTree} {table : List ℤ} {starts ends : List ℕ} {known : List ℕ} (r : Option ℕ) → is_some r ≡ false
      → Numbers T driver delay limit cost stages layers arrival → ValueAt T max_exponent 1 table starts ends r → Feasible T stages known false
  feasible_none (Some v) e N R = absurd (cc)
  feasible_none {T} None e N R = record { chosen = λ e. absurd (cc); none = λ e x M. missing x M }
    where
      missing : (x : List ℕ) → MeetingPlan T x → ⊥
      missing x M = absurd (omega (arith, R.is, plan-least T max_exponent 0 N.tree x M, rounded-small (2 ^ max_exponent) (plan_costs T x) (N.cheap x)))

  pub feasible_some : {first next : List ℕ} {T : StageTree} {r : ℕ} {table : List ℤ} {starts ends : List ℕ} {before after : List ℕ}
      → Numbers T driver delay limit cost stages layers arrival → ValueAt T max_exponent 1 table starts ends (Some r) → length table ≡ max_stages + 2
      → PlanRead table driver first next delay limit cost starts ends stages layers 1 (2 ^ max_exponent) arrival before after → Linked driver first next stages
      → Feasible T stages after true
  feasible_some {T = T} {r = r} {table = table} {before = before} {after = after} N R long P L = record {
    chosen = λ e. found;
    none = λ e. absurd (cc);
  }
    where
      found : first_plan T max_exponent ≡ some (plan_in stages after)
      found =
          let (x, M, f) = least-plan T max_exponent 0 N.tree (omega (arith, R.is.0, R.is.1)) in
          let room : (stages + 2) * 1 ≤ length table = omega (arith, N.stages-are, N.laid.delays.few-stages) in
          round_first N R L refl room x M P
