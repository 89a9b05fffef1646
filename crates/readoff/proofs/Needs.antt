-- What a stage needs on a layer: its rounded cost and the sum over the stages that it drives, each up to one more than the budgets, which changes no
-- comparison with a budget (`capped-sum`).
use mathlib.Core.Path.{◌≡◌, refl, ap, sym, ◌∙◌}
use mathlib.Core.Bool.{Bool, true, false}
use mathlib.Core.List.{List, [], ◌∷◌, map}
use Prim.Native.Nat.{ℕ, zero, suc, ◌+◌, ◌*◌, ◌-◌, ◌/◌, ◌^◌, ◌≤◌, ◌<◌, min}
use native.Mathlib.Omega.{arith}
use native.Mathlib.Decide.{dec_le}
use native.Mathlib.Nat.{div-le_self, mul-le-mul_left, mul-le-mul_right}
use lib.Dec.{leb}
use lib.IntN.{ℤ}
use lib.ListN.{get_or}
use lib.Signed.{le_z, lt_z}
use borrow.Author.Tests.{eq-eqb, ne_eqb, lt-leb}
use Rattle.laws.specs.Basic.{sum}
use Rattle.laws.specs.Integers.{le_least_z, le_false, pos_view, lt_true, lt_false}
use Rattle.laws.specs.Sums.{capped-sum}
use Rattle.laws.specs.Passing.{passing, passing-more, passing-skip}
use Rattle.rules.specs.Grain.{max_exponent}
use Rattle.fanout.specs.Clauses.{NextOwned, Linked}
use Rattle.oracle.specs.Stages.{StageTree, drives_stage, driven_by, arrive}
use Rattle.oracle.specs.Programme.{least_on}
use Rattle.oracle.specs.Timing.{late_count, none-late, charge, least_at}
use Rattle.slices.specs.Laid.{limit_of, limit_on, max_entry, no_limit, on_layer, LaidDelays, delay_in_range, cost_in_range}
use Rattle.readoff.specs.Clauses.{Near, DrivenIn, DrivenNeed, Sized, Finished, Need}

-- Each stage has its row.
pub row_inside : (stages width j : ℕ) {n : ℕ} → stages * width ≤ n → j < stages → j * width + width ≤ n
row_inside stages width j long h = omega (arith, mul-le-mul_right width h)

-- The slices have what `driven_need` asks for a stage after the first.
pub driven_in : {table : List ℤ} {driver first next delay : List ℕ} {limit : List ℤ} {cost starts ends : List ℕ} {stages width g l : ℕ} {t : ℤ} (T : StageTree)
    → Sized T table driver first next delay limit cost starts ends stages width g → l < T.layers → {j : ℕ} → 0 < j → j < stages → Near t
    → DrivenIn table delay starts ends width l t j
driven_in {stages = stages} {width = width} {l = l} T S h {j} above inside near =
    let L = S.laid.delays in
    let low : j < T.stages = omega (arith, S.stages-are) in
    record {
      some-column = S.some-column;
      row_inside = row_inside stages width j S.rows_long inside;
      starts_inside = omega (arith, S.starts_long);
      ends-inside = omega (arith, S.ends-long);
      order = S.order j inside;
      end_most = S.end_most j inside;
      delay-inside = omega (arith, L.delay-long, L.few-layers);
      delay-most = omega (arith, delay_in_range L j l above low h);
      near = near;
    }

-- The least of the limits says whether a sink is late.
none-past : (rs : List ℤ) (t : ℤ) → le_z t (limit_of rs) ≡ true → late_count rs t ≡ 0
none-past [] t e = refl
none-past (r ∷ rs) t e = (none-late (r ∷ rs) t).1 (sym (le_least_z t r rs) ∙ e)

some-past : (rs : List ℤ) (t : ℤ) → Near t → le_z t (limit_of rs) ≡ false → 0 < late_count rs t
some-past [] t near e = absurd (omega (arith, le_false t no_limit e, pos_view max_entry))
some-past (r ∷ rs) t near e = positive (late_count (r ∷ rs) t) (λ z.
    let y : ◌≡◌ {A = ℕ} 0 1 = cc ((none-late (r ∷ rs) t).0 z, le_least_z t r rs) in
    omega arith)
  where
    positive : (n : ℕ) → (n ≡ 0 → ⊥) → 0 < n
    positive zero h = absurd (h refl)
    positive (suc n) h = omega arith

-- What stage j adds to the need of the stage that drives it, on layer l and reached at t, up to one more than the budgets.
abbrev part : StageTree → ℕ → ℕ → ℕ → ℤ → ℕ → ℕ
part T k hi l t j = min (least_at T k hi j (arrive T j l t)) (suc hi)

-- No stage is passed over that stage i drives, so the sum over those before the next is the sum so far.
none_between : {driver delay : List ℕ} {stages i j r : ℕ} (T : StageTree) → LaidDelays T driver delay → stages ≡ T.stages
    → (f : ℕ → ℕ) → i < j → NextOwned driver stages i j r → passing (drives_stage T i) f (suc i) r ≡ passing (drives_stage T i) f (suc i) j
none_between {i = i} {j = j} {r = r} T L e f above N =
    let whole : j + (r - j) ≡ r = omega (arith, N.low) in
    ap (passing (drives_stage T i) f (suc i)) (sym whole)
    ∙ passing-skip (drives_stage T i) f (suc i) j (r - j) above
    (λ m u v. ne_eqb (T.driver m) i (λ q. N.passed m u (omega arith) (L.driver-at m (omega arith) (omega (arith, N.most)) ∙ q)))

-- The need so far: the driven stages before j are added, and j is the next.
pub record NeedSoFar (table : List ℤ) (driver first next delay : List ℕ) (limit : List ℤ) (cost starts ends : List ℕ) (stages width g i l : ℕ) (t : ℤ)
    (need j : ℕ) : Type 0 where
  pub started : i < j
  pub inside : j ≤ stages
  pub driven : j < stages → get_or driver j 0 ≡ i
  pub most : need ≤ 2 ^ max_exponent + j * width
  pub least : (T : StageTree) (k : ℕ) (asked : ℕ → ℤ → Bool) → Finished T k asked table driver first next delay limit cost starts ends stages width g
      → l < T.layers → T.cost i l / 2 ^ k ≤ need
  pub is : (T : StageTree) (k : ℕ) (asked : ℕ → ℤ → Bool) → Finished T k asked table driver first next delay limit cost starts ends stages width g
      → l < T.layers → asked i t ≡ true
      → T.cost i l / 2 ^ k < width → need ≡ T.cost i l / 2 ^ k + passing (drives_stage T i) (part T k (width - 1) l t) (suc i) j

module _ {table : List ℤ} {driver first next delay : List ℕ} {limit : List ℤ} {cost starts ends : List ℕ} {stages width g i l : ℕ} {t : ℤ} where
  -- At the start the need is the rounded cost.
  pub need_start : (T : StageTree) → Sized T table driver first next delay limit cost starts ends stages width g → l < T.layers → i < stages
      → NeedSoFar table driver first next delay limit cost starts ends stages width g i l t (on_layer cost i l / g) (get_or first i 0)
  need_start T S h inside =
      let low : i < T.stages = omega (arith, S.stages-are) in
      let N = S.linked.first-is i inside in
      record {
        started = N.low;
        inside = N.most;
        driven = N.owned;
        most = omega (arith, div-le_self (on_layer cost i l) g, cost_in_range S.laid.costs i l low h);
        least = λ T k asked F hl. rw (F.sized.laid.costs.cost-at i l (omega (arith, F.sized.stages-are)) hl, F.grain-is) (omega arith);
        is = λ T k asked F hl q paid.
            let none : suc i - suc i ≡ 0 = omega arith in
            let empty : passing (drives_stage T i) (part T k (width - 1) l t) (suc i) (suc i) ≡ 0 = rw none in
            let skipped = none_between T F.sized.laid.delays F.sized.stages-are (part T k (width - 1) l t) (omega arith) N in
            rw (F.sized.laid.costs.cost-at i l (omega (arith, F.sized.stages-are)) hl, F.grain-is) (omega (arith, skipped, empty));
      }

  -- One driven stage more.
  pub need_more : {need j r : ℕ} → NeedSoFar table driver first next delay limit cost starts ends stages width g i l t need j → 0 < width
      → Linked driver first next stages → j < stages → DrivenNeed table delay starts ends width l t j r
      → NeedSoFar table driver first next delay limit cost starts ends stages width g i l t (need + r) (get_or next j 0)
  need_more {need} {j} {r} here some links h D =
      let above : 0 < j = omega (arith, here.started) in
      let N : NextOwned driver stages i (suc j) (get_or next j 0) = rw (here.driven h) at (links.next-is j above h) in
      record {
        started = omega (arith, here.started, N.low);
        inside = N.most;
        driven = N.owned;
        most = omega (arith, here.most, D.most, mul-le-mul_right width N.low);
        least = λ T k asked F hl. omega (arith, here.least T k asked F hl);
        is = λ T k asked F hl q paid.
            let L = F.sized.laid.delays in
            let low : j < T.stages = omega (arith, F.sized.stages-are) in
            let last : suc (width - 1) ≡ width = omega arith in
            let f = part T k (width - 1) l t in
            let s : T.driver j ≡ i = sym (L.driver-at j above low) ∙ here.driven h in
            let one : r ≡ f j =
            rw (last, ← L.delay-at j l above low hl) (D.is (asked j) (least_at T k (width - 1) j) (F.filled.band j low)
            (rw (L.delay-at j l above low hl) (F.filled.passes j l above low hl (rw s (omega arith)) t (rw s q)))) in
            let skipped = none_between T L F.sized.stages-are f (omega (arith, here.started)) N in
            let added = passing-more (drives_stage T i) f (suc i) j here.started (eq-eqb (T.driver j) i s) in
            omega (arith, here.is T k asked F hl q paid, skipped, added, one);
      }

  -- At the end all that stage i drives is added, and none of its sinks is late.
  pub adding_end : {need j : ℕ} → NeedSoFar table driver first next delay limit cost starts ends stages width g i l t need j → 0 < width → i < stages
      → stages ≤ j → lt_z (limit_on limit i l) t ≡ false → Need table driver first next delay limit cost starts ends stages width g i l t need
  adding_end {need} {j} here some low h e = record { is = λ T k asked F hl q w small. go T k asked F hl q w small (dec_le width (T.cost i l / 2 ^ k)) }
    where
      go : (T : StageTree) (k : ℕ) (asked : ℕ → ℤ → Bool) → Finished T k asked table driver first next delay limit cost starts ends stages width g
          → l < T.layers → asked i t ≡ true
          → (w : ℕ) → w < width → Dec (width ≤ T.cost i l / 2 ^ k) → leb need w ≡ leb (least_on T (charge T k (width - 1)) i l t) w
      go T k asked F hl q w small (yes dear) =
          lt-leb need w (omega (arith, here.least T k asked F hl)) ∙ sym (lt-leb (least_on T (charge T k (width - 1)) i l t) w (omega arith))
      go T k asked F hl q w small (no paid) =
          let L = F.sized.laid in
          let all : j ≡ T.stages = omega (arith, here.inside, F.sized.stages-are) in
          let c = T.cost i l / 2 ^ k in
          let f : ℕ → ℕ = λ j. least_at T k (width - 1) j (arrive T j l t) in
          let late = none-past (T.limits i l) t (lt_false (limit_of (T.limits i l)) t (rw (L.limit_at i l (omega (arith, F.sized.stages-are)) hl) at e)) in
          let total : need ≡ c + sum (map (λ j. min (f j) (suc (width - 1))) (driven_by T i)) = rw all at (here.is T k asked F hl q (omega arith)) in
          ap (λ n. leb n w) total ∙ capped-sum (width - 1) c w f (driven_by T i) (omega arith) ∙ rw late (ap (λ n. leb n w) (omega arith))

  -- A stage with a late sink is above every budget.
  pub need_late : i < stages → Near t → lt_z (limit_on limit i l) t ≡ true → Need table driver first next delay limit cost starts ends stages width g i l t width
  need_late low near e = record {
    is = λ T k asked F hl q w small.
        let past = rw (F.sized.laid.limit_at i l (omega (arith, F.sized.stages-are)) hl) at e in
        let late = some-past (T.limits i l) t near (lt_true (limit_of (T.limits i l)) t past) in
        let much = mul-le-mul_left (suc (width - 1)) late in
        lt-leb width w small ∙ sym (lt-leb (least_on T (charge T k (width - 1)) i l t) w (omega arith));
  }
