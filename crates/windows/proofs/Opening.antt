-- The windows, stage after stage.
use mathlib.Core.Path.{◌≡◌, ap, sym, ◌∙◌}
use mathlib.Core.Bool.{true}
use mathlib.Core.Logic.{◌⊎◌, inl, inr}
use mathlib.Core.List.{List}
use Prim.Native.Nat.{ℕ, suc, ◌+◌, ◌-◌, ◌≤◌, ◌<◌, min, max}
use native.Mathlib.Omega.{arith}
use lib.IntN.{ℤ, pos, ◌+ℤ◌}
use lib.ListN.{length, get_or, set, length-set}
use Rattle.std.proofs.Math.Decide.{dec_lt}
use lib.Seq.{get_or-set_same, get_or-set_other}
use lib.Signed.{le_z}
use mir.Facts.{to_z-of_z}
use mir.Syntax.{w64}
use mir.Val.{SFits, to_z, of_z}
use Rattle.laws.specs.Booleans.{same_or}
use Rattle.laws.specs.Integers.{true_le, plus_view, plus-up, plus-down}
use Rattle.oracle.specs.Stages.{StageTree, arrive}
use Rattle.slices.specs.Laid.{max_delay, on_layer, time_at}
use Rattle.readoff.specs.Clauses.{Near}
use Rattle.readoff.specs.NearTimes.{Bounded}
use Rattle.windows.specs.Clauses.{DelayRange, WindowsIn, Steps, Opened}

-- The least and the greatest delay to stage j, one layer after the other.
module _ {delay : List ℕ} {layers j : ℕ} where
  module _ {l least most : ℕ} (R : DelayRange delay layers j l least most) where
    -- The delay on the next layer becomes the least, or the least stays; and so for the greatest.
    pub delays-more : {a b : ℕ} → l < layers → a ≡ min least (on_layer delay j l) → b ≡ max most (on_layer delay j l) → DelayRange delay layers j (l + 1) a b
    delays-more {a} {b} h s t = record {
      inside = omega arith;
      least-all = λ m k. low m k (same_or l m);
      most-all = λ m k. high m k (same_or l m);
      least-is = lesser (dec_lt (on_layer delay j l) least);
      most-is = greater (dec_lt most (on_layer delay j l));
    }
      where
        low : (m : ℕ) → m < l + 1 → (m ≡ l) ⊎ (m ≡ l → ⊥) → a ≤ on_layer delay j m
        low m k (inl q) = rw q (omega arith)
        low m k (inr n) = omega (arith, R.least-all m (omega arith))

        high : (m : ℕ) → m < l + 1 → (m ≡ l) ⊎ (m ≡ l → ⊥) → on_layer delay j m ≤ b
        high m k (inl q) = rw q (omega arith)
        high m k (inr n) = omega (arith, R.most-all m (omega arith))

        lesser : Dec (on_layer delay j l < least) → (m : ℕ) × (m < layers) × (a ≡ on_layer delay j m)
        lesser (yes k) = (l, h, omega arith)
        lesser (no k) = let (m, i, p) = R.least-is in (m, i, omega arith)

        greater : Dec (most < on_layer delay j l) → (m : ℕ) × (m < layers) × (b ≡ on_layer delay j m)
        greater (yes k) = (l, h, omega arith)
        greater (no k) = let (m, i, p) = R.most-is in (m, i, omega arith)

-- The stages before j have their windows, and there is room for all.
pub record Opening (driver delay : List ℕ) (stages layers : ℕ) (arrival : ℤ) (early late : List ℤ) (j : ℕ) : Type 0 where
  pub tree : StageTree
  pub numbers : WindowsIn tree driver delay stages layers arrival
  pub some : 0 < j
  pub inside : j ≤ stages
  pub early-long : stages ≤ length early
  pub late-long : stages ≤ length late
  pub bounded : (T : StageTree) (N : WindowsIn T driver delay stages layers arrival) → (m : ℕ) → m < j
      → Bounded (N.laid.delays-to m) (time_at early m) × Bounded (N.laid.delays-to m) (time_at late m)
  pub is : (T : StageTree) → WindowsIn T driver delay stages layers arrival → Steps T early late j

-- Stage j, the next to have its window: the delays to it can be added to the window of the stage that drives it.
pub record Next (driver delay : List ℕ) (layers : ℕ) (early late : List ℤ) (j : ℕ) : Type 0 where
  pub delays-fit : {least most : ℕ} → DelayRange delay layers j layers least most → (least ≤ max_delay) × (most ≤ max_delay)
  pub early-long : j < length early
  pub late-long : j < length late
  pub near-early : Near (time_at early (get_or driver j 0))
  pub near-late : Near (time_at late (get_or driver j 0))

module _ {driver delay : List ℕ} {stages layers : ℕ} {arrival : ℤ} {early late : List ℤ} {j : ℕ}
    (O : Opening driver delay stages layers arrival early late j) (h : j < stages) where
  -- The stage that drives stage j is before it.
  driver-low : (T : StageTree) → WindowsIn T driver delay stages layers arrival → (n : ℕ) → j ≡ suc n → get_or driver j 0 < j
  driver-low T N n e = omega (arith, N.laid.driver-at j O.some (omega (arith, N.stages-are)), ap T.driver e, N.lower n)

  pub driver_before : get_or driver j 0 < j
  driver_before = driver-low O.tree O.numbers (j - 1) (omega (arith, O.some))

  delay-small : (T : StageTree) → (N : WindowsIn T driver delay stages layers arrival) → (r : ℕ) → (m : ℕ) × (m < layers) × (r ≡ on_layer delay j m)
      → N.laid.delays-to (get_or driver j 0) + r ≤ N.laid.delays-to j
  delay-small T N r (m, k, e) =
      let low : j < T.stages = omega (arith, N.stages-are) in
      let small : m < T.layers = omega (arith, N.layers-are) in
      let same = ap N.laid.delays-to (N.laid.driver-at j O.some low) in
      omega (arith, same, N.laid.delay-at j m O.some low small, N.laid.delay-most j m O.some low small)

  pub next-stage : Next driver delay layers early late j
  next-stage =
      let T = O.tree in
      let N = O.numbers in
      let i = get_or driver j 0 in
      let low : i < T.stages = omega (arith, driver_before, N.stages-are) in
      let ((u, d), (v, e)) = O.bounded T N i driver_before in
      record {
        delays-fit = λ {least} {most} R.
            let most-to = N.laid.delays-most j (omega (arith, N.stages-are)) in
            (omega (arith, delay-small T N least R.least-is), omega (arith, delay-small T N most R.most-is));
        early-long = omega (arith, O.early-long);
        late-long = omega (arith, O.late-long);
        near-early = (omega (arith, N.laid.delays-most i low), omega arith);
        near-late = (omega (arith, N.laid.delays-most i low), omega arith);
      }

  module _ {x y : ℤ} {a b : ℕ} (R : DelayRange delay layers j layers a b)
      (ex : x ≡ time_at early (get_or driver j 0) +ℤ pos a) (ey : y ≡ time_at late (get_or driver j 0) +ℤ pos b) (le : j < length early) (ll : j < length late) where
    early-here : time_at (set early j x) j ≡ x
    early-here = get_or-set_same early j x (pos 0) le

    late-here : time_at (set late j y) j ≡ y
    late-here = get_or-set_same late j y (pos 0) ll

    early-other : (m : ℕ) → (m ≡ j → ⊥) → time_at (set early j x) m ≡ time_at early m
    early-other m n = get_or-set_other early j m x (pos 0) n

    late-other : (m : ℕ) → (m ≡ j → ⊥) → time_at (set late j y) m ≡ time_at late m
    late-other m n = get_or-set_other late j m y (pos 0) n

    bounds : (T : StageTree) (N : WindowsIn T driver delay stages layers arrival) (m : ℕ) → m < j + 1 → (m ≡ j) ⊎ (m ≡ j → ⊥)
        → Bounded (N.laid.delays-to m) (time_at (set early j x) m) × Bounded (N.laid.delays-to m) (time_at (set late j y) m)
    bounds T N m k (inl e) =
        let i = get_or driver j 0 in
        let ((u, d), (v, c)) = O.bounded T N i driver_before in
        let p = delay-small T N a R.least-is in
        let q = delay-small T N b R.most-is in
        rw (e, early-here, late-here, ex, ey) (
          (omega (arith, plus-up (time_at early i) a), omega (arith, plus-down (time_at early i) a)),
          (omega (arith, plus-up (time_at late i) b), omega (arith, plus-down (time_at late i) b)),
        )
    bounds T N m k (inr n) = rw (early-other m n, late-other m n) (O.bounded T N m (omega arith))

    module _ (T : StageTree) (N : WindowsIn T driver delay stages layers arrival) where
      driven-at : T.driver j ≡ get_or driver j 0
      driven-at = sym (N.laid.driver-at j O.some (omega (arith, N.stages-are)))

      -- The driver of a stage up to j is before j.
      before_j : (m n : ℕ) → m ≡ suc n → m < j + 1 → T.driver m ≡ j → ⊥
      before_j m n e k q = omega (arith, ap T.driver e, N.lower n)

      earlier_more : (m l : ℕ) → 0 < m → m < j + 1 → l < T.layers → (m ≡ j) ⊎ (m ≡ j → ⊥)
          → le_z (time_at (set early j x) m) (arrive T m l (time_at (set early j x) (T.driver m))) ≡ true
      earlier_more m l p k s (inl e) =
          let i = get_or driver j 0 in
          let d = N.laid.delay-at j l O.some (omega (arith, N.stages-are)) s in
          let o = early-other (T.driver j) (before_j j (j - 1) (omega (arith, O.some)) (omega arith)) in
          let least = R.least-all l (omega (arith, N.layers-are)) in
          rw (e, early-here, o, driven-at, ex) (true_le (time_at early i +ℤ pos a) (time_at early i +ℤ pos (T.delay j l))
          (omega (arith, plus_view (time_at early i) a, plus_view (time_at early i) (T.delay j l))))
      earlier_more m l p k s (inr n) =
          rw (early-other m n, early-other (T.driver m) (before_j m (m - 1) (omega arith) k)) ((O.is T N).earlier m l p (omega arith) s)

      later_more : (m l : ℕ) → 0 < m → m < j + 1 → l < T.layers → (m ≡ j) ⊎ (m ≡ j → ⊥)
          → le_z (arrive T m l (time_at (set late j y) (T.driver m))) (time_at (set late j y) m) ≡ true
      later_more m l p k s (inl e) =
          let i = get_or driver j 0 in
          let d = N.laid.delay-at j l O.some (omega (arith, N.stages-are)) s in
          let o = late-other (T.driver j) (before_j j (j - 1) (omega (arith, O.some)) (omega arith)) in
          let most = R.most-all l (omega (arith, N.layers-are)) in
          rw (e, late-here, o, driven-at, ey) (true_le (time_at late i +ℤ pos (T.delay j l)) (time_at late i +ℤ pos b)
          (omega (arith, plus_view (time_at late i) b, plus_view (time_at late i) (T.delay j l))))
      later_more m l p k s (inr n) =
          rw (late-other m n, late-other (T.driver m) (before_j m (m - 1) (omega arith) k)) ((O.is T N).later m l p (omega arith) s)

      none : 0 ≡ j → ⊥
      none e = omega (arith, O.some)

    pub opening-more : Opening driver delay stages layers arrival (set early j x) (set late j y) (j + 1)
    opening-more = record {
      tree = O.tree;
      numbers = O.numbers;
      some = omega arith;
      inside = omega arith;
      early-long = simp length-set O.early-long;
      late-long = simp length-set O.late-long;
      bounded = λ T N m k. bounds T N m k (same_or j m);
      is = λ T N. record {
        first = (early-other 0 (none T N) ∙ (O.is T N).first.0, late-other 0 (none T N) ∙ (O.is T N).first.1);
        earlier = λ m l p k s. earlier_more T N m l p k s (same_or j m);
        later = λ m l p k s. later_more T N m l p k s (same_or j m);
      };
    }

pub opening_end : {driver delay : List ℕ} {stages layers : ℕ} {arrival : ℤ} {early late : List ℤ} {j : ℕ}
    → Opening driver delay stages layers arrival early late j → stages ≤ j → (T : StageTree) → WindowsIn T driver delay stages layers arrival
    → Opened T early late
opening_end {j = j} O h T N =
    let e : j ≡ T.stages = omega (arith, O.inside, N.stages-are) in
    record {
      steps = rw e at (O.is T N);
      early-most = λ m k. let (u, d) = (O.bounded T N m (omega arith)).0 in (omega (arith, N.laid.delays-most m k), d);
      late-most = λ m k. let (u, d) = (O.bounded T N m (omega arith)).1 in (omega (arith, N.laid.delays-most m k), d);
    }

pub sum_is : {r r' : ℤ} (z : ℤ) (d : ℕ) → r' ≡ r → r ≡ to_z w64 (of_z w64 z) +ℤ pos d → SFits w64 z → r' ≡ z +ℤ pos d
sum_is z d p q s = p ∙ q ∙ ap (λ w. w +ℤ pos d) (to_z-of_z {w = w64} {z = z} s)
