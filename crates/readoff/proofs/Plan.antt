-- Reading the plan, stage after stage: what is read so far, and then what the definition reads from the times now, is the whole plan; what is left to
-- pay stays within the columns, and no time leaves its bounds.
use Rattle.std.specs.Prelude.{if◌then◌else◌}
use mathlib.Core.Path.{◌≡◌, refl, ap, sym, ◌∙◌}
use mathlib.Core.Bool.{Bool, true, false}
use mathlib.Core.List.{List, [], ◌∷◌, ◌++◌, append_assoc}
use Prim.Native.Nat.{ℕ, zero, suc, ◌+◌, ◌-◌, ◌/◌, ◌^◌, ◌≤◌, ◌<◌}
use native.Mathlib.Omega.{arith}
use native.Mathlib.Nat.{sub-zero}
use native.Mathlib.Numerals.{add-one}
use lib.Dec.{eqb}
use lib.IntN.{ℤ, pos}
use lib.ListN.{length, get_or, drop, set, length-set}
use lib.Seq.{drop-cons, set_at, get_or-set_same}
use borrow.Author.Tests.{eqb-true, eqb-false, ltb-true, lt-ltb}
use Rattle.laws.specs.Lists.{length_more}
use Rattle.laws.specs.Integers.{up, down, plus-up, plus-down}
use Rattle.rules.specs.Bytes.{max_time}
use Rattle.oracle.specs.Stages.{StageTree, arrive, reach}
use Rattle.oracle.specs.Programme.{is_reached, reached-self, least_charge, least_of_all}
use Rattle.oracle.specs.Timing.{charge}
use Rattle.oracle.specs.ReadOff.{first_layer, read_off, first-attains, read-least, read_step}
use Rattle.oracle.specs.Result.{tree_least, read_plan}
use Rattle.slices.specs.Laid.{on_layer, time_at, LaidDelays, delay_in_range}
use Rattle.readoff.specs.Clauses.{Near, arrive_at, Sized, Finished, FirstLayer, PushIn, Pushed}
use Rattle.readoff.specs.NearTimes.{Bounded}
use Rattle.readoff.proofs.Times.{pushed_reach}

-- The stages before i are read into `plan`, whose bytes were `before`.
pub record ReadOffSoFar (T : StageTree) (k : ℕ) (asked : ℕ → ℤ → Bool) (width : ℕ) (before : List ℕ) (times : List ℤ) (plan : List ℕ) (i : ℕ) : Type 0 where
  -- the times of the definition, and the layers read
  pub reached : ℕ → ℤ
  pub layers-read : List ℕ
  pub count : length layers-read ≡ i
  pub plan-is : plan ≡ layers-read ++ drop i before
  pub whole : read_plan T k (width - 1) ≡ layers-read ++ read_off T (charge T k (width - 1)) (T.stages - i) i reached
  pub left : least_charge T (charge T k (width - 1)) (T.stages - i) i reached < width
  pub agree : (j : ℕ) → i ≤ j → j < T.stages → is_reached T i j ≡ true → time_at times j ≡ reached j
  pub in_window : (j : ℕ) → i ≤ j → j < T.stages → is_reached T i j ≡ true → asked j (reached j) ≡ true

-- The invariant of the loop: the bounds and the meaning for every tree that the slices hold.
pub record Reading (table : List ℤ) (driver first next delay : List ℕ) (limit : List ℤ) (cost starts ends : List ℕ) (stages layers width g : ℕ) (arrival : ℤ)
    (before-times : List ℤ) (before : List ℕ) (times : List ℤ) (plan : List ℕ) (i : ℕ) : Type 0 where
  pub inside : i ≤ stages
  pub times_long : length times ≡ length before-times
  pub plan-long : length plan ≡ length before
  pub bounded : (T : StageTree) (S : Sized T table driver first next delay limit cost starts ends stages width g) → layers ≡ T.layers → arrival ≡ T.arrival
      → (j : ℕ) → i ≤ j → j < stages → (0 < j → get_or driver j 0 < i) → Bounded (S.laid.delays.delays-to j) (time_at times j)
  pub is : (T : StageTree) (k : ℕ) (asked : ℕ → ℤ → Bool) → Finished T k asked table driver first next delay limit cost starts ends stages width g
      → layers ≡ T.layers → arrival ≡ T.arrival
      → asked 0 T.arrival ≡ true → tree_least T k (width - 1) < width → ReadOffSoFar T k asked width before times plan i

-- At the start stage 0 alone is reached.
pub reading-start : {table : List ℤ} {driver first next delay : List ℕ} {limit : List ℤ} {cost starts ends : List ℕ} {stages layers width g : ℕ} {arrival : ℤ}
    {before : List ℕ} (lent : List ℤ) (T : StageTree) → Sized T table driver first next delay limit cost starts ends stages width g → stages ≤ length lent
    → Reading table driver first next delay limit cost starts ends stages layers width g arrival (set lent 0 arrival) before (set lent 0 arrival) before 0
reading-start {driver = driver} {width = width} {arrival = arrival} lent T S long = record {
  inside = omega arith;
  times_long = refl;
  plan-long = refl;
  bounded = λ T S el ea j a b driven. bounded S.laid.delays.delays-to (rw ea S.laid.delays.arrival-most) j driven;
  is = λ T k asked F el ea from-lo small. record {
    reached = λ j. T.arrival;
    layers-read = [];
    count = refl;
    plan-is = refl;
    whole = rw sub-zero;
    left = rw sub-zero (omega (arith, least_of_all T (charge T k (width - 1)) F.sized.tree (λ j. T.arrival)));
    agree = λ j a b r. agree T j r ∙ ea;
    in_window = λ j a b r. window T asked from-lo j r;
  };
}
  where
    written : time_at (set lent 0 arrival) 0 ≡ arrival
    written = get_or-set_same lent 0 arrival (pos 0) (omega (arith, S.tree.some-stage, S.stages-are))

    bounded : (to : ℕ → ℕ) → (up arrival ≤ max_time) × (down arrival ≤ max_time) → (j : ℕ) → (0 < j → get_or driver j 0 < 0)
        → Bounded (to j) (time_at (set lent 0 arrival) j)
    bounded to most zero driven = rw written (omega (arith, most), omega (arith, most))
    bounded to most (suc j) driven = absurd (omega (arith, driven (omega arith)))

    window : (T : StageTree) (asked : ℕ → ℤ → Bool) → asked 0 T.arrival ≡ true → (j : ℕ) → is_reached T 0 j ≡ true → asked j T.arrival ≡ true
    window T asked q zero r = q
    window T asked q (suc j) r = absurd (omega (arith, ltb-true (T.driver (suc j)) 0 r))

    agree : (T : StageTree) (j : ℕ) → is_reached T 0 j ≡ true → time_at (set lent 0 arrival) j ≡ arrival
    agree T zero r = written
    agree T (suc j) r = absurd (omega (arith, ltb-true (T.driver (suc j)) 0 r))

module _ {table : List ℤ} {driver first next delay : List ℕ} {limit : List ℤ} {cost starts ends : List ℕ} {stages layers width g : ℕ} {arrival : ℤ}
    {before-times : List ℤ} {before : List ℕ} where
  module _ {times : List ℤ} {plan : List ℕ} {i : ℕ}
      (here : Reading table driver first next delay limit cost starts ends stages layers width g arrival before-times before times plan i)
      (h : i < stages) where
    -- Stage i is reached, so its time is not far from 0.
    reading-bounded : (T : StageTree) (S : Sized T table driver first next delay limit cost starts ends stages width g) → layers ≡ T.layers
        → arrival ≡ T.arrival → Bounded (S.laid.delays.delays-to i) (time_at times i)
    reading-bounded T S el ea = here.bounded T S el ea i (omega arith) h (λ some. lower i some (omega (arith, S.stages-are)))
      where
        lower : (j : ℕ) → 0 < j → j < T.stages → get_or driver j 0 < j
        lower zero some inside = absurd (omega arith)
        lower (suc j) some inside = omega (arith, S.laid.delays.driver-at (suc j) some inside, S.tree.lower j)

    pub reading-near : (T : StageTree) → Sized T table driver first next delay limit cost starts ends stages width g → layers ≡ T.layers
        → arrival ≡ T.arrival → Near (time_at times i)
    reading-near T S el ea =
        let (a, b) = reading-bounded T S el ea in
        (omega (arith, S.laid.delays.delays-most i (omega (arith, S.stages-are))), omega arith)

    -- What passing the time on asks.
    pub push_in : (T : StageTree) → Sized T table driver first next delay limit cost starts ends stages width g → layers ≡ T.layers → arrival ≡ T.arrival
        → stages ≤ length before-times → {l : ℕ} → l < layers → PushIn driver first next delay times stages i l
    push_in T S e ea long {l} small =
        let L = S.laid.delays in
        record {
          inside = h;
          times_long = omega (arith, here.times_long);
          linked = S.linked;
          delay-long = omega (arith, L.delay-long, S.stages-are);
          layer-inside = omega (arith, L.few-layers);
          delay-most = λ j a b.
              let low : j < T.stages = omega (arith, S.stages-are) in
              omega (arith, delay_in_range L j l (omega arith) low (omega arith));
          near = reading-near T S e ea;
        }

    module _ {l : ℕ} {after : List ℤ} (N : FirstLayer table driver first next delay limit cost starts ends stages layers width g i (time_at times i) l)
        (P : Pushed driver delay times stages i l after) where
      bounded-more : (T : StageTree) (S : Sized T table driver first next delay limit cost starts ends stages width g) → layers ≡ T.layers
          → arrival ≡ T.arrival
          → (j : ℕ) → i + 1 ≤ j → j < stages → (0 < j → get_or driver j 0 < i + 1) → Bounded (S.laid.delays.delays-to j) (time_at after j)
      bounded-more T S e ea j a b driven = rw (P.is j (omega arith) b) (go (eqb (get_or driver j 0) i) refl)
        where
          L : LaidDelays T driver delay
          L = S.laid.delays

          low : j < T.stages
          low = omega (arith, S.stages-are)

          go : (b : Bool) → eqb (get_or driver j 0) i ≡ b → Bounded (L.delays-to j) (if b then arrive_at delay j l (time_at times i) else time_at times j)
          go true q =
              let (u, v) = reading-bounded T S e ea in
              let same = ap L.delays-to (sym (eqb-true (get_or driver j 0) i q) ∙ L.driver-at j (omega arith) low) in
              let small : l < T.layers = omega (arith, N.most) in
              let most = L.delay-most j l (omega arith) low small in
              let d = L.delay-at j l (omega arith) low small in
              (omega (arith, plus-up (time_at times i) (on_layer delay j l)), omega (arith, plus-down (time_at times i) (on_layer delay j l)))
          go false q = let other = eqb-false (get_or driver j 0) i q in here.bounded T S e ea j (omega arith) b (λ some. omega (arith, driven some))

      module _ (T : StageTree) (k : ℕ) (asked : ℕ → ℤ → Bool) (F : Finished T k asked table driver first next delay limit cost starts ends stages width g)
          (el : layers ≡ T.layers) (G : ReadOffSoFar T k asked width before times plan i) (long : stages ≤ length before) where
        abbrev c : ℕ → ℕ → ℤ → ℕ
        c = charge T k (width - 1)

        abbrev n : ℕ
        n = T.stages - suc i

        abbrev chosen : ℕ
        chosen = first_layer T c i (G.reached i)

        abbrev onward : ℕ → ℤ
        onward = reach T i chosen G.reached

        low : i < T.stages
        low = omega (arith, F.sized.stages-are)

        steps : T.stages - i ≡ suc n
        steps = omega (arith, low)

        total : i + suc n ≡ T.stages
        total = omega (arith, low)

        left : least_charge T c (suc n) i G.reached < width
        left = rw steps at G.left

        -- The time in the slice is that of the definition, and so is the layer.
        self : is_reached T i i ≡ true
        self = reached-self T F.sized.tree i

        now-reached : time_at times i ≡ G.reached i
        now-reached = G.agree i (omega arith) low self

        layer-is : l ≡ chosen
        layer-is =
            rw now-reached at (N.is T k asked F el (rw now-reached (G.in_window i (omega arith) low self))
            (rw now-reached (omega (arith, read-least T c F.sized.tree n i G.reached total, left))))

        -- A stage that stage i does not drive and that is reached now was reached before.
        reached-before : (j : ℕ) → i < j → is_reached T (suc i) j ≡ true → eqb (T.driver j) i ≡ false → is_reached T i j ≡ true
        reached-before zero a r q = absurd (omega arith)
        reached-before (suc j) a r q =
            let d = ltb-true (T.driver (suc j)) (suc i) r in
            let other = eqb-false (T.driver (suc j)) i q in
            lt-ltb (T.driver (suc j)) i (omega arith)

        agree-more : (j : ℕ) → i < j → j < T.stages → is_reached T (suc i) j ≡ true → time_at after j ≡ onward j
        agree-more j a b r =
            pushed_reach F.sized.laid.delays F.sized.stages-are (omega (arith, N.most)) P j a b ∙ rw layer-is (go (eqb (T.driver j) i) refl)
          where
            go : (t : Bool) → eqb (T.driver j) i ≡ t
                → (if t then arrive T j chosen (time_at times i) else time_at times j) ≡ (if t then arrive T j chosen (G.reached i) else G.reached j)
            go true q = ap (arrive T j chosen) now-reached
            go false q = G.agree j (omega arith) b (reached-before j a r q)

        -- The layer can be paid, so the stages that stage i drives are reached in their windows.
        payable : T.cost i chosen / 2 ^ k ≤ width - 1
        payable = let step = read_step T c F.sized.tree n i G.reached total in omega (arith, left)

        window_more : (j : ℕ) → i < j → j < T.stages → is_reached T (suc i) j ≡ true → asked j (onward j) ≡ true
        window_more j a b r = go (eqb (T.driver j) i) refl
          where
            go : (t : Bool) → eqb (T.driver j) i ≡ t → asked j (if t then arrive T j chosen (G.reached i) else G.reached j) ≡ true
            go true q =
                let s = eqb-true (T.driver j) i q in
                let small = (first-attains T c F.sized.tree i (G.reached i) low).0 in
                F.filled.passes j chosen (omega arith) b small (rw s payable) (G.reached i) (rw s (G.in_window i (omega arith) low self))
            go false q = G.in_window j (omega arith) b (reached-before j a r q)

        going_more : length plan ≡ length before → ReadOffSoFar T k asked width before after (set plan i l) (suc i)
        going_more same = record {
          reached = onward;
          layers-read = G.layers-read ++ (chosen ∷ []);
          count = length_more G.layers-read chosen ∙ omega (arith, G.count);
          plan-is =
              ap (λ p. set p i l) (G.plan-is ∙ ap (λ q. G.layers-read ++ q) (drop-cons before i 0 (omega arith)))
              ∙ set_at G.layers-read (get_or before i 0) (drop (suc i) before) l i G.count
              ∙ rw (layer-is, append_assoc);
          whole = G.whole ∙ rw (steps, append_assoc);
          left = omega (arith, read_step T c F.sized.tree n i G.reached total, left);
          agree = agree-more;
          in_window = window_more;
        }

      pub reading-more : stages ≤ length before → length after ≡ length times
          → Reading table driver first next delay limit cost starts ends stages layers width g arrival before-times before after (set plan i l) (i + 1)
      reading-more long same = record {
        inside = omega arith;
        times_long = same ∙ here.times_long;
        plan-long = length-set plan i l ∙ here.plan-long;
        bounded = bounded-more;
        is = λ T k asked F el ea from-lo small. rw add-one (going_more T k asked F el (here.is T k asked F el ea from-lo small) long here.plan-long);
      }
