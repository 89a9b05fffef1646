-- The merging of all stages that stage i drives: what the band stands for once the stages before j are merged.
use Rattle.std.proofs.Common.{◌≡◌, refl, ap, sym, ◌∙◌, subst, Bool, true, List, ◌⊎◌, inl, inr, ℕ, suc, ◌+◌, ◌-◌, ◌*◌, ◌≤◌, ◌<◌, min, arith, mul-le-mul_right, eqb, get_or, ℤ, pos, ◌+ℤ◌, eq-eqb, ne_eqb, w64, to_z, of_z}
use Rattle.std.specs.Int.Signed.{le_z}
use Rattle.laws.specs.Integers.{le_trans}
use Rattle.laws.specs.Passing.{passing, passing-more, passing-skip}
use Rattle.oracle.specs.Band.{Band, LimitOn, limit_free, band-entries, band-agree, band_leaf, band_shift, band-less}
use Rattle.fanout.specs.Clauses.{NextOwned}
use Rattle.slices.specs.Laid.{on_layer, limit_on, max_delay, max_entry}
use Rattle.bands.specs.Entries.{row_at, over_delay, Apart, KeptOutside, merged_low, InRange, range_minus, range-more, no_delay, apart-sym, row_ends, row_unmerged}
use Rattle.bands.specs.Clauses.{Filled, BranchIn, Branched, MergeIn, Merged, merged_start}
use Rattle.bands.proofs.Columns.{entry-is}
use Rattle.branches.specs.Clauses.{UpTo, Limited, Seen, BandOf, BranchesIn, Below, Joined}

-- A row over no delay is the row.
undelayed_range : (table : List ℤ) (row w : ℕ) → InRange merged_low (row_at table row w) → InRange merged_low (over_delay table row 0 w)
undelayed_range table row w = subst (InRange merged_low) (sym (no_delay (row_at table row w)))

undelayed_band : (table : List ℤ) (row : ℕ) {asked : ℤ → Bool} {hi start end : ℕ} {f : ℤ → ℕ} → Band asked hi (row_at table row) start end f
    → Band asked hi (over_delay table row 0) start end f
undelayed_band table row {asked} {hi} {start} {end} {f} =
    band-entries asked hi (row_at table row) (over_delay table row 0) start end f (λ w a b. no_delay (row_at table row w))

-- limited: the band itself, where every time asked is within the limit ..
module _ {table : List ℤ} {from out start end d : ℕ} {limit last : ℤ} (I : BranchIn table from out start end d limit) where
  pub limit_passed : le_z last limit ≡ true → Limited table table from start end d limit last out from d
  limit_passed h = record {
    place_is = inl refl;
    small = I.small;
    kept = record { long = refl; others = λ m o. refl };
    range = λ w a b. range_minus (row_at table from w) d I.small (I.range w a b);
    band = λ asked hi f g U D L. band-agree asked hi (over_delay table from d) start end f (λ t. g t + f t)
        (λ t q. omega (arith, limit_free asked hi limit g L t q (le_trans t last limit (U t q) h))) D;
  }

  -- .. or a copy under the limit.
  pub limit_copied : {after : List ℤ} {limit' : ℤ} → limit' ≡ limit → Branched table after from out start end d limit' → Limited table after from start end d limit last out out 0
  limit_copied {after} q A = let B : Branched table after from out start end d limit = rw q at A in record {
    place_is = inr refl;
    small = omega arith;
    kept = B.kept;
    range = λ w a b. undelayed_range after out w (B.range w a b);
    band = λ asked hi f g U D L. undelayed_band after out (B.band asked hi f g D L);
  }

-- What the driven stages before j ask together at time t.
abbrev pub asked_of : (driver delay : List ℕ) (i l : ℕ) → (ℕ → ℤ → ℕ) → ℤ → ℕ → ℕ
asked_of driver delay i l f t j = passing (λ m. eqb (get_or driver m 0) i) (λ m. f m (t +ℤ pos (on_layer delay m l))) (suc i) j

module _ (driver delay : List ℕ) (stages i l : ℕ) (f : ℕ → ℤ → ℕ) (t : ℤ) where
  test : ℕ → Bool
  test m = eqb (get_or driver m 0) i

  term : ℕ → ℕ
  term m = f m (t +ℤ pos (on_layer delay m l))

  skip : (a j r : ℕ) → a ≤ j → NextOwned driver stages i j r → passing test term a r ≡ passing test term a j
  unfolding test
  skip a j r h N =
      let e : j + (r - j) ≡ r = omega (arith, N.low) in
      ap (passing test term a) (sym e) ∙ passing-skip test term a j (r - j) h (λ m u v. ne_eqb (get_or driver m 0) i (N.passed m u (omega arith)))

  -- Before the first driven stage nothing is asked ..
  pub asked-first : (j : ℕ) → NextOwned driver stages i (suc i) j → asked_of driver delay i l f t j ≡ 0
  unfolding test term
  asked-first j N =
      let e : suc i - suc i ≡ 0 = omega arith in
      skip (suc i) (suc i) j (omega arith) N ∙ rw e

  -- .. and from one to the next what that one asks.
  pub asked-next : (j r : ℕ) → i < j → get_or driver j 0 ≡ i → NextOwned driver stages i (suc j) r
      → asked_of driver delay i l f t r ≡ asked_of driver delay i l f t j + f j (t +ℤ pos (on_layer delay j l))
  unfolding test term
  asked-next j r h e N =
      skip (suc i) (suc j) r (omega arith) N ∙ passing-more test term (suc i) j (omega arith) (eq-eqb (get_or driver j 0) i e)

module _ {before : List ℤ} {driver first next delay : List ℕ} {limit : List ℤ} {starts ends : List ℕ} {stages width left i l : ℕ}
    (I : BranchesIn before driver first next delay limit starts ends stages width left i l) where
  -- The links lead to the first driven stage and from one to the next.
  pub first-driven : NextOwned driver stages i (suc i) (get_or first i 0)
  first-driven = I.linked.first-is i I.stage

  pub next-driven : (j : ℕ) → i < j → j < stages → get_or driver j 0 ≡ i → NextOwned driver stages i (suc j) (get_or next j 0)
  next-driven j a h e = subst (λ m. NextOwned driver stages m (suc j) (get_or next j 0)) e (I.linked.next-is j (omega arith) h)

  kept_row : {table : List ℤ} → KeptOutside before table (stages * width) (width + width) → (j w : ℕ) → j < stages → w < width
      → row_at table (j * width) w ≡ row_at before (j * width) w
  kept_row K j w h k = K.others (j * width + w) (row_unmerged width stages j w h k)

  kept-below : {table : List ℤ} → KeptOutside before table (stages * width) (width + width) → (asked : ℤ → Bool) (below : ℕ → ℤ → Bool) (f : ℕ → ℤ → ℕ)
      → Below asked below f before driver delay starts ends stages width i l → Below asked below f table driver delay starts ends stages width i l
  kept-below {table} K asked below f U = record {
    passes = U.passes;
    bands = λ j a h. band-entries (below j) (width - 1) (row_at before (j * width)) (row_at table (j * width)) (get_or starts j 0) (get_or ends j 0) (f j)
        (λ w p q. kept_row K j w h (omega (arith, (I.bands j a h).most))) (U.bands j a h);
  }

  kept_of : {table : List ℤ} → KeptOutside before table (stages * width) (width + width) → (j : ℕ) → i < j → j < stages → BandOf table starts ends width j
  kept_of K j a h = record {
    order = (I.bands j a h).order;
    most = (I.bands j a h).most;
    range = λ w p q. subst (InRange max_entry) (sym (kept_row K j w h (omega (arith, (I.bands j a h).most)))) ((I.bands j a h).range w p q);
  }

  -- The stage's own limit as code reads it.
  pub own_is : to_z w64 (of_z w64 (limit_on limit i l)) ≡ limit_on limit i l
  own_is = entry-is refl (range-more (limit_on limit i l) I.limit_range)

  -- What stage i on layer l sees of a driven stage: its band over the delay, within the budgets that are left.
  seen-band : {table : List ℤ} (asked : ℤ → Bool) (below : ℕ → ℤ → Bool) (f : ℕ → ℤ → ℕ) → Below asked below f table driver delay starts ends stages width i l
      → (j : ℕ) → i < j → j < stages → get_or driver j 0 ≡ i → {b s e d : ℕ} → Seen delay starts ends (j * width) left j l b s e d
      → Band asked (left - 1) (over_delay table b d) s e (λ t. f j (t +ℤ pos (on_layer delay j l)))
  seen-band {table} asked below f U j a h v W =
      let one : left ≡ suc (left - 1) = omega (arith, I.some_left) in
      let x = W.start_is ∙ ap (min (get_or starts j 0)) one in
      let y = W.end_is ∙ ap (min (get_or ends j 0)) one in
      rw (W.row_is, W.delay-is, x, y) (band-less asked (width - 1) (left - 1) (omega (arith, I.left-most)) (over_delay table (j * width) (on_layer delay j l))
      (get_or starts j 0) (get_or ends j 0) (λ t. f j (t +ℤ pos (on_layer delay j l)))
      (band_shift asked (below j) (width - 1) (on_layer delay j l) (U.passes j a h v) (row_at table (j * width))
      (get_or starts j 0) (get_or ends j 0) (f j) (U.bands j a h)))

  -- A stage with no driven stage: its own limit alone, in one column.
  pub join-none : {table : List ℤ} {own last : ℤ} → own ≡ limit_on limit i l → stages ≤ get_or first i 0
      → Filled before table (stages * width) 0 1 own → Joined before table driver delay limit starts ends stages width left i l last (stages * width) 0 1 0
  join-none {table} {own} e h F = record {
    low = mul-le-mul_right width I.stage;
    most = omega arith;
    order = omega arith;
    fits = I.some_left;
    small = omega arith;
    kept = record { long = F.kept.long; others = λ m o. F.kept.others m (λ w k q. o w (omega (arith, I.some_left, I.left-most)) q) };
    range = λ w p k. undelayed_range table (stages * width) w (subst (InRange merged_low) (sym (F.entries w p k ∙ e))
        (range-more (limit_on limit i l) I.limit_range));
    band = λ asked below f g U B L. undelayed_band table (stages * width) (
        band-agree asked (left - 1) (row_at table (stages * width)) 0 1 g (λ t. g t + asked_of driver delay i l f t stages)
        (λ t q. omega (arith, asked-first driver delay stages i l f t stages none))
        (band-entries asked (left - 1) (λ w. limit_on limit i l) (row_at table (stages * width)) 0 1 g (λ w p k. F.entries w p k ∙ e)
        (band_leaf asked (left - 1) (limit_on limit i l) g L))
        );
  }
    where
      none : NextOwned driver stages i (suc i) stages
      none = let q : get_or first i 0 ≡ stages = omega (arith, first-driven.most) in rw q at first-driven

-- The loop begins with table `before`, in which the stages before `begun` are merged into the band at `row₀` over delay `over₀`. In `table` those before j are
-- merged into the band at `row`; `spare` is the merging row that is written next, `other` the one after it.
pub record Joining (before : List ℤ) (driver first next delay : List ℕ) (limit : List ℤ) (starts ends : List ℕ) (stages width left i l row₀ start₀ end₀ over₀ begun : ℕ)
    (table : List ℤ) (row spare other j start end over : ℕ) : Type 0 where
  pub asks : BranchesIn before driver first next delay limit starts ends stages width left i l
  pub row_low : suc i * width ≤ row
  pub row-most : row + width ≤ (stages + 2) * width
  pub spare_low : stages * width ≤ spare
  pub spare_most : spare + width ≤ (stages + 2) * width
  pub other-low : stages * width ≤ other
  pub other-most : other + width ≤ (stages + 2) * width
  pub apart-row : Apart spare row width
  pub apart_other : Apart spare other width
  pub kept : KeptOutside before table (stages * width) (width + width)
  pub order : start ≤ end
  pub fits : end ≤ left
  pub small : over < max_delay
  pub range : (w : ℕ) → start ≤ w → w < end → InRange merged_low (over_delay table row over w)
  pub above : i < j
  pub most : j ≤ stages
  pub driven : j < stages → get_or driver j 0 ≡ i
  pub band : (asked : ℤ → Bool) (below : ℕ → ℤ → Bool) (f : ℕ → ℤ → ℕ) (g : ℤ → ℕ) → Below asked below f before driver delay starts ends stages width i l
      → Band asked (left - 1) (over_delay before row₀ over₀) start₀ end₀ (λ t. g t + asked_of driver delay i l f t begun)
      → Band asked (left - 1) (over_delay table row over) start end (λ t. g t + asked_of driver delay i l f t j)

module _ {before : List ℤ} {driver first next delay : List ℕ} {limit : List ℤ} {starts ends : List ℕ} {stages width left i l : ℕ}
    (I : BranchesIn before driver first next delay limit starts ends stages width left i l) (h : get_or first i 0 < stages) where
  abbrev j₁ : ℕ
  j₁ = get_or first i 0

  above-first : i < j₁
  above-first = (first-driven I).low

  -- The first driven stage.
  module _ {own : ℤ} {b s e d : ℕ} (o : own ≡ limit_on limit i l) (W : Seen delay starts ends (j₁ * width) left j₁ l b s e d) where
    module _ {table : List ℤ} {last : ℤ} {row over : ℕ} (B : Limited before table b s e d own last (stages * width) row over) where
      began : KeptOutside before table (stages * width) (width + width)
      began = record { long = B.kept.long; others = λ m z. B.kept.others m (λ w k y. z w (omega (arith, I.left-most, W.end_is)) y) }

      row-at : (suc i * width ≤ row) × (row + width ≤ (stages + 2) * width) × Apart (stages * width + width) row width
      row-at = go B.place_is
        where
          go : (row ≡ b) ⊎ (row ≡ stages * width) → (suc i * width ≤ row) × (row + width ≤ (stages + 2) * width) × Apart (stages * width + width) row width
          go (inl z) =
              let low = mul-le-mul_right width above-first in
              let most = row_ends width j₁ stages h in
              let is : row ≡ j₁ * width = z ∙ W.row_is in
              (omega arith, omega arith, λ w k v y x. omega arith)
          go (inr z) = let a = mul-le-mul_right width I.stage in (omega arith, omega arith, λ w k v y x. omega arith)

      pub join-start : Joining table driver first next delay limit starts ends stages width left i l row s e over (get_or next j₁ 0)
          table row (stages * width + width) (stages * width) (get_or next j₁ 0) s e over
      join-start =
          let N = next-driven I j₁ above-first h ((first-driven I).owned h) in
          let O = I.bands j₁ above-first h in
          record {
            asks = record {
              some_left = I.some_left;
              left-most = I.left-most;
              stage = I.stage;
              sized = omega (arith, I.sized, B.kept.long);
              linked = I.linked;
              starts_long = I.starts_long;
              ends-long = I.ends-long;
              delays = I.delays;
              limits = I.limits;
              delay-range = I.delay-range;
              limit_range = I.limit_range;
              bands = kept_of I began;
            };
            row_low = row-at.0;
            row-most = row-at.1;
            spare_low = omega arith;
            spare_most = omega arith;
            other-low = omega arith;
            other-most = omega arith;
            apart-row = row-at.2;
            apart_other = λ w k v b z. omega arith;
            kept = record { long = refl; others = λ m z. refl };
            order = omega (arith, O.order, W.start_is, W.end_is);
            fits = omega (arith, W.end_is);
            small = B.small;
            range = B.range;
            above = omega (arith, above-first, N.low);
            most = N.most;
            driven = N.owned;
            band = λ asked below f g U E. E;
          }

      first-band : (asked : ℤ → Bool) (below : ℕ → ℤ → Bool) (f : ℕ → ℤ → ℕ) (g : ℤ → ℕ) → UpTo last asked → Below asked below f before driver delay starts ends stages width i l
          → LimitOn asked (left - 1) (limit_on limit i l) g
          → Band asked (left - 1) (over_delay table row over) s e (λ t. g t + asked_of driver delay i l f t (get_or next j₁ 0))
      first-band asked below f g late U L =
          let a = above-first in
          let v = (first-driven I).owned h in
          band-agree asked (left - 1) (over_delay table row over) s e (λ t. g t + f j₁ (t +ℤ pos (on_layer delay j₁ l)))
          (λ t. g t + asked_of driver delay i l f t (get_or next j₁ 0))
          (λ t z. omega (arith, asked-first driver delay stages i l f t j₁ (first-driven I), asked-next driver delay stages i l f t j₁ (get_or next j₁ 0) a v (next-driven I j₁ a h v)))
          (B.band asked (left - 1) (λ t. f j₁ (t +ℤ pos (on_layer delay j₁ l))) g late (seen-band I asked below f U j₁ a h v W) (rw o L))

      -- When no driven stage is left.
      pub join_end : {after : List ℤ} {row' spare other m start' end' over' : ℕ}
          → Joining table driver first next delay limit starts ends stages width left i l row s e over (get_or next j₁ 0) after row' spare other m start' end' over' → stages ≤ m
          → Joined before after driver delay limit starts ends stages width left i l last row' start' end' over'
      join_end {after} {row'} {spare} {other} {m} J done = let z : m ≡ stages = omega (arith, J.most) in record {
        low = J.row_low;
        most = J.row-most;
        order = J.order;
        fits = J.fits;
        small = J.small;
        kept = record { long = J.kept.long ∙ B.kept.long; others = λ w x. J.kept.others w x ∙ began.others w x };
        range = J.range;
        band = λ asked below f g late U L. rw z at (J.band asked below f g (kept-below I began asked below f U) (first-band asked below f g late U L));
      }

-- One driven stage more.
module _ {before : List ℤ} {driver first next delay : List ℕ} {limit : List ℤ} {starts ends : List ℕ} {stages width left i l row₀ start₀ end₀ over₀ begun : ℕ}
    {table : List ℤ} {row spare other j start end over : ℕ}
    (J : Joining before driver first next delay limit starts ends stages width left i l row₀ start₀ end₀ over₀ begun table row spare other j start end over) (h : j < stages) where
  pub next-ahead : j < get_or next j 0
  next-ahead = (next-driven J.asks j J.above h (J.driven h)).low

  module _ {b s e d : ℕ} (W : Seen delay starts ends (j * width) left j l b s e d) where
    pub merge_in : MergeIn table row start end over b s e d spare left
    merge_in =
        let r = row_ends width j stages h in
        let I = J.asks in
        let O = kept_of I J.kept j J.above h in
        rw (W.row_is, W.delay-is) (record {
          a-order = J.order;
          b-order = omega (arith, O.order, W.start_is, W.end_is);
          a-most = J.fits;
          b-most = omega (arith, W.end_is);
          columns = I.some_left;
          a_in = omega (arith, I.sized, J.kept.long, J.row-most, I.left-most);
          b_in = omega (arith, I.sized, J.kept.long, I.left-most);
          out_in = omega (arith, I.sized, J.kept.long, J.spare_most, I.left-most);
          apart-a = λ w k v u z. J.apart-row w (omega (arith, I.left-most)) v (omega (arith, I.left-most)) z;
          apart-b = λ w k v u z. omega (arith, J.spare_low, I.left-most);
          small-a = J.small;
          small_b = I.delay-range j J.above h;
          range-a = J.range;
          range-b = λ w x y. range_minus (row_at table (j * width) w) (on_layer delay j l) (I.delay-range j J.above h)
              (O.range w (omega (arith, O.order, W.start_is, W.end_is)) (omega (arith, W.end_is)));
        })

    pub join_more : {after : List ℤ} {end' start' : ℕ} → Merged table after row start end over b s e d spare left end'
        → start' ≡ min (start + s) left
        → Joining before driver first next delay limit starts ends stages width left i l row₀ start₀ end₀ over₀ begun after spare other spare (get_or next j 0) start' end' 0
    join_more {after} {end'} {start'} M z =
        let I = J.asks in
        let N = next-driven I j J.above h (J.driven h) in
        rw z (record {
          asks = I;
          row_low = omega (arith, J.spare_low, mul-le-mul_right width I.stage);
          row-most = J.spare_most;
          spare_low = J.other-low;
          spare_most = J.other-most;
          other-low = J.spare_low;
          other-most = J.spare_most;
          apart-row = apart-sym spare other width J.apart_other;
          apart_other = apart-sym spare other width J.apart_other;
          kept = record {
            long = M.kept.long ∙ J.kept.long;
            others = λ m o. M.kept.others m (λ w k x. o (spare + w - stages * width) (omega (arith, J.spare_most, J.spare_low, I.left-most)) (omega (arith, J.spare_low)))
                ∙ J.kept.others m o;
          };
          order = M.order;
          fits = M.most;
          small = omega arith;
          range = λ w x y. undelayed_range after spare w (M.range w x y);
          above = omega (arith, J.above, N.low);
          most = N.most;
          driven = N.owned;
          band = λ asked below f g U E.
              let O = kept-below I J.kept asked below f U in
              undelayed_band after spare (
              band-agree asked (left - 1) (row_at after spare) (merged_start start s left) end'
              (λ t. g t + asked_of driver delay i l f t j + f j (t +ℤ pos (on_layer delay j l))) (λ t. g t + asked_of driver delay i l f t (get_or next j 0))
              (λ t x. omega (arith, asked-next driver delay stages i l f t j (get_or next j 0) J.above (J.driven h) N))
              (M.band asked (λ t. g t + asked_of driver delay i l f t j) (λ t. f j (t +ℤ pos (on_layer delay j l))) (J.band asked below f g U E)
              (seen-band I asked below f O j J.above h (J.driven h) W)));
        })

    -- The band that is merged lies within the table.
    pub first_fits : start + s ≤ (stages + 2) * width
    first_fits =
        let two : 2 * width ≤ (stages + 2) * width = mul-le-mul_right width (omega arith) in
        omega (arith, J.order, J.fits, J.asks.left-most, (J.asks.bands j J.above h).order, W.start_is)
