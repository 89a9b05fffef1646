-- The loops over columns: what each entry is, from which the contracts follow.
use mathlib.Core.Path.{◌≡◌, refl, ap, sym, ◌∙◌, subst}
use mathlib.Core.Bool.{Bool, true, false, cond}
use mathlib.Core.List.{List}
use mathlib.Core.Logic.{◌⊎◌, inl, inr}
use Prim.Native.Nat.{ℕ, zero, suc, ◌+◌, ◌-◌, ◌≤◌, ◌<◌}
use native.Mathlib.Omega.{arith}
use native.Mathlib.Numerals.{add-one}
use native.Mathlib.Decide.{dec_le}
use lib.ListN.{length, set, length-set}
use lib.Seq.{get_or-set_same, get_or-set_other}
use Rattle.laws.specs.Booleans.{same_or}
use lib.IntN.{ℤ, pos, ◌-ℤ◌}
use lib.Signed.{le_z, lt_z}
use Rattle.std.specs.Int.{int_min}
use Rattle.std.proofs.lemmas.List.{places}
use Rattle.std.specs.Prelude.{replicate}
use borrow.Rule.Slice.PartMut.{put_mid}
use mir.Syntax.{w64}
use mir.Facts.{to_z-of_z, to_z_pos}
use mir.Val.{SFits, to_z, of_z}
use Rattle.laws.specs.Basic.{min_z}
use Rattle.laws.specs.Extremes.{max_z}
use Rattle.laws.specs.Integers.{up, down, true_le, lt_true, lt_false}
use Rattle.oracle.specs.Band.{pointers, merge, MergedBand, from_column, pointer_a, pointer_b, band-entries, band_limit, band-merge, band-front, band_end, end_inner, FirstIn}
use Rattle.slices.specs.Laid.{max_delay, max_entry}
use Rattle.bands.specs.Entries.{row_at, over_delay, KeptOutside, merged_low, never, never-range, InRange, range-fits, range-before, range_minus, range-more, range-min, range-max}
use Rattle.bands.specs.Clauses.{Filled, BranchIn, Branched, MergeIn, Merged, merged_start, SpendIn, Spent, RaiseIn, RaisedRow, Cut}
use Rattle.bands.proofs.Writing.{Written, written_start, written-more, written_same, written-other}

-- fill: the columns from `start` to before `end` are replaced, all by the value; the others stay.
pub filled : {before part : List ℤ} {row start end : ℕ} {value : ℤ} → start < end → row + end ≤ length before → part ≡ replicate (end - start) value
    → Filled before (put_mid (row + start) (row + end - (row + start)) before part) row start end value
filled {before} {part} {row} {start} {end} h long e = rw e (record {
  kept = record { long = grind (arith, places); others = λ m o. grind (arith, places, o (m - row)) };
  early = λ w k. grind (arith, places);
  entries = λ w a b. grind (arith, places);
})

-- A signed number in code is its 64 bits: an entry read, and an entry less a delay.
pub entry-is : {z y : ℤ} → z ≡ y → InRange merged_low y → to_z w64 (of_z w64 z) ≡ y
entry-is {z} {y} e r = rw e (to_z-of_z (range-fits y r))

module _ {z y : ℤ} {d : ℕ} (e : z ≡ y) (r : InRange merged_low (y -ℤ pos d)) (h : d < max_delay) where
  less : to_z w64 (of_z w64 z) -ℤ to_z w64 d ≡ y -ℤ pos d
  less = rw (e, to_z-of_z (range-before y d h r), to_z_pos w64 {n = d} (omega arith))

  pub less-fits : SFits w64 (to_z w64 (of_z w64 z) -ℤ to_z w64 d)
  less-fits = rw less (range-fits (y -ℤ pos d) r)

  pub less-is : to_z w64 (of_z w64 (to_z w64 (of_z w64 z) -ℤ to_z w64 d)) ≡ y -ℤ pos d
  less-is = entry-is less r

-- The lesser of two times is the definition's.
pub lesser-time : {x y : ℤ} → x ≡ y → (z : ℤ) → int_min x z ≡ min_z y z
lesser-time {y = y} e z = rw e (go (lt_z z y) refl)
  where
    go : (b : Bool) → lt_z z y ≡ b → int_min y z ≡ min_z y z
    go true q = rw (q, lt_true z y q)
    go false q = rw (q, lt_false z y q)

-- branch: the entry of the driven stage less the delay, or the limit.
pub record Branching (before : List ℤ) (from out start end d : ℕ) (limit : ℤ) (table : List ℤ) (w : ℕ) : Type 0 where
  pub low : start ≤ w
  pub written : Written (λ v z. start ≤ v → z ≡ min_z (over_delay before from d v) limit) before out end table w

module _ {before table : List ℤ} {from out start end d w : ℕ} {limit r : ℤ}
    (I : BranchIn before from out start end d limit) (B : Branching before from out start end d r table w) where
  pub branch_range : w < end → InRange merged_low (over_delay before from d w)
  branch_range h = range_minus (row_at before from w) d I.small (I.range w B.low h)

  pub branch_read : w < end → row_at table from w ≡ row_at before from w
  branch_read h = written-other B.written from I.apart w h

  pub branch_more : {x : ℤ} → w < end → x ≡ min_z (over_delay before from d w) r → Branching before from out start end d r (set table (out + w) x) (w + 1)
  branch_more h e = record { low = omega (arith, B.low); written = written-more B.written h I.out_in (λ k. e) }

  pub branch_end : end ≤ w → r ≡ limit → Branched before table from out start end d limit
  branch_end h e = record {
    kept = B.written.kept;
    range = λ v a k. subst (InRange merged_low) (sym (entry v a k)) (range-min merged_low (over_delay before from d v) limit
        (range_minus (row_at before from v) d I.small (I.range v a k)) (range-more limit I.limit_range));
    band = λ asked hi f g D L. band-entries asked hi (λ v. min_z (over_delay before from d v) limit) (row_at table out) start end (λ t. g t + f t) entry
        (band_limit asked hi (λ v. over_delay before from d v) start end f limit g L D);
  }
    where
      entry : (v : ℕ) → start ≤ v → v < end → row_at table out v ≡ min_z (over_delay before from d v) limit
      entry v a k = rw (← e) (B.written.done v (omega arith) k a)

-- merge: the entry is that of the two pointers of `oracle`'s Table, from the first columns on; n steps are done.
module _ (before : List ℤ) (a sa da b sb db : ℕ) where
  abbrev from_a : ℕ → ℤ
  from_a = from_column sa (over_delay before a da)

  abbrev from_b : ℕ → ℤ
  from_b = from_column sb (over_delay before b db)

pub record Merging (before : List ℤ) (a sa ea da b sb eb db out width : ℕ) (table : List ℤ) (i j w : ℕ) : Type 0 where
  pub n : ℕ
  pub at : w ≡ sa + sb + n
  pub written : Written (λ v z. (m : ℕ) → v ≡ sa + sb + m → z ≡ merge (from_a before a sa da b sb db) (from_b before a sa da b sb db) m) before out width table w
  pub left : i ≡ sa + (pointers (from_a before a sa da b sb db) (from_b before a sa da b sb db) n).0
  pub right : j ≡ sb + (pointers (from_a before a sa da b sb db) (from_b before a sa da b sb db) n).1
  pub most : (w ≤ width) ⊎ (n ≡ 0)
  pub i_most : i ≤ ea
  pub j_most : j ≤ eb
  pub within : (m : ℕ) → m < n → (sa + (pointers (from_a before a sa da b sb db) (from_b before a sa da b sb db) m).0 < ea) × (sb + (pointers (from_a before a sa da b sb db) (from_b before a sa da b sb db) m).1 < eb)

pub merge-start : {before : List ℤ} {a sa ea da b sb eb db out width : ℕ} → MergeIn before a sa ea da b sb eb db out width
    → Merging before a sa ea da b sb eb db out width before sa sb (sa + sb)
unfolding pointers
merge-start {sa = sa} {sb = sb} I = record {
  n = 0;
  at = omega arith;
  written = written_start (sa + sb) (λ v h b m e. absurd (omega arith));
  left = omega arith;
  right = omega arith;
  most = inr refl;
  i_most = I.a-order;
  j_most = I.b-order;
  within = λ m h. absurd (omega arith);
}

-- One step of the pointers.
module _ (A B : ℕ → ℤ) (sa sb i j n : ℕ) (left : i ≡ sa + (pointers (from_column sa A) (from_column sb B) n).0)
    (right : j ≡ sb + (pointers (from_column sa A) (from_column sb B) n).1) where
  step_left : le_z (A i) (B j) ≡ true
      → (i + 1 ≡ sa + (pointers (from_column sa A) (from_column sb B) (suc n)).0) × (j ≡ sb + (pointers (from_column sa A) (from_column sb B) (suc n)).1)
  unfolding pointers
  step_left t = let e = rw (left, right) at t in rw e (omega (arith, left), right)

  step_right : le_z (A i) (B j) ≡ false
      → (i ≡ sa + (pointers (from_column sa A) (from_column sb B) (suc n)).0) × (j + 1 ≡ sb + (pointers (from_column sa A) (from_column sb B) (suc n)).1)
  unfolding pointers
  step_right t = let e = rw (left, right) at t in rw e (left, omega (arith, right))

module _ {before table : List ℤ} {a sa ea da b sb eb db out width i j w : ℕ} (I : MergeIn before a sa ea da b sb eb db out width)
    (M : Merging before a sa ea da b sb eb db out width table i j w) where
  abbrev A : ℕ → ℤ
  A = over_delay before a da

  abbrev B : ℕ → ℤ
  B = over_delay before b db

  pub i_low : sa ≤ i
  i_low = omega (arith, M.left)

  pub j_low : sb ≤ j
  j_low = omega (arith, M.right)

  pub merge-read-a : i < ea → row_at table a i ≡ row_at before a i
  merge-read-a h = written-other M.written a I.apart-a i (omega (arith, I.a-most))

  pub merge-read-b : j < eb → row_at table b j ≡ row_at before b j
  merge-read-b h = written-other M.written b I.apart-b j (omega (arith, I.b-most))

  module _ {x y : ℤ} (h : w < width) (hi : i < ea) (hj : j < eb) (ex : x ≡ over_delay before a da i) (ey : y ≡ over_delay before b db j) where
    within : (m : ℕ) → m < suc M.n → (pointer_a A B sa sb m < ea) × (pointer_b A B sa sb m < eb)
    within m k = go (dec_le M.n m)
      where
        go : Dec (M.n ≤ m) → (pointer_a A B sa sb m < ea) × (pointer_b A B sa sb m < eb)
        go (yes q) = let e : m ≡ M.n = omega arith in rw e (omega (arith, M.left), omega (arith, M.right))
        go (no q) = M.within m (omega arith)

    pub merge-left : le_z x y ≡ true → Merging before a sa ea da b sb eb db out width (set table (out + w) x) (i + 1) j (w + 1)
    merge-left t =
        let e = rw (ex, ey) at t in
        let (l, r) = step_left A B sa sb i j M.n M.left M.right e in
        record {
          n = suc M.n;
          at = omega (arith, M.at);
          written = written-more M.written h I.out_in (λ m q. let same : m ≡ M.n = omega (arith, M.at) in rw same (rw (← M.left, ← M.right, e) ex));
          left = l;
          right = r;
          most = inl (omega arith);
          i_most = omega arith;
          j_most = M.j_most;
          within = within;
        }

    pub merge-right : le_z x y ≡ false → Merging before a sa ea da b sb eb db out width (set table (out + w) y) i (j + 1) (w + 1)
    merge-right t =
        let e = rw (ex, ey) at t in
        let (l, r) = step_right A B sa sb i j M.n M.left M.right e in
        record {
          n = suc M.n;
          at = omega (arith, M.at);
          written = written-more M.written h I.out_in (λ m q. let same : m ≡ M.n = omega (arith, M.at) in rw same (rw (← M.left, ← M.right, e) ey));
          left = l;
          right = r;
          most = inl (omega arith);
          i_most = M.i_most;
          j_most = omega arith;
          within = within;
        }

  -- Where the merge ends inside the columns ..
  pub merge-stop : w ≤ width → (width ≤ w) ⊎ (i ≡ ea) ⊎ (j ≡ eb) → Merged before table a sa ea da b sb eb db out width w
  merge-stop h ends = let start : merged_start sa sb width ≡ sa + sb = omega (arith, M.at) in record {
    order = omega (arith, M.at);
    most = h;
    kept = M.written.kept;
    range = λ v p q. ranged v (v - (sa + sb)) (omega arith) (omega arith) q;
    band = λ asked f g D E. rw (start, M.at) (band-merge asked (width - 1) A B (row_at table out) sa ea sb eb M.n merged f g D E);
  }
    where
      stops : (width ≤ w) ⊎ (i ≡ ea) ⊎ (j ≡ eb) → (width - 1 < sa + sb + M.n) ⊎ (ea ≤ pointer_a A B sa sb M.n) ⊎ (eb ≤ pointer_b A B sa sb M.n)
      stops (inl k) = inl (omega (arith, M.at, I.columns))
      stops (inr (inl k)) = inr (inl (omega (arith, M.left)))
      stops (inr (inr k)) = inr (inr (omega (arith, M.right)))

      merged : MergedBand (width - 1) A B (row_at table out) sa ea sb eb M.n
      merged = record {
        within = M.within;
        entries = λ m k. M.written.done (sa + sb + m) (omega (arith, M.at)) (omega (arith, M.at)) m refl;
        most = omega (arith, M.at, I.columns);
        ends = stops ends;
      }

      ranged : (v m : ℕ) → v ≡ sa + sb + m → m < M.n → v < w → InRange merged_low (row_at table out v)
      ranged v m e k q =
          let (x, y) = M.within m k in
          subst (InRange merged_low) (sym (M.written.done v q (omega arith) m e))
          (range-min merged_low (A (pointer_a A B sa sb m)) (B (pointer_b A B sa sb m)) (I.range-a (pointer_a A B sa sb m) (omega arith) x)
          (I.range-b (pointer_b A B sa sb m) (omega arith) y))

  -- .. and where it ends with them, or begins behind them.
  pub merge-last : width ≤ w → Merged before table a sa ea da b sb eb db out width width
  merge-last h = go (dec_le w width)
    where
      go : Dec (w ≤ width) → Merged before table a sa ea da b sb eb db out width width
      go (yes k) = let e : w ≡ width = omega arith in rw e at (merge-stop k (inl h))
      go (no k) =
          let none : M.n ≡ 0 = behind M.most in
          let start : merged_start sa sb width ≡ width = omega (arith, M.at) in
          record {
            order = omega arith;
            most = omega arith;
            kept = M.written.kept;
            range = λ v p q. absurd (omega arith);
            band = λ asked f g D E. rw start (record {
              order = omega arith;
              most = omega (arith, I.columns);
              front = λ t q. omega (arith, M.at, D.front t q, E.front t q);
              rest = λ t q b. absurd (omega (arith, M.at, D.front t q, E.front t q, I.columns));
              inside = λ v p q. absurd (omega arith);
            });
          }
        where
          behind : (w ≤ width) ⊎ (M.n ≡ 0) → M.n ≡ 0
          behind (inl p) = absurd (omega arith)
          behind (inr p) = p

-- spend: from the last column down to c + i the entries are the later of two, the others stay.
pub record Spending (before : List ℤ) (from out start end c d : ℕ) (table : List ℤ) (i : ℕ) : Type 0 where
  pub most : i ≤ end
  pub kept : KeptOutside before table out (c + end)
  pub done : (v : ℕ) → c + start ≤ v → c + i ≤ v → v < c + end → row_at table out v ≡ max_z (row_at before out v) (over_delay before from d (v - c))
  pub rest : (v : ℕ) → (v < c + start) ⊎ (v < c + i) → row_at table out v ≡ row_at before out v

module _ {before table : List ℤ} {from out start end c d n i : ℕ} (I : SpendIn before from out start end c d) (S : Spending before from out start end c d table n)
    (one : n ≡ suc i) (h : start ≤ i) where
  pub spend_from : row_at table from i ≡ row_at before from i
  spend_from = S.kept.others (from + i) (λ v k e. I.apart v k i (omega (arith, S.most)) (sym e))

  pub spend_out : row_at table out (c + i) ≡ row_at before out (c + i)
  spend_out = S.rest (c + i) (inr (omega arith))

  pub spend_in_from : InRange merged_low (over_delay before from d i)
  spend_in_from = I.range-from i h (omega (arith, S.most))

  pub spend_in_out : InRange max_entry (row_at before out (c + i))
  spend_in_out = I.range_out (c + i) (omega arith) (omega (arith, S.most))

  wider : (v : ℕ) → (v < c + start) ⊎ (v < c + i) → (v < c + start) ⊎ (v < c + n)
  wider v (inl k) = inl k
  wider v (inr k) = inr (omega arith)

  module _ {x y : ℤ} (ex : x ≡ over_delay before from d i) (ey : y ≡ row_at before out (c + i)) where
    place : c + i - c ≡ i
    place = omega arith

    pub spend_better : le_z y x ≡ true → Spending before from out start end c d (set table (out + (c + i)) x) i
    spend_better t = record {
      most = omega (arith, S.most);
      kept = record {
        long = length-set table (out + (c + i)) x ∙ S.kept.long;
        others = λ m o. get_or-set_other table (out + (c + i)) m x (pos 0) (o (c + i) (omega (arith, S.most))) ∙ S.kept.others m o;
      };
      done = λ v a k b. entry v a k b (same_or (c + i) v);
      rest = λ v o. get_or-set_other table (out + (c + i)) (out + v) x (pos 0) (λ e. before_it v o e) ∙ S.rest v (wider v o);
    }
      where
        e : le_z (row_at before out (c + i)) (over_delay before from d i) ≡ true
        e = rw (ex, ey) at t

        before_it : (v : ℕ) → (v < c + start) ⊎ (v < c + i) → out + v ≡ out + (c + i) → ⊥
        before_it v (inl k) q = omega arith
        before_it v (inr k) q = omega arith

        entry : (v : ℕ) → c + start ≤ v → c + i ≤ v → v < c + end → (v ≡ c + i) ⊎ (v ≡ c + i → ⊥)
            → row_at (set table (out + (c + i)) x) out v ≡ max_z (row_at before out v) (over_delay before from d (v - c))
        entry v a k b (inl q) = rw q (get_or-set_same table (out + (c + i)) x (pos 0) (omega (arith, S.kept.long, S.most, I.out_in)) ∙ rw (place, e) ex)
        entry v a k b (inr n) = get_or-set_other table (out + (c + i)) (out + v) x (pos 0) (λ q. n (omega arith)) ∙ S.done v a (omega arith) b

    pub spend_worse : le_z y x ≡ false → Spending before from out start end c d table i
    spend_worse t = record {
      most = omega (arith, S.most);
      kept = S.kept;
      done = λ v a k b. entry v a k b (same_or (c + i) v);
      rest = λ v o. S.rest v (wider v o);
    }
      where
        e : le_z (row_at before out (c + i)) (over_delay before from d i) ≡ false
        e = rw (ex, ey) at t

        entry : (v : ℕ) → c + start ≤ v → c + i ≤ v → v < c + end → (v ≡ c + i) ⊎ (v ≡ c + i → ⊥)
            → row_at table out v ≡ max_z (row_at before out v) (over_delay before from d (v - c))
        entry v a k b (inl q) = rw q (spend_out ∙ rw (place, e) refl)
        entry v a k b (inr n) = S.done v a (omega arith) b

pub spend_end : {before table : List ℤ} {from out start end c d i : ℕ} → SpendIn before from out start end c d → Spending before from out start end c d table i → i ≤ start
    → Spent before table from out start end c d
spend_end {before} {table} {from} {out} {start} {end} {c} {d} {i} I S h = record {
  kept = S.kept;
  range = λ v a b. subst (InRange max_entry) (sym (S.done v a (omega arith) b))
      (range-max (row_at before out v) (over_delay before from d (v - c)) (I.range_out v a b) (I.range-from (v - c) (omega arith) (omega arith)));
  better = λ v a b. S.done v a (omega arith) b;
  others = others;
}
  where
    others : (v : ℕ) → (v < c + start) ⊎ (c + end ≤ v) → row_at table out v ≡ row_at before out v
    others v (inl k) = S.rest v (inl k)
    others v (inr k) = S.kept.others (out + v) (λ u p q. omega arith)

-- raise: each entry is the latest of those up to it.
abbrev pub raised_to : (ℕ → ℤ) → ℕ → ℤ
raised_to A zero = A 0
raised_to A (suc w) = max_z (raised_to A w) (A (suc w))

pub record Raising (before : List ℤ) (row top : ℕ) (table : List ℤ) (best : ℤ) (w : ℕ) : Type 0 where
  pub written : Written (λ v z. z ≡ raised_to (row_at before row) v) before row top table w
  pub range : InRange max_entry best
  pub first : w ≡ 0 → best ≡ never
  pub later : (v : ℕ) → w ≡ suc v → best ≡ raised_to (row_at before row) v

pub raise_start : {before : List ℤ} {row top : ℕ} → Raising before row top before never 0
raise_start = record { written = written_start 0 (λ v h. absurd (omega arith)); range = never-range; first = λ e. refl; later = λ v e. absurd (omega arith) }

never-least : (z : ℤ) → InRange max_entry z → le_z never z ≡ true
unfolding up down
never-least z r = true_le never z (omega (arith, r.below))

module _ {before table : List ℤ} {row top w : ℕ} {best : ℤ} (I : RaiseIn before row top) (S : Raising before row top table best w) (h : w < top) where
  pub raise_read : row_at table row w ≡ row_at before row w
  raise_read = S.written.rest w (omega arith)

  module _ {x : ℤ} (ex : x ≡ row_at before row w) where
    value : (b : Bool) → le_z best x ≡ b → cond b x best ≡ raised_to (row_at before row) w
    value b t = go w refl
      where
        go : (v : ℕ) → w ≡ v → cond b x best ≡ raised_to (row_at before row) v
        go zero e =
            let n = never-least (row_at before row w) (I.range w (omega arith) h) in
            let m : le_z best x ≡ true = rw (ex, S.first e) n in
            let c : b ≡ true = sym t ∙ m in
            rw c (rw e at ex)
        go (suc v) e = rw (← S.later v e, ← t) (rw (← rw e at ex) refl)

    pub raise_best : le_z best x ≡ true → Raising before row top table x (w + 1)
    raise_best t = record {
      written = written_same S.written (sym ex ∙ value true t);
      range = subst (InRange max_entry) (sym ex) (I.range w (omega arith) h);
      first = λ e. absurd (omega arith);
      later = λ v e. let same : v ≡ w = omega arith in rw same (value true t);
    }

    pub raise_keep : le_z best x ≡ false → Raising before row top (set table (row + w) best) best (w + 1)
    raise_keep t = record {
      written = written-more S.written h I.row_in (value false t);
      range = S.range;
      first = λ e. absurd (omega arith);
      later = λ v e. let same : v ≡ w = omega arith in rw same (value false t);
    }

pub raise_end : {before table : List ℤ} {row top w : ℕ} {best : ℤ} → RaiseIn before row top → Raising before row top table best w → top ≤ w → RaisedRow before table row top
raise_end {before} {table} {row} {top} I S h = record {
  kept = S.written.kept;
  range = λ v a b. subst (InRange max_entry) (sym (entry v b)) (ranged v b);
  raised = record {
    first = λ k. entry 0 k;
    next = λ v a k. entry (suc v) k ∙ ap (λ z. max_z z (row_at before row (suc v))) (sym (entry v (omega arith)));
  };
}
  where
    entry : (v : ℕ) → v < top → row_at table row v ≡ raised_to (row_at before row) v
    entry v k = S.written.done v (omega arith) k

    ranged : (v : ℕ) → v < top → InRange max_entry (raised_to (row_at before row) v)
    ranged zero k = I.range 0 (omega arith) k
    ranged (suc v) k = range-max (raised_to (row_at before row) v) (row_at before row (suc v)) (ranged v (omega arith))
        (range-more (row_at before row (suc v)) (I.range (suc v) (omega arith) k))

-- first_column: the column lies between `low` and `high`.
pub record Halving (A : ℕ → ℤ) (start end : ℕ) (t : ℤ) (low high : ℕ) : Type 0 where
  pub begun : start ≤ low
  pub ordered : low ≤ high
  pub inside : high ≤ end
  pub reaches : high < end → le_z t (A high) ≡ true
  pub before : (w : ℕ) → start ≤ w → suc w ≡ low → le_z t (A w) ≡ false

-- cut.
pub cut_empty : {table : List ℤ} {row top c : ℕ} {early early' late : ℤ} → early' ≡ early → FirstIn (row_at table row) 0 top early' c → top ≤ c → Cut table row top early late top top
cut_empty {table} {row} {top} {c} {early} q G h = let F : FirstIn (row_at table row) 0 top early c = rw q at G in let e : c ≡ top = omega (arith, F.top_in) in record {
  order = omega arith;
  most = omega arith;
  band = λ asked hi f from-early to-late D. rw e at (band-front asked hi (row_at table row) 0 top f D early from-early c F);
}

pub cut_some : {table : List ℤ} {row top s n c : ℕ} {early early' late target : ℤ} → early' ≡ early → FirstIn (row_at table row) 0 top early' s → s < top → n ≡ top - 1
    → target ≡ min_z late (row_at table row n) → FirstIn (row_at table row) s top target c → Cut table row top early late s (c + 1)
cut_some {table} {row} {top} {s} {n} {c} {early} {late = late} p E h e q G =
    let F : FirstIn (row_at table row) 0 top early s = rw p at E in
    let last : suc n ≡ top = omega arith in
    let low : s ≤ n = omega arith in
    let H : FirstIn (row_at table row) s top (min_z late (row_at table row n)) c = rw q at G in
    rw (add-one c) (record {
      order = omega (arith, G.low_in);
      most = end_inner (row_at table row) s top n c late last low H;
      band = λ asked hi f from-early to-late D. band_end asked hi (row_at table row) s top f (band-front asked hi (row_at table row) 0 top f D early from-early s F)
          late to-late n last low c H;
    })

-- The column lies so at the start of the loop, in each half, and, where one place is left, is that place.
module _ {A : ℕ → ℤ} {start end : ℕ} {t : ℤ} where
  pub halving_start : start ≤ end → Halving A start end t start end
  halving_start h = record { begun = omega arith; ordered = h; inside = omega arith; reaches = λ k. absurd (omega arith); before = λ w a e. absurd (omega arith) }

  module _ {low high mid : ℕ} (here : Halving A start end t low high) (a : low ≤ mid) (b : mid < high) where
    pub halving_left : le_z t (A mid) ≡ true → Halving A start end t low mid
    halving_left e = record { begun = here.begun; ordered = a; inside = omega (arith, here.inside); reaches = λ h. e; before = here.before }

    pub halving_right : le_z t (A mid) ≡ false → Halving A start end t (mid + 1) high
    halving_right e = record {
      begun = omega (arith, here.begun);
      ordered = omega arith;
      inside = here.inside;
      reaches = here.reaches;
      before = λ w k s. let same : w ≡ mid = omega arith in rw same e;
    }

  pub halving_end : {low high : ℕ} → Halving A start end t low high → high ≤ low → FirstIn A start end t low
  halving_end {low} {high} here h = let meet : high ≡ low = omega (arith, here.ordered) in record {
    low_in = here.begun;
    top_in = omega (arith, here.inside, here.ordered);
    reaches = λ k. rw meet at (here.reaches (omega arith));
    before = here.before;
  }
