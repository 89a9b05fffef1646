-- Rows only over the columns that matter. A stage is reached, whatever the layers, at times of a window only; a row is asked of no other time. So it needs
-- only the columns from `start` to before `end`: with less than `start` no time that is asked is kept, and what is not kept before `end` is kept with no
-- budget up to hi. Every step of the search keeps this: a leaf, a branch over a delay and under a limit, two branches merged by two pointers
-- (source 001, section 4.2.2), the best of the layers at their costs, and leaving columns out in front and behind.
use Rattle.std.specs.Prelude.{◌≡◌, refl, Bool, ◌&&◌, ◌||◌, ◌⊎◌, ◌↔◌, List, [], ◌∷◌, leb, ℤ, pos, ◌+ℤ◌, ◌-ℤ◌, if◌then◌else◌}
use Rattle.std.proofs.Common.{ap, sym, ◌∙◌, inl, inr, arith, leb-true, leb-false, le-leb}
use Rattle.std.proofs.Math.Bool.{true, false}
use Prim.Native.Nat.{ℕ, zero, suc, ◌+◌, ◌*◌, ◌-◌, ◌≤◌, ◌<◌, min}
use Rattle.std.proofs.Math.Decide.{dec_le}
use Rattle.std.specs.Int.Signed.{le_z}
use Rattle.std.proofs.lemmas.Bool.{lt-leb}
use Rattle.laws.specs.Basic.{min_z, least_of}
use Rattle.laws.specs.Booleans.{both, leb-same}
use Rattle.laws.specs.Integers.{le_true, le_false, false_le, adjoint, le_min_z, le_trans, min-right, all_le, le_least_z}
use Rattle.laws.specs.Extremes.{max_z, le_max_z}
use Rattle.laws.specs.Lists.{Some}
use Rattle.oracle.specs.Timing.{late_count, none-late}

-- The times that are asked, by a test; a row has columns up to hi at most.
module _ (asked : ℤ → Bool) (hi : ℕ) where
  -- z is the entry for budget w: of the times asked, those up to z are those for which w is enough.
  abbrev pub EntryOn : (ℤ → ℕ) → ℕ → ℤ → Type 0
  EntryOn f w z = (t : ℤ) → asked t ≡ true → le_z t z ≡ leb (f t) w

  -- A limit r that function g stands for: 0 if it is kept, more than every budget if not.
  abbrev pub LimitOn : ℤ → (ℤ → ℕ) → Type 0
  LimitOn r g = (w : ℕ) → w ≤ hi → EntryOn g w r

  -- The columns of A from `start` to before `end` stand for f.
  pub record Band (A : ℕ → ℤ) (start end : ℕ) (f : ℤ → ℕ) : Type 0 where
    pub order : start ≤ end
    pub most : end ≤ suc hi
    pub front : (t : ℤ) → asked t ≡ true → start ≤ f t
    pub rest : (t : ℤ) → asked t ≡ true → f t ≤ hi → f t < end
    pub inside : (w : ℕ) → start ≤ w → w < end → EntryOn f w (A w)

  -- A row that is being made from its layers, with entries that may fall: no entry says too much, and the column that a time needs keeps it.
  pub record Marks (A : ℕ → ℤ) (low top : ℕ) (f : ℤ → ℕ) : Type 0 where
    pub sound : (w : ℕ) → low ≤ w → w < top → (t : ℤ) → asked t ≡ true → le_z t (A w) ≡ true → f t ≤ w
    pub met : (t : ℤ) → asked t ≡ true → f t ≤ hi → (low ≤ f t) × (f t < top) × (le_z t (A (f t)) ≡ true)

  -- Only the entries between matter, and functions that agree on the times asked as far as hi + 1.
  pub band-entries : (A B : ℕ → ℤ) (s e : ℕ) (f : ℤ → ℕ) → ((w : ℕ) → s ≤ w → w < e → B w ≡ A w) → Band A s e f → Band B s e f
  band-entries A B s e f same D = record {
    order = D.order;
    most = D.most;
    front = D.front;
    rest = D.rest;
    inside = λ w a b t q. ap (le_z t) (same w a b) ∙ D.inside w a b t q;
  }

  pub band-agree : (A : ℕ → ℤ) (s e : ℕ) (f g : ℤ → ℕ) → ((t : ℤ) → asked t ≡ true → min (f t) (suc hi) ≡ min (g t) (suc hi)) → Band A s e f → Band A s e g
  band-agree A s e f g same D = record {
    order = D.order;
    most = D.most;
    front = λ t q. omega (arith, same t q, D.front t q, D.order, D.most);
    rest = λ t q h. omega (arith, same t q, D.rest t q (omega (arith, same t q)));
    inside = λ w a b t q. D.inside w a b t q ∙ leb-same (f t) w (g t) w (λ k. omega (arith, same t q, D.most)) (λ k. omega (arith, same t q, D.most));
  }

  -- A time within a limit costs nothing, a later one more than every budget.
  pub limit_free : (r : ℤ) (g : ℤ → ℕ) → LimitOn r g → (t : ℤ) → asked t ≡ true → le_z t r ≡ true → g t ≡ 0
  limit_free r g L t q e = omega (arith, leb-true (g t) 0 (sym (L 0 (omega arith) t q) ∙ e))

  pub limit_late : (r : ℤ) (g : ℤ → ℕ) → LimitOn r g → (t : ℤ) → asked t ≡ true → le_z t r ≡ false → hi < g t
  limit_late r g L t q e = leb-false (g t) hi (sym (L hi (omega arith) t q) ∙ e)

  -- So it costs nothing where it costs no more than a budget.
  limit_kept : (r : ℤ) (g : ℤ → ℕ) → LimitOn r g → (t : ℤ) → asked t ≡ true → g t ≤ hi → g t ≡ 0
  limit_kept r g L t q h = limit_free r g L t q (L (g t) h t q ∙ le-leb (g t) (g t) (omega arith))

  -- The limit that several sinks set, the least of theirs: one that is late costs more than any budget.
  pub limit_sinks : (rs : List ℤ) → Some rs → LimitOn (least_of rs) (λ t. suc hi * late_count rs t)
  limit_sinks [] s = absurd s
  limit_sinks (r ∷ rs) s = λ w h t q. le_least_z t r rs ∙ go w h t (all_le t (r ∷ rs)) refl (none-late (r ∷ rs) t)
    where
      beyond : (w n : ℕ) → w ≤ hi → (n ≡ 0 → ⊥) → w < suc hi * n
      beyond w zero h k = absurd (k refl)
      beyond w (suc n) h k = omega arith

      go : (w : ℕ) → w ≤ hi → (t : ℤ) (b : Bool) → all_le t (r ∷ rs) ≡ b → (late_count (r ∷ rs) t ≡ 0) ↔ (all_le t (r ∷ rs) ≡ true)
          → all_le t (r ∷ rs) ≡ leb (suc hi * late_count (r ∷ rs) t) w
      go w h t true e k = let z = k.1 e in e ∙ sym (le-leb (suc hi * late_count (r ∷ rs) t) w (rw z (omega arith)))
      go w h t false e k =
          let some-late : late_count (r ∷ rs) t ≡ 0 → ⊥ = λ z. let a = k.0 z in let y : ◌≡◌ {A = ℕ} 0 1 = cc in omega arith in
          e ∙ sym (lt-leb (suc hi * late_count (r ∷ rs) t) w (beyond w (late_count (r ∷ rs) t) h some-late))

  -- A leaf: one column.
  pub band_leaf : (r : ℤ) (g : ℤ → ℕ) → LimitOn r g → Band (λ w. r) 0 1 g
  band_leaf r g L = record {
    order = omega arith;
    most = omega arith;
    front = λ t q. omega arith;
    rest = λ t q h. omega (arith, limit_kept r g L t q h);
    inside = λ w a b. L w (omega arith);
  }

  -- Under a limit.
  pub band_limit : (A : ℕ → ℤ) (s e : ℕ) (f : ℤ → ℕ) (r : ℤ) (g : ℤ → ℕ) → LimitOn r g → Band A s e f → Band (λ w. min_z (A w) r) s e (λ t. g t + f t)
  band_limit A s e f r g L D = record {
    order = D.order;
    most = D.most;
    front = λ t q. omega (arith, D.front t q);
    rest = λ t q h. omega (arith, limit_kept r g L t q (omega arith), D.rest t q (omega arith));
    inside = λ w a b t q. le_min_z t (A w) r ∙ go w (omega (arith, D.most)) t q (leb (f t) w) (leb (g t) w) refl refl (D.inside w a b t q) (L w (omega (arith, D.most)) t q);
  }
    where
      go : (w : ℕ) → w ≤ hi → (t : ℤ) → asked t ≡ true → (a b : Bool) → leb (f t) w ≡ a → leb (g t) w ≡ b → le_z t (A w) ≡ leb (f t) w → le_z t r ≡ leb (g t) w
          → le_z t (A w) && le_z t r ≡ leb (g t + f t) w
      go w h t q true true d e x y =
          rw (x, y, d, e, le-leb (g t + f t) w (omega (arith, limit_kept r g L t q (omega (arith, leb-true (g t) w e)), leb-true (f t) w d)))
      go w h t q true false d e x y = rw (x, y, d, e, lt-leb (g t + f t) w (omega (arith, leb-false (g t) w e)))
      go w h t q false b d e x y = rw (x, d, lt-leb (g t + f t) w (omega (arith, leb-false (f t) w d)))

-- Over a delay d, if the driven stage is asked whenever this one is.
pub band_shift : (asked below : ℤ → Bool) (hi d : ℕ) → ((t : ℤ) → asked t ≡ true → below (t +ℤ pos d) ≡ true)
    → (A : ℕ → ℤ) (s e : ℕ) (f : ℤ → ℕ) → Band below hi A s e f → Band asked hi (λ w. A w -ℤ pos d) s e (λ t. f (t +ℤ pos d))
band_shift asked below hi d pass A s e f D = record {
  order = D.order;
  most = D.most;
  front = λ t q. D.front (t +ℤ pos d) (pass t q);
  rest = λ t q. D.rest (t +ℤ pos d) (pass t q);
  inside = λ w a b t q. sym (adjoint t (A w) d) ∙ D.inside w a b (t +ℤ pos d) (pass t q);
}

-- With fewer budgets, up to `less`.
pub band-less : (asked : ℤ → Bool) (hi less : ℕ) → less ≤ hi → (A : ℕ → ℤ) (s e : ℕ) (f : ℤ → ℕ) → Band asked hi A s e f
    → Band asked less A (min s (suc less)) (min e (suc less)) f
band-less asked hi less h A s e f D = record {
  order = omega (arith, D.order);
  most = omega arith;
  front = λ t q. omega (arith, D.front t q);
  rest = λ t q k. omega (arith, D.rest t q (omega arith));
  inside = λ w a b. D.inside w (omega arith) (omega arith);
}

-- Two pointers: the one with the lesser entry steps.
abbrev pub advance : Bool → ℕ × ℕ → ℕ × ℕ
advance true p = (suc p.0, p.1)
advance false p = (p.0, suc p.1)

-- Where they stand after w steps from the front of two rows.
unfoldable pub pointers : (A B : ℕ → ℤ) → ℕ → ℕ × ℕ
pointers A B zero = (0, 0)
pointers A B (suc w) = let p = pointers A B w in advance (le_z (A p.0) (B p.1)) p

-- Two rows merged: the lesser of the entries at which the pointers stand (source 001, section 4.2.2 and Lemma 1).
abbrev pub merge : (ℕ → ℤ) → (ℕ → ℤ) → ℕ → ℤ
merge A B w = min_z (A (pointers A B w).0) (B (pointers A B w).1)

-- The two pointers stand at w together.
pointers-sum : (A B : ℕ → ℤ) (w : ℕ) → (pointers A B w).0 + (pointers A B w).1 ≡ w
unfolding pointers
pointers-sum A B zero = refl
pointers-sum A B (suc w) = go (le_z (A (pointers A B w).0) (B (pointers A B w).1)) (pointers A B w) (pointers-sum A B w)
  where
    go : (b : Bool) (p : ℕ × ℕ) → p.0 + p.1 ≡ w → (advance b p).0 + (advance b p).1 ≡ suc w
    go true p e = omega arith
    go false p e = omega arith

-- A row from column s on.
abbrev pub from_column : ℕ → (ℕ → ℤ) → ℕ → ℤ
from_column s A u = A (s + u)

-- Where the two pointers stand after n steps, in the columns of A and B.
abbrev pub pointer_a : (A B : ℕ → ℤ) (sa sb : ℕ) → ℕ → ℕ
pointer_a A B sa sb n = sa + (pointers (from_column sa A) (from_column sb B) n).0

abbrev pub pointer_b : (A B : ℕ → ℤ) (sa sb : ℕ) → ℕ → ℕ
pointer_b A B sa sb n = sb + (pointers (from_column sa A) (from_column sb B) n).1

-- The columns of C from sa + sb on hold the first n entries of the merge, for which the pointers are inside, and no more are needed.
pub record MergedBand (hi : ℕ) (A B C : ℕ → ℤ) (sa ea sb eb n : ℕ) : Type 0 where
  pub within : (m : ℕ) → m < n → (pointer_a A B sa sb m < ea) × (pointer_b A B sa sb m < eb)
  pub entries : (m : ℕ) → m < n → C (sa + sb + m) ≡ merge (from_column sa A) (from_column sb B) m
  pub most : sa + sb + n ≤ suc hi
  pub ends : (hi < sa + sb + n) ⊎ (ea ≤ pointer_a A B sa sb n) ⊎ (eb ≤ pointer_b A B sa sb n)

-- Merging: two pointers begin at the two first columns; the entry for their sum is the lesser of the two, and the pointer with the lesser entry steps. It
-- ends at the last column, or where one band has no more to give.
module _ (asked : ℤ → Bool) (hi : ℕ) where
  -- At no time asked is one pointer past what f or g asks for while the other is short of it.
  abbrev pub WalkOn : (f g : ℤ → ℕ) → ℕ → ℕ → Type 0
  WalkOn f g u v = (t : ℤ) → asked t ≡ true → (u < f t → v ≤ g t) × (v < g t → u ≤ f t)

  module _ (x y : ℤ) (f g : ℤ → ℕ) (u v : ℕ) (D : EntryOn asked hi f u x) (E : EntryOn asked hi g v y) (here : WalkOn f g u v) where
    late-left : (t : ℤ) → asked t ≡ true → le_z x y ≡ true → v < g t → u < f t
    late-left t q e a =
        let b = le_false t y (E t q ∙ lt-leb (g t) v a) in
        leb-false (f t) u (sym (D t q) ∙ false_le t x (omega (arith, le_true x y e)))

    late-right : (t : ℤ) → asked t ≡ true → le_z x y ≡ false → u < f t → v < g t
    late-right t q e a =
        let b = le_false t x (D t q ∙ lt-leb (f t) u a) in
        leb-false (g t) v (sym (E t q) ∙ false_le t y (omega (arith, le_false x y e)))

    walk-on : (b : Bool) → le_z x y ≡ b → WalkOn f g (advance b (u, v)).0 (advance b (u, v)).1
    walk-on true e t q = ((λ a. (here t q).0 (omega arith)), (λ a. late-left t q e a))
    walk-on false e t q = ((λ a. late-right t q e a), (λ a. (here t q).1 (omega arith)))

    walk-entry : EntryOn asked hi (λ t. f t + g t) (u + v) (min_z x y)
    walk-entry t q = rw (le_min_z t x y, D t q, E t q) (go (leb (f t) u) (leb (g t) v) refl refl)
      where
        go : (a b : Bool) → leb (f t) u ≡ a → leb (g t) v ≡ b → leb (f t) u && leb (g t) v ≡ leb (f t + g t) (u + v)
        go true true d e = rw (d, e, le-leb (f t + g t) (u + v) (omega (arith, leb-true (f t) u d, leb-true (g t) v e)))
        go true false d e = let k = leb-false (g t) v e in rw (d, e, lt-leb (f t + g t) (u + v) (omega (arith, (here t q).1 k)))
        go false b d e = let k = leb-false (f t) u d in rw (d, lt-leb (f t + g t) (u + v) (omega (arith, (here t q).0 k)))

  module _ (A B C : ℕ → ℤ) (sa ea sb eb n : ℕ) (M : MergedBand hi A B C sa ea sb eb n) (f g : ℤ → ℕ) (D : Band asked hi A sa ea f) (E : Band asked hi B sb eb g) where
    walk-to : (m : ℕ) → m ≤ n → WalkOn f g (pointer_a A B sa sb m) (pointer_b A B sa sb m)
    unfolding pointers
    walk-to zero h = λ t q. omega (arith, D.front t q, E.front t q)
    walk-to (suc m) h = go (pointers (from_column sa A) (from_column sb B) m) (walk-to m (omega arith)) (M.within m (omega arith))
      where
        go : (p : ℕ × ℕ) → WalkOn f g (sa + p.0) (sb + p.1) → (sa + p.0 < ea) × (sb + p.1 < eb)
            → WalkOn f g (sa + (advance (le_z (A (sa + p.0)) (B (sb + p.1))) p).0) (sb + (advance (le_z (A (sa + p.0)) (B (sb + p.1))) p).1)
        go p walk (a, b) = one (le_z (A (sa + p.0)) (B (sb + p.1))) (walk-on (A (sa + p.0)) (B (sb + p.1)) f g (sa + p.0) (sb + p.1)
            (D.inside (sa + p.0) (omega arith) a) (E.inside (sb + p.1) (omega arith) b) walk (le_z (A (sa + p.0)) (B (sb + p.1))) refl)
          where
            one : (c : Bool) → WalkOn f g (advance c (sa + p.0, sb + p.1)).0 (advance c (sa + p.0, sb + p.1)).1 → WalkOn f g (sa + (advance c p).0) (sb + (advance c p).1)
            one true k t q = ((λ a. omega (arith, (k t q).0 (omega arith))), (λ a. omega (arith, (k t q).1 (omega arith))))
            one false k t q = ((λ a. omega (arith, (k t q).0 (omega arith))), (λ a. omega (arith, (k t q).1 (omega arith))))

    -- Branches add.
    pub band-merge : Band asked hi C (sa + sb) (sa + sb + n) (λ t. f t + g t)
    band-merge = record {
      order = omega arith;
      most = M.most;
      front = λ t q. omega (arith, D.front t q, E.front t q);
      rest = λ t q h. last t q h (walk-to n (omega arith) t q) M.ends;
      inside = λ w a b t q. let e : sa + sb + (w - (sa + sb)) ≡ w = omega arith in rw e at (entry (w - (sa + sb)) (omega arith) t q);
    }
      where
        total : (m : ℕ) → pointer_a A B sa sb m + pointer_b A B sa sb m ≡ sa + sb + m
        total m = omega (arith, pointers-sum (from_column sa A) (from_column sb B) m)

        last : (t : ℤ) → asked t ≡ true → f t + g t ≤ hi
            → (pointer_a A B sa sb n < f t → pointer_b A B sa sb n ≤ g t) × (pointer_b A B sa sb n < g t → pointer_a A B sa sb n ≤ f t)
            → (hi < sa + sb + n) ⊎ (ea ≤ pointer_a A B sa sb n) ⊎ (eb ≤ pointer_b A B sa sb n) → f t + g t < sa + sb + n
        last t q h walk (inl a) = omega arith
        last t q h walk (inr (inl a)) = go (dec_le (g t) (pointer_b A B sa sb n))
          where
            go : Dec (g t ≤ pointer_b A B sa sb n) → f t + g t < sa + sb + n
            go (yes k) = omega (arith, D.rest t q (omega arith), total n)
            go (no k) = omega (arith, D.rest t q (omega arith), walk.1 (omega arith))
        last t q h walk (inr (inr a)) = go (dec_le (f t) (pointer_a A B sa sb n))
          where
            go : Dec (f t ≤ pointer_a A B sa sb n) → f t + g t < sa + sb + n
            go (yes k) = omega (arith, E.rest t q (omega arith), total n)
            go (no k) = omega (arith, E.rest t q (omega arith), walk.0 (omega arith))

        entry : (m : ℕ) → m < n → EntryOn asked hi (λ t. f t + g t) (sa + sb + m) (C (sa + sb + m))
        entry m h t q =
            let u = pointer_a A B sa sb m in
            let v = pointer_b A B sa sb m in
            let (a, b) = M.within m h in
            ap (le_z t) (M.entries m h)
            ∙ walk-entry (A u) (B v) f g u v (D.inside u (omega arith) a) (E.inside v (omega arith) b) (walk-to m (omega arith)) t q
            ∙ ap (leb (f t + g t)) (total m)

-- The best of the layers, each at its cost: the row is made of marks, then raised from left to right.
module _ (asked : ℤ → Bool) (hi : ℕ) where
  -- Columns more, up to before m, in which no time asked is kept.
  pub marks-more : (A B : ℕ → ℤ) (low top m : ℕ) (f : ℤ → ℕ) → top ≤ m → ((w : ℕ) → w < top → B w ≡ A w)
      → ((w : ℕ) → top ≤ w → w < m → (t : ℤ) → asked t ≡ true → le_z t (B w) ≡ false) → Marks asked hi A low top f → Marks asked hi B low m f
  marks-more A B low top m f h same none M = record {
    sound = λ w a b t q e. sound w a b t q e (dec_le top w);
    met = λ t q k. let (a, b, e) = M.met t q k in (a, omega arith, ap (le_z t) (same (f t) b) ∙ e);
  }
    where
      sound : (w : ℕ) → low ≤ w → w < m → (t : ℤ) → asked t ≡ true → le_z t (B w) ≡ true → Dec (top ≤ w) → f t ≤ w
      sound w a b t q e (yes k) = let z = none w k b t q in let y : ◌≡◌ {A = ℕ} 0 1 = cc in absurd (omega arith)
      sound w a b t q e (no k) = M.sound w a (omega arith) t q (sym (ap (le_z t) (same w (omega arith))) ∙ e)

  -- Functions that agree as far as hi + 1.
  pub marks-agree : (A : ℕ → ℤ) (low top : ℕ) (f g : ℤ → ℕ) → top ≤ suc hi → ((t : ℤ) → asked t ≡ true → min (f t) (suc hi) ≡ min (g t) (suc hi))
      → Marks asked hi A low top f → Marks asked hi A low top g
  marks-agree A low top f g most same M = record {
    sound = λ w a b t q e. omega (arith, same t q, M.sound w a b t q e);
    met = λ t q h. let e : f t ≡ g t = omega (arith, same t q) in rw e at (M.met t q (omega arith));
  }

  -- What a layer with the band B at cost c makes of row A: the entries of its columns become the later of two, the others stay.
  pub record SpentBand (A B C : ℕ → ℤ) (low top s e c : ℕ) : Type 0 where
    pub low_in : low ≤ c + s
    pub top_in : c + e ≤ top
    pub better : (w : ℕ) → c + s ≤ w → w < c + e → w < top → C w ≡ max_z (A w) (B (w - c))
    pub others : (w : ℕ) → (w < c + s) ⊎ (c + e ≤ w) → C w ≡ A w

  module _ (A B C : ℕ → ℤ) (low top s e c : ℕ) (S : SpentBand A B C low top s e c) where
    -- Where an entry of C is, and that it is no earlier than A's.
    spent_cases : (w : ℕ) → w < top → ((c + s ≤ w) × (w < c + e) × (C w ≡ max_z (A w) (B (w - c)))) ⊎ (C w ≡ A w)
    spent_cases w h = go (dec_le (c + s) w) (dec_le (c + e) w)
      where
        go : Dec (c + s ≤ w) → Dec (c + e ≤ w) → ((c + s ≤ w) × (w < c + e) × (C w ≡ max_z (A w) (B (w - c)))) ⊎ (C w ≡ A w)
        go (yes a) (yes b) = inr (S.others w (inr b))
        go (yes a) (no b) = inl (a, omega arith, S.better w a (omega arith) h)
        go (no a) b = inr (S.others w (inl (omega arith)))

    spent_keeps : (w : ℕ) → w < top → (t : ℤ) → le_z t (A w) ≡ true → le_z t (C w) ≡ true
    spent_keeps w h t k = go (spent_cases w h)
      where
        go : ((c + s ≤ w) × (w < c + e) × (C w ≡ max_z (A w) (B (w - c)))) ⊎ (C w ≡ A w) → le_z t (C w) ≡ true
        go (inl (a, b, q)) = ap (le_z t) q ∙ le_max_z t (A w) (B (w - c)) ∙ rw k refl
        go (inr q) = ap (le_z t) q ∙ k

    pub marks_spend : (f g : ℤ → ℕ) → c ≤ hi → Marks asked hi A low top f → Band asked (hi - c) B s e g → Marks asked hi C low top (λ t. min (f t) (c + g t))
    marks_spend f g paid M D = record { sound = λ w a b t q k. sound w a b t q k (spent_cases w b); met = λ t q h. met t q h (dec_le (f t) (c + g t)) }
      where
        either : (a b : Bool) → a || b ≡ true → (a ≡ true) ⊎ (b ≡ true)
        either true b e = inl refl
        either false b e = inr e

        sound : (w : ℕ) → low ≤ w → w < top → (t : ℤ) → asked t ≡ true → le_z t (C w) ≡ true
            → ((c + s ≤ w) × (w < c + e) × (C w ≡ max_z (A w) (B (w - c)))) ⊎ (C w ≡ A w) → min (f t) (c + g t) ≤ w
        sound w a b t q k (inr e) = omega (arith, M.sound w a b t q (sym (ap (le_z t) e) ∙ k))
        sound w a b t q k (inl (x, y, e)) = go (either (le_z t (A w)) (le_z t (B (w - c))) (sym (ap (le_z t) e ∙ le_max_z t (A w) (B (w - c))) ∙ k))
          where
            go : (le_z t (A w) ≡ true) ⊎ (le_z t (B (w - c)) ≡ true) → min (f t) (c + g t) ≤ w
            go (inl z) = omega (arith, M.sound w a b t q z)
            go (inr z) = omega (arith, leb-true (g t) (w - c) (sym (D.inside (w - c) (omega arith) (omega arith) t q) ∙ z))

        met : (t : ℤ) → asked t ≡ true → min (f t) (c + g t) ≤ hi → Dec (f t ≤ c + g t)
            → (low ≤ min (f t) (c + g t)) × (min (f t) (c + g t) < top) × (le_z t (C (min (f t) (c + g t))) ≡ true)
        met t q h (yes k) =
            let m : min (f t) (c + g t) ≡ f t = omega arith in
            let (a, b, e) = M.met t q (omega arith) in
            rw m (a, b, spent_keeps (f t) b t e)
        met t q h (no k) =
            let m : min (f t) (c + g t) ≡ c + g t = omega arith in
            let a = D.front t q in
            let b = D.rest t q (omega arith) in
            let n : c + g t < top = omega (arith, S.top_in) in
            let z : c + g t - c ≡ g t = omega arith in
            let own : le_z t (B (c + g t - c)) ≡ true = rw z (D.inside (g t) a b t q ∙ le-leb (g t) (g t) (omega arith)) in
            rw m (omega (arith, S.low_in), n, ap (le_z t) (S.better (c + g t) (omega arith) (omega arith) n) ∙ le_max_z t (A (c + g t)) (B (c + g t - c)) ∙ right (le_z t (A (c + g t))) own)
          where
            right : (a : Bool) {b : Bool} → b ≡ true → a || b ≡ true
            right true e = refl
            right false e = e

-- R is row A raised from left to right, from column low to before column top: no entry is earlier than the one before it.
pub record Raised (A R : ℕ → ℤ) (low top : ℕ) : Type 0 where
  pub first : low < top → R low ≡ A low
  pub next : (w : ℕ) → low ≤ w → suc w < top → R (suc w) ≡ max_z (R w) (A (suc w))

module _ (asked : ℤ → Bool) (hi : ℕ) (A R : ℕ → ℤ) (low top : ℕ) (f : ℤ → ℕ) (M : Marks asked hi A low top f) (U : Raised A R low top)
    (order : low ≤ top) (most : top ≤ suc hi) where
  mark_is : (w : ℕ) → low ≤ w → w < top → (t : ℤ) → asked t ≡ true → w ≤ f t → le_z t (A w) ≡ leb (f t) w
  mark_is w a b t q h = both (le_z t (A w)) (leb (f t) w) (λ e. le-leb (f t) w (M.sound w a b t q e))
      (λ e. let k : f t ≡ w = omega (arith, leb-true (f t) w e) in rw k at (M.met t q (omega arith)).2)

  front : (t : ℤ) → asked t ≡ true → Dec (f t ≤ hi) → low ≤ f t
  front t q (yes h) = (M.met t q h).0
  front t q (no h) = omega arith

  raised-from : (n : ℕ) → low + n < top → EntryOn asked hi f (low + n) (R (low + n))
  raised-from zero h t q =
      let e : low + 0 ≡ low = omega arith in
      rw e (ap (le_z t) (U.first (omega arith)) ∙ mark_is low (omega arith) (omega arith) t q (front t q (dec_le (f t) hi)))
  raised-from (suc n) h t q =
      let e : low + suc n ≡ suc (low + n) = omega arith in
      rw e (ap (le_z t) (U.next (low + n) (omega arith) (omega arith)) ∙ le_max_z t (R (low + n)) (A (suc (low + n)))
      ∙ go (leb (f t) (low + n)) refl (raised-from n (omega arith) t q))
    where
      go : (b : Bool) → leb (f t) (low + n) ≡ b → le_z t (R (low + n)) ≡ leb (f t) (low + n) → le_z t (R (low + n)) || le_z t (A (suc (low + n))) ≡ leb (f t) (suc (low + n))
      go true d x = rw (x, d) (sym (le-leb (f t) (suc (low + n)) (omega (arith, leb-true (f t) (low + n) d))))
      go false d x = rw (x, d) (mark_is (suc (low + n)) (omega arith) (omega arith) t q (omega (arith, leb-false (f t) (low + n) d)))

  pub band-raised : Band asked hi R low top f
  band-raised = record {
    order = order;
    most = most;
    front = λ t q. front t q (dec_le (f t) hi);
    rest = λ t q h. (M.met t q h).1;
    inside = λ w a b t q. let e : low + (w - low) ≡ w = omega arith in rw e at (raised-from (w - low) (omega arith) t q);
  }

-- c is a first column from `low` to before `top` that keeps t, or `top` if there is none, as halving finds it: its entry does, the one before it does not.
pub record FirstIn (A : ℕ → ℤ) (low top : ℕ) (t : ℤ) (c : ℕ) : Type 0 where
  pub low_in : low ≤ c
  pub top_in : c ≤ top
  pub reaches : c < top → le_z t (A c) ≡ true
  pub before : (w : ℕ) → low ≤ w → suc w ≡ c → le_z t (A w) ≡ false

-- The last column keeps what it keeps.
pub end_inner : (A : ℕ → ℤ) (low top n c : ℕ) (late : ℤ) → suc n ≡ top → low ≤ n → FirstIn A low top (min_z late (A n)) c → c < top
end_inner A low top n c late e h F = go (dec_le top c)
  where
    go : Dec (top ≤ c) → c < top
    go (no k) = omega arith
    go (yes k) =
        let x = F.before n h (omega (arith, F.top_in)) in
        let y = min-right late (A n) in
        let z : ◌≡◌ {A = ℕ} 0 1 = cc in
        absurd (omega arith)

-- Columns left out. Every time asked lies from `early` to `late`.
module _ (asked : ℤ → Bool) (hi : ℕ) (A : ℕ → ℤ) (low top : ℕ) (f : ℤ → ℕ) (D : Band asked hi A low top f) where
  -- In front, where no time from `early` on is kept.
  pub band-front : (early : ℤ) → ((t : ℤ) → asked t ≡ true → le_z early t ≡ true) → (s : ℕ) → FirstIn A low top early s → Band asked hi A s top f
  band-front early from-early s F = record {
    order = F.top_in;
    most = D.most;
    front = λ t q. after t q (s - low) (omega (arith, F.low_in));
    rest = D.rest;
    inside = λ w a b. D.inside w (omega (arith, F.low_in)) b;
  }
    where
      after : (t : ℤ) → asked t ≡ true → (n : ℕ) → low + n ≡ s → s ≤ f t
      after t q zero e = omega (arith, D.front t q)
      after t q (suc n) e =
          let z = le_false early (A (low + n)) (F.before (low + n) (omega arith) (omega arith)) in
          let x : le_z t (A (low + n)) ≡ false = false_le t (A (low + n)) (omega (arith, le_true early t (from-early t q))) in
          omega (arith, leb-false (f t) (low + n) (sym (D.inside (low + n) (omega arith) (omega (arith, F.top_in)) t q) ∙ x))

  -- Behind the first column that keeps `late`, or that keeps as much as the last column does.
  pub band_end : (late : ℤ) → ((t : ℤ) → asked t ≡ true → le_z t late ≡ true) → (n : ℕ) → suc n ≡ top → low ≤ n → (c : ℕ) → FirstIn A low top (min_z late (A n)) c
      → Band asked hi A low (suc c) f
  band_end late to-late n e h c F = record {
    order = omega (arith, F.low_in);
    most = omega (arith, D.most, inner);
    front = D.front;
    rest = rest;
    inside = λ w a b. D.inside w a (omega (arith, inner));
  }
    where
      both_true : (a b : Bool) → a ≡ true → b ≡ true → a && b ≡ true
      both_true a b x y = rw (x, y) refl

      inner : c < top
      inner = end_inner A low top n c late e h F

      rest : (t : ℤ) → asked t ≡ true → f t ≤ hi → f t < suc c
      rest t q k =
          let x : le_z t (A n) ≡ true = D.inside n h (omega arith) t q ∙ le-leb (f t) n (omega (arith, D.rest t q k)) in
          let y : le_z t (min_z late (A n)) ≡ true = le_min_z t late (A n) ∙ both_true (le_z t late) (le_z t (A n)) (to-late t q) x in
          let z = le_trans t (min_z late (A n)) (A c) y (F.reaches inner) in
          omega (arith, leb-true (f t) c (sym (D.inside c F.low_in inner t q) ∙ z))

-- The least cost read off a band: the first column inside that keeps t; if there is none it is more than hi.
module _ (asked : ℤ → Bool) (hi : ℕ) (A : ℕ → ℤ) (s e : ℕ) (f : ℤ → ℕ) (D : Band asked hi A s e f) (t : ℤ) (q : asked t ≡ true) where
  pub band-column : (c : ℕ) → FirstIn A s e t c → (if leb e c then suc hi else c) ≡ min (f t) (suc hi)
  band-column c F = go (leb e c) refl
    where
      after : (n : ℕ) → s + n ≡ c → c ≤ f t
      after zero k = omega (arith, D.front t q)
      after (suc n) k = omega (arith, leb-false (f t) (s + n) (sym (D.inside (s + n) (omega arith) (omega (arith, F.top_in)) t q) ∙ F.before (s + n) (omega arith) (omega arith)))

      low : c ≤ f t
      low = after (c - s) (omega (arith, F.low_in))

      over : Dec (f t ≤ hi) → e ≤ c → suc hi ≡ min (f t) (suc hi)
      over (yes h) k = absurd (omega (arith, D.rest t q h, low))
      over (no h) k = omega arith

      go : (b : Bool) → leb e c ≡ b → (if b then suc hi else c) ≡ min (f t) (suc hi)
      go true k = over (dec_le (f t) hi) (leb-true e c k)
      go false k =
          let h = leb-false e c k in
          omega (arith, low, D.most, leb-true (f t) c (sym (D.inside c F.low_in h t q) ∙ F.reaches h))
