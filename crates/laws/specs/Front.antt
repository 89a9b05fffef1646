-- The front of a list, before the first member at which a test fails; what is there of a list of options; the first member at which a function has its least
-- value, and the greatest value: what they are, and what members more at the end do to them.
use Rattle.std.proofs.Math.Path.{◌≡◌, refl}
use Rattle.std.proofs.Common.{ap, sym, ◌∙◌, arith, eqb-true, eq-eqb, ne_eqb, ltb-true, ltb-false}
use Rattle.std.proofs.Math.Bool.{Bool}
use Rattle.std.specs.Prelude.{true, false, ltb, length, get_or, take, cond}
use Rattle.std.proofs.Math.Option
use Rattle.std.proofs.Math.Option.{Option, none, some, some-injective, or_else}
use mathlib.Core.List.Memᴰ
use mathlib.Core.List.{List, [], ◌∷◌, ◌++◌, Memᴰ, head?}
use Prim.Native.Nat.{ℕ, ◌≤◌, ◌<◌, min}
use Rattle.std.proofs.Math.Dec.{eqb}
use Rattle.laws.specs.Basic.{keep, leading, somes, lowest1, lowest, first_lowest, highest}
use Rattle.laws.specs.Lists.{head-keep, find, find-keep}
use Rattle.laws.specs.First.{find_append, find_none, find-some}
use Rattle.laws.specs.Extremes.{lowest_le, lowest-some}

pub somes_append {ℓ} : {A : Type ℓ} (os ps : List (Option A)) → somes (os ++ ps) ≡ somes os ++ somes ps
somes_append [] ps = refl
somes_append (none ∷ os) ps = somes_append os ps
somes_append {A = A} (some x ∷ os) ps = ap (λ (xs : List A). x ∷ xs) (somes_append os ps)

-- What is there is in the list of options, and the other way round.
pub mem-somes {ℓ} : {A : Type ℓ} {x : A} (os : List (Option A)) → Memᴰ (some x) os → Memᴰ x (somes os)
mem-somes [] m = absurd (Memᴰ.not-nil m)
mem-somes (none ∷ os) (Memᴰ.head e) = let z : ◌≡◌ {A = ℕ} 0 1 = cc in absurd (omega arith)
mem-somes (none ∷ os) (Memᴰ.tail m) = mem-somes os m
mem-somes {x = x} (some y ∷ os) (Memᴰ.head e) = Memᴰ.head (some-injective x y e)
mem-somes (some y ∷ os) (Memᴰ.tail m) = Memᴰ.tail (mem-somes os m)

pub somes-mem {ℓ} : {A : Type ℓ} {x : A} (os : List (Option A)) → Memᴰ x (somes os) → Memᴰ (some x) os
somes-mem [] m = absurd (Memᴰ.not-nil m)
somes-mem (none ∷ os) m = Memᴰ.tail (somes-mem os m)
somes-mem (some y ∷ os) (Memᴰ.head e) = Memᴰ.head (ap some e)
somes-mem (some y ∷ os) (Memᴰ.tail m) = Memᴰ.tail (somes-mem os m)

module _ {ℓ} {A : Type ℓ} (test : A → Bool) where
  -- Members that all pass stay in front.
  pub leading-all : (xs ys : List A) → ((x : A) → Memᴰ x xs → test x ≡ true) → leading test (xs ++ ys) ≡ xs ++ leading test ys
  leading-all [] ys h = refl
  leading-all (x ∷ xs) ys h =
      rw (h x (Memᴰ.head refl)) (ap (λ (zs : List A). x ∷ zs) (leading-all xs ys (λ z m. h z (Memᴰ.tail m))))

  -- Members more at the end take nothing from the front.
  pub leading-more : (xs ys : List A) → (zs : List A) × (leading test (xs ++ ys) ≡ leading test xs ++ zs)
  leading-more [] ys = (leading test ys, refl)
  leading-more (x ∷ xs) ys = go (test x) (leading-more xs ys)
    where
      go : (b : Bool) → (zs : List A) × (leading test (xs ++ ys) ≡ leading test xs ++ zs)
          → (zs : List A) × ((cond b (x ∷ leading test (xs ++ ys)) []) ≡ (cond b (x ∷ leading test xs) []) ++ zs)
      go true (zs, e) = (zs, ap (λ (l : List A). x ∷ l) e)
      go false r = ([], refl)

  -- The front is as many members as it has.
  pub leading-take : (xs : List A) → (length (leading test xs) ≤ length xs) × (leading test xs ≡ take (length (leading test xs)) xs)
  leading-take [] = (omega arith, refl)
  leading-take (x ∷ xs) = go (test x) (leading-take xs)
    where
      go : (b : Bool) → (length (leading test xs) ≤ length xs) × (leading test xs ≡ take (length (leading test xs)) xs)
          → (length (cond b (x ∷ leading test xs) []) ≤ length (x ∷ xs))
          × ((cond b (x ∷ leading test xs) []) ≡ take (length (cond b (x ∷ leading test xs) [])) (x ∷ xs))
      go true (h, e) = (omega arith, ap (λ (l : List A). x ∷ l) e)
      go false r = (omega arith, refl)

  -- Behind it the test fails.
  pub leading-ended : (d : A) (xs : List A) → length (leading test xs) < length xs → test (get_or xs (length (leading test xs)) d) ≡ false
  leading-ended d [] h = absurd (omega arith)
  leading-ended d (x ∷ xs) h = go (test x) refl h (leading-ended d xs)
    where
      go : (b : Bool) → test x ≡ b → length (cond b (x ∷ leading test xs) []) < length (x ∷ xs)
          → (length (leading test xs) < length xs → test (get_or xs (length (leading test xs)) d) ≡ false)
          → test (get_or (x ∷ xs) (length (cond b (x ∷ leading test xs) [])) d) ≡ false
      go true e h r = r (omega arith)
      go false e h r = e

module _ {ℓ} {A : Type ℓ} (f : A → ℕ) where
  pub first-lowest-mem : {b : A} (xs : List A) → first_lowest f xs ≡ some b → Memᴰ b xs
  first-lowest-mem xs e = (head-keep (λ x. eqb (f x) (lowest f xs)) xs e).0

  pub first-lowest-is : {b : A} (xs : List A) → first_lowest f xs ≡ some b → f b ≡ lowest f xs
  first-lowest-is {b} xs e = eqb-true (f b) (lowest f xs) (head-keep (λ x. eqb (f x) (lowest f xs)) xs e).1

  pub first-lowest_le : {b z : A} (xs : List A) → first_lowest f xs ≡ some b → Memᴰ z xs → f b ≤ f z
  first-lowest_le xs e m = omega (arith, first-lowest-is xs e, lowest_le f xs m)

  -- There is one where there is a member.
  pub first-lowest-some : {x : A} (xs : List A) → Memᴰ x xs → (b : A) × (first_lowest f xs ≡ some b)
  first-lowest-some {x} xs m =
      let test : A → Bool = λ x. eqb (f x) (lowest f xs) in
      let (z, n, e) = lowest-some f xs m in
      (Option.get_or (find test xs) x, find-keep test xs ∙ find-some test x xs n (eq-eqb (f z) (lowest f xs) e))

  lowest-more : (x : A) (xs : List A) (y : A) → lowest1 f x (xs ++ (y ∷ [])) ≡ min (lowest1 f x xs) (f y)
  lowest-more x [] y = refl
  lowest-more x (z ∷ zs) y = omega (arith, lowest-more z zs y)

  -- One member more at the end takes its place only if its value is less.
  pub first-lowest-more : {b : A} (xs : List A) (y : A) → first_lowest f xs ≡ some b
      → first_lowest f (xs ++ (y ∷ [])) ≡ some (cond (ltb (f y) (f b)) y b)
  unfolding or_else
  first-lowest-more [] y e = let z : ◌≡◌ {A = ℕ} 0 1 = cc in absurd (omega arith)
  first-lowest-more {b} (x ∷ xs) y e = go (ltb (f y) (f b)) refl
    where
      now : ℕ → A → Bool
      now least z = eqb (f z) least

      least : lowest f ((x ∷ xs) ++ (y ∷ [])) ≡ min (f b) (f y)
      least = omega (arith, lowest-more x xs y, first-lowest-is (x ∷ xs) e)

      split : (m : ℕ) → find (now m) ((x ∷ xs) ++ (y ∷ [])) ≡ or_else (find (now m) (x ∷ xs)) (find (now m) (y ∷ []))
      split m = find_append (now m) (x ∷ xs) (y ∷ [])

      found : (m : ℕ) → lowest f ((x ∷ xs) ++ (y ∷ [])) ≡ m
          → first_lowest f ((x ∷ xs) ++ (y ∷ [])) ≡ or_else (find (now m) (x ∷ xs)) (find (now m) (y ∷ []))
      found m q = ap (λ (l : ℕ). head? (keep (now l) ((x ∷ xs) ++ (y ∷ [])))) q ∙ find-keep (now m) ((x ∷ xs) ++ (y ∷ [])) ∙ split m

      go : (t : Bool) → ltb (f y) (f b) ≡ t → first_lowest f ((x ∷ xs) ++ (y ∷ [])) ≡ some (cond t y b)
      go true q =
          let less = ltb-true (f y) (f b) q in
          let none_before : find (now (f y)) (x ∷ xs) ≡ none =
          find_none (now (f y)) (x ∷ xs) (λ z m. ne_eqb (f z) (f y) (λ s. omega (arith, first-lowest_le (x ∷ xs) e m))) in
          let here : find (now (f y)) (y ∷ []) ≡ some y = rw (eq-eqb (f y) (f y) refl) refl in
          found (f y) (omega (arith, least)) ∙ rw (none_before, here) refl
      go false q =
          let more = ltb-false (f y) (f b) q in
          let before : find (now (f b)) (x ∷ xs) ≡ some b =
          ap (λ (m : ℕ). find (now m) (x ∷ xs)) (first-lowest-is (x ∷ xs) e) ∙ (sym (find-keep (now (lowest f (x ∷ xs))) (x ∷ xs)) ∙ e) in
          found (f b) (omega (arith, least)) ∙ rw before refl

  pub highest_ge : {z : A} (xs : List A) → Memᴰ z xs → f z ≤ highest f xs
  highest_ge [] m = absurd (Memᴰ.not-nil m)
  highest_ge (x ∷ xs) (Memᴰ.head e) = omega (arith, ap f e)
  highest_ge (x ∷ xs) (Memᴰ.tail m) = omega (arith, highest_ge xs m)

  pub highest_le : (m : ℕ) (xs : List A) → ((x : A) → Memᴰ x xs → f x ≤ m) → highest f xs ≤ m
  highest_le m [] h = omega arith
  highest_le m (x ∷ xs) h = omega (arith, h x (Memᴰ.head refl), highest_le m xs (λ z n. h z (Memᴰ.tail n)))

  pub highest-more : (xs ys : List A) → highest f xs ≤ highest f (xs ++ ys)
  highest-more [] ys = omega arith
  highest-more (x ∷ xs) ys = omega (arith, highest-more xs ys)
