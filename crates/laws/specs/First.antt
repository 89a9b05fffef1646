-- The first member of a list that passes a test.
use Rattle.std.specs.Prelude.{◌≡◌, refl, Bool, true, false, ◌⊎◌, ℕ, zero, suc, ◌+◌, ◌≤◌, ◌<◌, cond}
use Rattle.std.proofs.Common.{ap, sym, ◌∙◌, inl, inr, arith, eq-or-lt_of_le}
use Rattle.std.proofs.Math.Option
use Rattle.std.proofs.Math.Option.{none, some, get_or, some-injective, or_else}
use mathlib.Core.List.Memᴰ
use mathlib.Core.List.{List, [], ◌∷◌, ◌++◌, map, Memᴰ}
use Rattle.laws.specs.Basic.{from}
use Rattle.laws.specs.Lists.{find}

pub find_append {ℓ} : {A : Type ℓ} (test : A → Bool) (xs ys : List A) → find test (xs ++ ys) ≡ or_else (find test xs) (find test ys)
unfolding or_else
find_append test [] ys = refl
find_append test (x ∷ xs) ys = go (test x) (find_append test xs ys)
  where
    go : (b : Bool) → find test (xs ++ ys) ≡ or_else (find test xs) (find test ys)
        → (cond b (some x) (find test (xs ++ ys))) ≡ or_else (cond b (some x) (find test xs)) (find test ys)
    go true e = refl
    go false e = e

pub find-map {ℓ κ} : {A : Type ℓ} {B : Type κ} (test : B → Bool) (f : A → B) (xs : List A) → find test (map f xs) ≡ Option.map f (find (λ x. test (f x)) xs)
find-map test f [] = refl
find-map test f (x ∷ xs) = go (test (f x)) (find-map test f xs)
  where
    go : (b : Bool) → find test (map f xs) ≡ Option.map f (find (λ x. test (f x)) xs)
        → (cond b (some (f x)) (find test (map f xs))) ≡ Option.map f (cond b (some x) (find (λ x. test (f x)) xs))
    go true e = refl
    go false e = e

pub find_none {ℓ} : {A : Type ℓ} (test : A → Bool) (xs : List A) → ((x : A) → Memᴰ x xs → test x ≡ false) → find test xs ≡ none
find_none test [] h = refl
find_none test (x ∷ xs) h = rw (h x (Memᴰ.head refl)) (find_none test xs (λ y m. h y (Memᴰ.tail m)))

pub find-some {ℓ} : {A : Type ℓ} (test : A → Bool) (d : A) {x : A} (xs : List A) → Memᴰ x xs → test x ≡ true
    → find test xs ≡ some (get_or (find test xs) d)
find-some test d [] m t = absurd (Memᴰ.not-nil m)
find-some {A = A} test d {x} (y ∷ ys) m t = go (test y) refl m (λ m. find-some test d ys m t)
  where
    go : (b : Bool) → test y ≡ b → Memᴰ x (y ∷ ys) → (Memᴰ x ys → find test ys ≡ some (get_or (find test ys) d))
        → (cond b (some y) (find test ys)) ≡ some (get_or (cond b (some y) (find test ys)) d)
    go true e m r = refl
    go false e (Memᴰ.head q) r = let z : ◌≡◌ {A = Bool} true false = sym t ∙ ap test q ∙ e in cc
    go false e (Memᴰ.tail m) r = r m

-- The first that passes a test is the first that passes a narrower one, if it passes that too.
pub find_narrower {ℓ} : {A : Type ℓ} (wide narrow : A → Bool) {x : A} (xs : List A) → find wide xs ≡ some x → narrow x ≡ true
    → ((y : A) → Memᴰ y xs → narrow y ≡ true → wide y ≡ true) → find narrow xs ≡ some x
find_narrower wide narrow [] e t h = e
find_narrower {A = A} wide narrow {x} (y ∷ ys) e t h =
    go (wide y) (narrow y) refl refl e (λ e. find_narrower wide narrow ys e t (λ z m. h z (Memᴰ.tail m)))
  where
    go : (a b : Bool) → wide y ≡ a → narrow y ≡ b → (cond a (some y) (find wide ys)) ≡ some x → (find wide ys ≡ some x → find narrow ys ≡ some x)
        → (cond b (some y) (find narrow ys)) ≡ some x
    go true true p q e r = e
    go true false p q e r = let z : y ≡ x = some-injective y x e in let c : ◌≡◌ {A = Bool} true false = sym t ∙ (ap narrow (sym z) ∙ q) in cc
    go false true p q e r = let c : ◌≡◌ {A = Bool} false true = sym p ∙ h y (Memᴰ.head refl) q in cc
    go false false p q e r = r e

-- A scan of the numbers from i up stops at the first that passes.
pub first-is : (test : ℕ → Bool) (i n l : ℕ) → i ≤ l → l < i + n → test l ≡ true → ((j : ℕ) → i ≤ j → j < l → test j ≡ false)
    → find test (from i n) ≡ some l
first-is test i zero l h k t f = absurd (omega arith)
first-is test i (suc n) l h k t f = go (eq-or-lt_of_le h) (λ a. first-is test (suc i) n l a (omega arith) t (λ j b c. f j (omega arith) c))
  where
    go : (i ≡ l) ⊎ (i < l) → (i < l → find test (from (suc i) n) ≡ some l) → (cond (test i) (some i) (find test (from (suc i) n))) ≡ some l
    go (inl e) r = rw (ap test e ∙ t) (ap some e)
    go (inr a) r = rw (f i (omega arith) a) (r a)

-- A list is split by the first member that passes a test: those before it do not pass.
pub find-split {ℓ} : {A : Type ℓ} (test : A → Bool) {x : A} (xs : List A) → find test xs ≡ some x
    → (earlier : List A) × (later : List A) × (xs ≡ earlier ++ (x ∷ later)) × ((y : A) → Memᴰ y earlier → test y ≡ false)
find-split test [] e = let z : ◌≡◌ {A = ℕ} 0 1 = cc in absurd (omega arith)
find-split {A = A} test {x} (y ∷ ys) e = go (test y) refl e (find-split test ys)
  where
    go : (b : Bool) → test y ≡ b → (cond b (some y) (find test ys)) ≡ some x
        → (find test ys ≡ some x → (earlier : List A) × (later : List A) × (ys ≡ earlier ++ (x ∷ later)) × ((z : A) → Memᴰ z earlier → test z ≡ false))
        → (earlier : List A) × (later : List A) × (y ∷ ys ≡ earlier ++ (x ∷ later)) × ((z : A) → Memᴰ z earlier → test z ≡ false)
    go true t e r = ([], ys, cc, λ z m. absurd (Memᴰ.not-nil m))
    go false t e r = let (earlier, later, q, fails) = r e in (y ∷ earlier, later, ap (λ (zs : List A). y ∷ zs) q, λ z m. each earlier fails z m)
      where
        each : (earlier : List A) → ((z : A) → Memᴰ z earlier → test z ≡ false) → (z : A) → Memᴰ z (y ∷ earlier) → test z ≡ false
        each earlier fails z (Memᴰ.head q) = ap test q ∙ t
        each earlier fails z (Memᴰ.tail m) = fails z m
