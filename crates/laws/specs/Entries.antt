-- Laws of a list of which one entry is set, and of one entry many times.
use Rattle.std.specs.Prelude.{◌≡◌, refl, Bool, true, List, [], ◌∷◌, ◌++◌, map, ℕ, zero, suc, ◌+◌, ◌≤◌, ◌<◌, length, get_or, set, take, drop, replicate}
use Rattle.std.proofs.Common.{ap, arith, not-suc-le-zero}
use Rattle.laws.specs.Basic.{all}
use Rattle.laws.specs.Booleans.{and_both}

-- one entry set
pub map-set {ℓ κ} : {A : Type ℓ} {B : Type κ} (f : A → B) (xs : List A) (i : ℕ) (a : A) → map f (set xs i a) ≡ set (map f xs) i (f a)
map-set f [] i a = refl
map-set f (x ∷ xs) zero a = refl
map-set f (x ∷ xs) (suc i) a = ap (λ ys. f x ∷ ys) (map-set f xs i a)

pub all_set {ℓ} : {A : Type ℓ} (f : A → Bool) (xs : List A) (i : ℕ) (a : A) → all (map f xs) ≡ true → f a ≡ true → all (map f (set xs i a)) ≡ true
all_set f [] i a h e = refl
all_set f (x ∷ xs) zero a h e = rw (e, (and_both (f x) (all (map f xs)) h).1) refl
all_set f (x ∷ xs) (suc i) a h e = let (p, q) = and_both (f x) (all (map f xs)) h in rw (p, all_set f xs i a q e) refl

-- one entry many times
pub take-replicate {ℓ} : {A : Type ℓ} (n m : ℕ) (a : A) → n ≤ m → take n (replicate m a) ≡ replicate n a
take-replicate zero m a h = refl
take-replicate (suc n) zero a h = absurd (not-suc-le-zero h)
take-replicate (suc n) (suc m) a h = ap (λ ys. a ∷ ys) (take-replicate n m a (omega arith))

pub map-replicate {ℓ κ} : {A : Type ℓ} {B : Type κ} (f : A → B) (n : ℕ) (a : A) → map f (replicate n a) ≡ replicate n (f a)
map-replicate f zero a = refl
map-replicate f (suc n) a = ap (λ ys. f a ∷ ys) (map-replicate f n a)

pub all_replicate {ℓ} : {A : Type ℓ} (f : A → Bool) (n : ℕ) (a : A) → f a ≡ true → all (map f (replicate n a)) ≡ true
all_replicate f zero a e = refl
all_replicate f (suc n) a e = rw (e, all_replicate f n a e) refl

-- the front of one list over that of another, one entry more
pub set-copied {ℓ} : {A : Type ℓ} (d : A) (xs ys : List A) (i : ℕ) → i < length xs → i < length ys
    → set (take i xs ++ drop i ys) i (get_or xs i d) ≡ take (i + 1) xs ++ drop (i + 1) ys
set-copied {A = A} d xs ys i h k = let e : i + 1 ≡ suc i = omega arith in rw e (go xs ys i h k)
  where
    go : (xs ys : List A) (i : ℕ) → i < length xs → i < length ys → set (take i xs ++ drop i ys) i (get_or xs i d) ≡ take (suc i) xs ++ drop (suc i) ys
    go [] ys i h k = absurd (not-suc-le-zero h)
    go (x ∷ xs) [] i h k = absurd (not-suc-le-zero k)
    go (x ∷ xs) (y ∷ ys) zero h k = refl
    go (x ∷ xs) (y ∷ ys) (suc i) h k = ap (λ zs. x ∷ zs) (go xs ys i (omega arith) (omega arith))
