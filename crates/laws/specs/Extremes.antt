-- The least and the latest value of a function over a list, and the largest number that passes a test.
use Rattle.std.specs.Prelude.{◌≡◌, refl, Bool, true, false, cond, ◌||◌, ◌⊎◌, ℕ, zero, suc, ◌+◌, ◌≤◌, ◌<◌, ℤ}
use Rattle.std.proofs.Common.{ap, ◌∙◌, inl, inr, arith}
use mathlib.Core.List.Memᴰ
use mathlib.Core.List.{List, [], ◌∷◌, Memᴰ}
use Rattle.std.proofs.Math.Nat.{le-suc_iff}
use Rattle.std.proofs.Math.Decide.{dec_le}
use Rattle.laws.specs.Basic.{lowest1, lowest, largest}
use Rattle.std.specs.Int.Signed.{le_z}
use Rattle.laws.specs.Lists.{Some}
use Rattle.laws.specs.Integers.{le_true, le_false, true_le}

-- the least of the values of f, on a list with a member
module _ {ℓ} {A : Type ℓ} (f : A → ℕ) where
  lowest1_le : {z : A} (x : A) (xs : List A) → Memᴰ z (x ∷ xs) → lowest1 f x xs ≤ f z
  lowest1_le x [] (Memᴰ.head e) = omega (arith, ap f e)
  lowest1_le x [] (Memᴰ.tail m) = absurd (Memᴰ.not-nil m)
  lowest1_le x (y ∷ ys) (Memᴰ.head e) = omega (arith, ap f e)
  lowest1_le x (y ∷ ys) (Memᴰ.tail m) = omega (arith, lowest1_le y ys m)

  pub lowest_le : {z : A} (xs : List A) → Memᴰ z xs → lowest f xs ≤ f z
  lowest_le [] m = absurd (Memᴰ.not-nil m)
  lowest_le (x ∷ xs) m = lowest1_le x xs m

  pub lowest-at : (x : A) (xs : List A) → (z : A) × Memᴰ z (x ∷ xs) × (f z ≡ lowest f (x ∷ xs))
  lowest-at x [] = (x, Memᴰ.head refl, refl)
  lowest-at x (y ∷ ys) = go (dec_le (f x) (lowest1 f y ys)) (lowest-at y ys)
    where
      go : Dec (f x ≤ lowest1 f y ys) → (z : A) × Memᴰ z (y ∷ ys) × (f z ≡ lowest1 f y ys) → (z : A) × Memᴰ z (x ∷ y ∷ ys) × (f z ≡ lowest f (x ∷ y ∷ ys))
      go (yes a) r = (x, Memᴰ.head refl, omega arith)
      go (no a) (z, m, e) = (z, Memᴰ.tail m, omega arith)

  pub lowest-some : {x : A} (xs : List A) → Memᴰ x xs → (z : A) × Memᴰ z xs × (f z ≡ lowest f xs)
  lowest-some [] m = absurd (Memᴰ.not-nil m)
  lowest-some (y ∷ ys) m = lowest-at y ys

pub largest-passes : (test : ℕ → Bool) (n : ℕ) → test 0 ≡ true → test (largest test n) ≡ true
unfolding largest
largest-passes test zero z = z
largest-passes test (suc n) z = go (test (suc n)) refl (largest-passes test n z)
  where
    go : (b : Bool) → test (suc n) ≡ b → test (largest test n) ≡ true → test (cond b (suc n) (largest test n)) ≡ true
    go true e r = e
    go false e r = r

pub largest-max : (test : ℕ → Bool) (n k : ℕ) → k ≤ n → largest test n < k → test k ≡ false
unfolding largest
largest-max test zero k h m = absurd (omega arith)
largest-max test (suc n) k h m = go (test (suc n)) refl m (largest-max test n k) (le-suc_iff.0 h)
  where
    go : (b : Bool) → test (suc n) ≡ b → (cond b (suc n) (largest test n)) < k → (k ≤ n → largest test n < k → test k ≡ false) → (k ≤ n) ⊎ (k ≡ suc n) → test k ≡ false
    go true e m r c = absurd (omega arith)
    go false e m r (inl a) = r a m
    go false e m r (inr a) = ap test a ∙ e

pub largest_le : (test : ℕ → Bool) (n : ℕ) → largest test n ≤ n
unfolding largest
largest_le test zero = omega arith
largest_le test (suc n) = go (test (suc n)) (largest_le test n)
  where
    go : (b : Bool) → largest test n ≤ n → (cond b (suc n) (largest test n)) ≤ suc n
    go true h = omega arith
    go false h = omega arith

-- scanning from n down finds the largest
pub largest-is : (test : ℕ → Bool) (n k : ℕ) → k ≤ n → test k ≡ true → ((j : ℕ) → k < j → j ≤ n → test j ≡ false) → largest test n ≡ k
unfolding largest
largest-is test zero k h t f = omega arith
largest-is test (suc n) k h t f = go (le-suc_iff.0 h) (λ h. largest-is test n k h t (λ j a b. f j a (omega arith)))
  where
    go : (k ≤ n) ⊎ (k ≡ suc n) → (k ≤ n → largest test n ≡ k) → (cond (test (suc n)) (suc n) (largest test n)) ≡ k
    go (inl a) r = rw (f (suc n) (omega arith) (omega arith)) (r a)
    go (inr e) r = rw (← e, t)

-- A number added to each is added to the least.
pub lowest-plus {ℓ} : {A : Type ℓ} (a : ℕ) (f : A → ℕ) (xs : List A) → Some xs → lowest (λ x. a + f x) xs ≡ a + lowest f xs
lowest-plus a f [] s = absurd s
lowest-plus {A = A} a f (x ∷ xs) s = one x xs
  where
    one : (x : A) (xs : List A) → lowest1 (λ x. a + f x) x xs ≡ a + lowest1 f x xs
    one x [] = refl
    one x (y ∷ ys) = omega (arith, one y ys)

-- Functions that agree on the members of a list have the same least value.
pub lowest-same {ℓ} : {A : Type ℓ} (f g : A → ℕ) (xs : List A) → ((x : A) → Memᴰ x xs → f x ≡ g x) → lowest f xs ≡ lowest g xs
lowest-same f g [] h = refl
lowest-same {A = A} f g (x ∷ xs) h = one x xs h
  where
    one : (x : A) (xs : List A) → ((y : A) → Memᴰ y (x ∷ xs) → f y ≡ g y) → lowest1 f x xs ≡ lowest1 g x xs
    one x [] h = h x (Memᴰ.head refl)
    one x (y ∷ ys) h = omega (arith, h x (Memᴰ.head refl), one y ys (λ z m. h z (Memᴰ.tail m)))

-- The later of two times.
abbrev pub max_z : ℤ → ℤ → ℤ
max_z a b = cond (le_z a b) b a

-- The later of two is no earlier than x just where one of the two is.
pub le_max_z : (x a b : ℤ) → le_z x (max_z a b) ≡ le_z x a || le_z x b
le_max_z x a b = go (le_z a b) (le_z x a) (le_z x b) refl refl refl
  where
    go : (t u v : Bool) → le_z a b ≡ t → le_z x a ≡ u → le_z x b ≡ v → le_z x (max_z a b) ≡ le_z x a || le_z x b
    go true true v e f g = rw (e, f, true_le x b (omega (arith, le_true a b e, le_true x a f)))
    go true false v e f g = rw (e, f)
    go false true v e f g = rw (e, f)
    go false false true e f g = let z : ◌≡◌ {A = ℕ} 0 1 = omega (arith, le_false a b e, le_false x a f, le_true x b g) in cc
    go false false false e f g = rw (e, f, g)
