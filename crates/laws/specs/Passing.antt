-- Laws of lists in general: equal tests keep equal members; sums and least values over numbers in order, one number more at the end.
use Rattle.std.specs.Prelude.{◌≡◌, Bool, cond}
use Rattle.std.proofs.Math.Path.{refl}
use Rattle.std.proofs.Common.{◌∙◌, add-zero}
use Rattle.std.proofs.Math.Bool.{true, false}
use mathlib.Core.List.{List, [], ◌∷◌, map, Memᴰ}
use Prim.Native.Nat.{ℕ, zero, suc, ◌+◌, ◌-◌, ◌≤◌, ◌<◌, min}
use native.Mathlib.Omega.{arith}
use Rattle.laws.specs.Basic.{from, sum, keep, lowest}

-- Tests that agree on the members of a list keep the same members.
pub keep_same {ℓ} : {A : Type ℓ} (p q : A → Bool) (xs : List A) → ((x : A) → Memᴰ x xs → p x ≡ q x) → keep p xs ≡ keep q xs
keep_same p q [] h = refl
keep_same p q (x ∷ xs) h = rw (h x (Memᴰ.head refl), keep_same p q xs (λ y m. h y (Memᴰ.tail m)))

-- Sums of f over the numbers from a up to b that pass a test.
module _ (test : ℕ → Bool) (f : ℕ → ℕ) where
  abbrev pub passing : ℕ → ℕ → ℕ
  passing a b = sum (map f (keep test (from a (b - a))))

  counted : ℕ → ℕ
  counted b = cond (test b) (f b) 0

  last-counts : (a n : ℕ) → sum (map f (keep test (from a (suc n)))) ≡ sum (map f (keep test (from a n))) + counted (a + n)
  unfolding counted
  last-counts a zero = rw (add-zero a) (go (test a))
    where
      go : (b : Bool) → sum (map f (cond b (a ∷ []) [])) ≡ 0 + (cond b (f a) 0)
      go true = omega arith
      go false = refl
  last-counts a (suc n) = let e : a + suc n ≡ suc a + n = omega arith in rw e (go (test a) (last-counts (suc a) n))
    where
      go : (b : Bool) → sum (map f (keep test (from (suc a) (suc n)))) ≡ sum (map f (keep test (from (suc a) n))) + counted (suc a + n)
          → sum (map f (cond b (a ∷ keep test (from (suc a) (suc n))) (keep test (from (suc a) (suc n)))))
          ≡ sum (map f (cond b (a ∷ keep test (from (suc a) n)) (keep test (from (suc a) n)))) + counted (suc a + n)
      go true e = omega arith
      go false e = e

  -- One number more that passes.
  pub passing-more : (a b : ℕ) → a ≤ b → test b ≡ true → passing a (suc b) ≡ passing a b + f b
  unfolding counted
  passing-more a b h e =
      let n : suc b - a ≡ suc (b - a) = omega arith in
      let m : a + (b - a) ≡ b = omega arith in
      rw n (last-counts a (b - a) ∙ rw (m, e))

  -- Numbers that do not pass add nothing.
  pub passing-skip : (a b n : ℕ) → a ≤ b → ((m : ℕ) → b ≤ m → m < b + n → test m ≡ false) → passing a (b + n) ≡ passing a b
  unfolding counted
  passing-skip a b zero h none = rw (add-zero b)
  passing-skip a b (suc n) h none =
      let k : b + suc n - a ≡ suc (b + n - a) = omega arith in
      let m : a + (b + n - a) ≡ b + n = omega arith in
      rw k (last-counts a (b + n - a) ∙ rw (m, none (b + n) (omega arith) (omega arith)) (omega (arith, passing-skip a b n h (λ j u v. none j u (omega arith)))))

-- The least of `most` and the first n values of f, as a loop takes it.
abbrev pub least_up_to : ℕ → (ℕ → ℕ) → ℕ → ℕ
least_up_to most f zero = most
least_up_to most f (suc n) = min (least_up_to most f n) (f n)

lowest-last : (f : ℕ → ℕ) (a n : ℕ) → lowest f (from a (suc (suc n))) ≡ min (lowest f (from a (suc n))) (f (suc a + n))
lowest-last f a zero = rw (add-zero (suc a))
lowest-last f a (suc n) = let e : suc a + suc n ≡ suc (suc a) + n = omega arith in rw e (omega (arith, lowest-last f (suc a) n))

pub least_up_to-is : (most : ℕ) (f : ℕ → ℕ) (n : ℕ) → least_up_to most f (suc n) ≡ min most (lowest f (from 0 (suc n)))
least_up_to-is most f zero = refl
least_up_to-is most f (suc n) =
    let e : 1 + n ≡ suc n = omega arith in
    let last = rw e at (lowest-last f 0 n) in
    omega (arith, last, least_up_to-is most f n)
