-- Laws of truth values and of tests.
use Rattle.std.specs.Prelude.{◌≡◌, refl, Bool, true, false, ◌&&◌, ◌||◌, ◌⊎◌, ℕ, ◌≤◌, ◌+◌, suc, leb, eqb, ltb, cond}
use Rattle.std.proofs.Common.{sym, inl, inr, arith, lt_of_not-le, not-le_of_lt, leb-true, leb-false, le-leb, eqb-true, ltb-true, ltb-false, lt-ltb, le-ltb}
use Rattle.std.proofs.lemmas.Bool.{lt-leb, eqb-false}
use Rattle.laws.specs.Basic.{bit, within}

pub and_left : (a b : Bool) → a && b ≡ true → a ≡ true
and_left true b e = refl
and_left false b e = e

pub and_right : (a b : Bool) → a && b ≡ true → b ≡ true
and_right true b e = e
and_right false b e = cc

pub or_right : (a b : Bool) → a ≡ false → a || b ≡ b
or_right true b e = cc
or_right false b e = refl

-- two tests that imply each other are equal
pub both : (a b : Bool) → (a ≡ true → b ≡ true) → (b ≡ true → a ≡ true) → a ≡ b
both true b f g = sym (f refl)
both false true f g = g refl
both false false f g = refl

pub leb-same : (a b c d : ℕ) → (a ≤ b → c ≤ d) → (c ≤ d → a ≤ b) → leb a b ≡ leb c d
leb-same a b c d f g = go (leb c d) refl
  where
    go : (t : Bool) → leb c d ≡ t → leb a b ≡ t
    go true e = le-leb a b (g (leb-true c d e))
    go false e = lt-leb a b (lt_of_not-le (λ h. not-le_of_lt (leb-false c d e) (f h)))

-- a number is another or it is not
pub same_or : (i j : ℕ) → (j ≡ i) ⊎ (j ≡ i → ⊥)
same_or i j = go (eqb j i) refl
  where
    go : (b : Bool) → eqb j i ≡ b → (j ≡ i) ⊎ (j ≡ i → ⊥)
    go true e = inl (eqb-true _ _ e)
    go false e = inr (eqb-false _ _ e)

-- a truth value as a number
pub bit_le : (b : Bool) → bit b ≤ 1
bit_le true = omega arith
bit_le false = omega arith

-- Tests that are made together all pass.
pub and_both : (a b : Bool) → a && b ≡ true → (a ≡ true) × (b ≡ true)
and_both a b e = (and_left a b e, and_right a b e)

pub and_three : (a b c : Bool) → a && b && c ≡ true → (a ≡ true) × (b ≡ true) × (c ≡ true)
and_three a b c e = let (p, q) = and_both a b (and_left (a && b) c e) in (p, q, and_right (a && b) c e)

-- A number within two bounds.
pub within-true : (lo hi x : ℕ) → within lo hi x ≡ true → (lo ≤ x) × (x ≤ hi)
within-true lo hi x e = let (p, q) = and_both (leb lo x) (leb x hi) e in (leb-true lo x p, leb-true x hi q)

-- A number is below m + 1 if it is below m or m itself.
pub if_lt_suc : (p m x : ℕ) → (cond (ltb p (suc m)) x 0) ≡ (cond (ltb p m) x 0) + (cond (eqb p m) x 0)
if_lt_suc p m x = go (ltb p m) (eqb p m) refl refl
  where
    go : (s t : Bool) → ltb p m ≡ s → eqb p m ≡ t → (cond (ltb p (suc m)) x 0) ≡ (cond s x 0) + (cond t x 0)
    go true true e f = absurd (omega (arith, ltb-true p m e, eqb-true p m f))
    go true false e f = rw (lt-ltb p (suc m) (omega (arith, ltb-true p m e))) (omega arith)
    go false true e f = rw (lt-ltb p (suc m) (omega (arith, eqb-true p m f))) (omega arith)
    go false false e f = let ne = eqb-false p m f in rw (le-ltb p (suc m) (omega (arith, ltb-false p m e))) (omega arith)
