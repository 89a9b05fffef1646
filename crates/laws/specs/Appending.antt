-- Laws of lists and of times in general: the members that pass a test of two lists in a row, numbers in order with the last apart, and the least of a list
-- with one member more at its end.
use Rattle.std.specs.Prelude.{◌≡◌, refl, Bool, true, false, ◌&&◌, List, [], ◌∷◌, ◌++◌, ℕ, zero, suc, ◌-◌, ◌≤◌, ℤ, cond}
use Rattle.std.proofs.Common.{ap, sym, ◌∙◌, arith, one-add}
use Rattle.std.proofs.Math.Bool.{and_assoc}
use Rattle.std.specs.Int.Signed.{le_z}
use Rattle.laws.specs.Basic.{from, keep, min_z, least_z}
use Rattle.laws.specs.Lists.{from_more}
use Rattle.laws.specs.Integers.{same-bounds, le_min_z}

-- The members that pass, of two lists one after the other.
pub keep_append {ℓ} : {A : Type ℓ} (f : A → Bool) (xs ys : List A) → keep f (xs ++ ys) ≡ keep f xs ++ keep f ys
keep_append f [] ys = refl
keep_append {A = A} f (x ∷ xs) ys = go (f x) (keep_append f xs ys)
  where
    go : (b : Bool) → keep f (xs ++ ys) ≡ keep f xs ++ keep f ys
        → (cond b (x ∷ keep f (xs ++ ys)) (keep f (xs ++ ys))) ≡ (cond b (x ∷ keep f xs) (keep f xs)) ++ keep f ys
    go true e = ap (λ (zs : List A). x ∷ zs) e
    go false e = e

-- The numbers from 1 to j, with j apart.
pub from_last : (j : ℕ) → 1 ≤ j → from 1 j ≡ from 1 (j - 1) ++ (j ∷ [])
from_last zero h = absurd (omega arith)
from_last (suc m) h =
    let e : suc m - 1 ≡ m = omega arith in
    rw e (from_more 1 m ∙ ap (λ (k : ℕ). from 1 m ++ (k ∷ [])) (one-add m))

-- The lesser of three does not depend on which two are compared first.
pub min_z_assoc : (a b c : ℤ) → min_z a (min_z b c) ≡ min_z (min_z a b) c
min_z_assoc a b c = same-bounds (min_z a (min_z b c)) (min_z (min_z a b) c) (λ x.
    le_min_z x a (min_z b c) ∙ (ap (λ (t : Bool). le_z x a && t) (le_min_z x b c) ∙ (sym (and_assoc (le_z x a) (le_z x b) (le_z x c))
    ∙ (ap (λ (t : Bool). t && le_z x c) (sym (le_min_z x a b)) ∙ sym (le_min_z x (min_z a b) c)))))

-- One member more at the end makes the least the lesser of the two.
pub least-last : (x : ℤ) (xs : List ℤ) (r : ℤ) → least_z x (xs ++ (r ∷ [])) ≡ min_z (least_z x xs) r
least-last x [] r = refl
least-last x (y ∷ ys) r = ap (min_z x) (least-last y ys r) ∙ min_z_assoc x (least_z y ys) r
