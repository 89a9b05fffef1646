-- Sums over lists: of nothing, of bounded values, of two functions, over the members that pass a test, by classes.
use Rattle.std.specs.Prelude.{◌≡◌, refl, Bool, true, false, ℕ, zero, suc, ◌+◌, ◌*◌, ◌≤◌, ◌<◌, min, eqb, leb, length, cond}
use Rattle.std.proofs.Common.{ap, sym, ◌∙◌, arith, add-zero, suc-add, add-suc, eqb-true, ne_eqb}
use mathlib.Core.List.{List, [], ◌∷◌, map, Memᴰ, ◌++◌}
use Rattle.std.proofs.lemmas.Bool.{eqb-false}
use Rattle.laws.specs.Basic.{from, sum, keep}
use Rattle.laws.specs.Lists.{from_low}
use Rattle.laws.specs.Booleans.{leb-same}

-- Sums of the values of f over a list.
pub sum-none {ℓ} : {A : Type ℓ} (f : A → ℕ) (xs : List A) → ((x : A) → Memᴰ x xs → f x ≡ 0) → sum (map f xs) ≡ 0
sum-none f [] h = refl
sum-none f (x ∷ xs) h = omega (arith, h x (Memᴰ.head refl), sum-none f xs (λ y m. h y (Memᴰ.tail m)))

pub sum-most {ℓ} : {A : Type ℓ} (f : A → ℕ) (most : ℕ) → ((x : A) → f x ≤ most) → (xs : List A) → sum (map f xs) ≤ length xs * most
sum-most f most h [] = omega arith
sum-most f most h (x ∷ xs) = omega (arith, h x, sum-most f most h xs)

pub sum_mono {ℓ} : {A : Type ℓ} (f g : A → ℕ) → ((x : A) → f x ≤ g x) → (xs : List A) → sum (map f xs) ≤ sum (map g xs)
sum_mono f g h [] = omega arith
sum_mono f g h (x ∷ xs) = omega (arith, h x, sum_mono f g h xs)

pub sum_add {ℓ} : {A : Type ℓ} (f g : A → ℕ) (xs : List A) → sum (map (λ x. f x + g x) xs) ≡ sum (map f xs) + sum (map g xs)
sum_add f g [] = refl
sum_add f g (x ∷ xs) = omega (arith, sum_add f g xs)

-- The sum over the members that pass is a sum over all, in which the others count 0.
pub sum-keep {ℓ} : {A : Type ℓ} (test : A → Bool) (f : A → ℕ) (xs : List A) → sum (map f (keep test xs)) ≡ sum (map (λ x. cond (test x) (f x) 0) xs)
sum-keep test f [] = refl
sum-keep test f (x ∷ xs) = go (test x) (sum-keep test f xs)
  where
    go : (b : Bool) → sum (map f (keep test xs)) ≡ sum (map (λ y. cond (test y) (f y) 0) xs)
        → sum (map f (cond b (x ∷ keep test xs) (keep test xs))) ≡ (cond b (f x) 0) + sum (map (λ y. cond (test y) (f y) 0) xs)
    go true e = omega arith
    go false e = omega arith

-- Of a run of numbers, a alone counts.
pub sum_one : (f : ℕ → ℕ) (a i m : ℕ) → i ≤ a → a < i + m → sum (map (λ t. cond (eqb a t) (f t) 0) (from i m)) ≡ f a
sum_one f a i zero h k = absurd (omega arith)
sum_one f a i (suc m) h k = go (eqb a i) refl (λ l. sum_one f a (suc i) m l (omega arith))
  where
    rest : ℕ
    rest = sum (map (λ t. cond (eqb a t) (f t) 0) (from (suc i) m))

    none : a ≡ i → rest ≡ 0
    none q = sum-none (λ t. cond (eqb a t) (f t) 0) (from (suc i) m) (λ t b. rw (ne_eqb a t (λ e. omega (arith, from_low (suc i) m t b))) refl)

    go : (b : Bool) → eqb a i ≡ b → (suc i ≤ a → rest ≡ f a) → (cond b (f i) 0) + rest ≡ f a
    go true e r = let q = eqb-true a i e in omega (arith, ap f q, none q)
    go false e r = let ne = eqb-false a i e in omega (arith, r (omega arith))

-- A sum by classes: summed over the members of each class and then over the classes below s, every member counts once, with its class.
pub sum-by_class {ℓ} : {A : Type ℓ} (value : ℕ → A → ℕ) (class : A → ℕ) (s : ℕ) (xs : List A) → ((x : A) → Memᴰ x xs → class x < s)
    → sum (map (λ t. sum (map (value t) (keep (λ x. eqb (class x) t) xs))) (from 0 s)) ≡ sum (map (λ x. value (class x) x) xs)
sum-by_class value class s [] low = sum-none (λ t. 0) (from 0 s) (λ t m. refl)
sum-by_class value class s (x ∷ xs) low =
    let one = sum_one (λ t. value t x) (class x) 0 s (omega arith) (omega (arith, low x (Memᴰ.head refl))) in
    let others = sum-by_class value class s xs (λ y m. low y (Memᴰ.tail m)) in
    each (from 0 s) ∙ sum_add (λ t. cond (eqb (class x) t) (value t x) 0) rest (from 0 s) ∙ omega arith
  where
    rest : ℕ → ℕ
    rest t = sum (map (value t) (keep (λ y. eqb (class y) t) xs))

    first : (t : ℕ) → sum (map (value t) (keep (λ y. eqb (class y) t) (x ∷ xs))) ≡ (cond (eqb (class x) t) (value t x) 0) + rest t
    first t = go (eqb (class x) t)
      where
        go : (b : Bool) → sum (map (value t) (cond b (x ∷ keep (λ y. eqb (class y) t) xs) (keep (λ y. eqb (class y) t) xs))) ≡ (cond b (value t x) 0) + rest t
        go true = refl
        go false = omega arith

    each : (ts : List ℕ) → sum (map (λ t. sum (map (value t) (keep (λ y. eqb (class y) t) (x ∷ xs)))) ts)
        ≡ sum (map (λ t. (cond (eqb (class x) t) (value t x) 0) + rest t) ts)
    each [] = refl
    each (t ∷ ts) = omega (arith, first t, each ts)

-- A sum of ones counts the members.
pub sum_ones {ℓ} : {A : Type ℓ} (xs : List A) → sum (map (λ x. 1) xs) ≡ length xs
sum_ones [] = refl
sum_ones (x ∷ xs) = omega (arith, sum_ones xs)

pub sum_append : (xs ys : List ℕ) → sum (xs ++ ys) ≡ sum xs + sum ys
sum_append [] ys = omega arith
sum_append (x ∷ xs) ys = omega (arith, sum_append xs ys)

-- A sum is held against w, which is at most hi: then members above hi may count as hi + 1 (a column that is not there).
pub capped-sum {ℓ} : {A : Type ℓ} (hi c w : ℕ) (f : A → ℕ) (xs : List A) → w ≤ hi
    → leb (c + sum (map (λ x. min (f x) (suc hi)) xs)) w ≡ leb (c + sum (map f xs)) w
capped-sum {A = A} hi c w f xs h =
    let (u, v) = close xs in
    leb-same (c + sum (map (λ x. min (f x) (suc hi)) xs)) w (c + sum (map f xs)) w (λ a. omega (arith, v (omega arith))) (omega arith)
  where
    close : (xs : List A) → (sum (map (λ x. min (f x) (suc hi)) xs) ≤ sum (map f xs))
        × (sum (map (λ x. min (f x) (suc hi)) xs) ≤ hi → sum (map (λ x. min (f x) (suc hi)) xs) ≡ sum (map f xs))
    close [] = (omega arith, λ h. refl)
    close (x ∷ xs) = let (u, v) = close xs in (omega arith, λ h. omega (arith, v (omega arith)))

-- One number more at the end of a run.
pub sum-from : (f : ℕ → ℕ) (i m : ℕ) → sum (map f (from i (suc m))) ≡ sum (map f (from i m)) + f (i + m)
sum-from f i zero = omega (arith, ap f (add-zero i))
sum-from f i (suc m) = omega (arith, sum-from f (suc i) m, ap f (suc-add i m ∙ sym (add-suc i m)))
