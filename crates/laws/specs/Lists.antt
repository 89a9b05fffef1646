-- Laws of lists: numbers in order, members, the members that pass a test, one member more at the end.
use Rattle.std.specs.Prelude.{◌≡◌, refl, Bool, true, false, ◌⊎◌, ℕ, zero, suc, ◌+◌, ◌*◌, ◌-◌, ◌≤◌, ◌<◌, length, get_or, set, eqb, cond}
use Rattle.std.proofs.Common.{ap, sym, ◌∙◌, inl, inr, eq-or-lt_of_le, add-zero, add-one, length-append, get_or-set_same, get_or-set_other, eq-eqb, ne_eqb}
use Rattle.std.proofs.Math.Option.{Option, none, some}
use mathlib.Core.List.Memᴰ
use mathlib.Core.List.{List, [], ◌∷◌, ◌++◌, map, head?, Memᴰ}
use native.Mathlib.Omega.{arith}
use Rattle.std.proofs.Math.Nat.{sub-zero}
use Rattle.laws.specs.Basic.{bit, from, all, keep}
use Rattle.laws.specs.Booleans.{and_left, and_right, same_or}

-- numbers in order
pub length_from : (i n : ℕ) → length (from i n) ≡ n
length_from i zero = refl
length_from i (suc n) = ap suc (length_from (suc i) n)

pub from_more : (i n : ℕ) → from i (suc n) ≡ from i n ++ ((i + n) ∷ [])
from_more i zero = ap (λ (k : ℕ). k ∷ []) (sym (add-zero i))
from_more i (suc n) = ap (λ (l : List ℕ). i ∷ l) (from_more (suc i) n ∙ ap (λ (k : ℕ). from (suc i) n ++ (k ∷ [])) (omega arith))

pub mem-from : (i n l : ℕ) → i ≤ l → l < i + n → Memᴰ l (from i n)
mem-from i zero l h k = absurd (omega arith)
mem-from i (suc n) l h k = go (mem-from (suc i) n l) (eq-or-lt_of_le h)
  where
    go : (suc i ≤ l → l < suc i + n → Memᴰ l (from (suc i) n)) → (i ≡ l) ⊎ (i < l) → Memᴰ l (from i (suc n))
    go r (inl e) = Memᴰ.head (sym e)
    go r (inr a) = Memᴰ.tail (r a (omega arith))

pub from-mem : (i n l : ℕ) → Memᴰ l (from i n) → l < i + n
from-mem i zero l m = absurd (Memᴰ.not-nil m)
from-mem i (suc n) l (Memᴰ.head e) = omega arith
from-mem i (suc n) l (Memᴰ.tail m) = omega (arith, from-mem (suc i) n l m)

pub from_low : (i m j : ℕ) → Memᴰ j (from i m) → i ≤ j
from_low i zero j h = absurd (Memᴰ.not-nil h)
from_low i (suc m) j (Memᴰ.head e) = omega arith
from_low i (suc m) j (Memᴰ.tail h) = omega (arith, from_low (suc i) m j h)

-- a list with a member
abbrev pub Some {ℓ} : {A : Type ℓ} → List A → Type 0
Some [] = ⊥
Some (x ∷ xs) = Unit {0}

pub some-mem {ℓ} : {A : Type ℓ} {x : A} (xs : List A) → Memᴰ x xs → Some xs
some-mem [] m = absurd (Memᴰ.not-nil m)
some-mem (y ∷ ys) m = tt

pub some-map {ℓ κ} : {A : Type ℓ} {B : Type κ} (f : A → B) (xs : List A) → Some xs → Some (map f xs)
some-map f [] s = s
some-map f (x ∷ xs) s = tt

pub some_left {ℓ} : {A : Type ℓ} (xs ys : List A) → Some xs → Some (xs ++ ys)
some_left [] ys s = absurd s
some_left (x ∷ xs) ys s = tt

pub some_right {ℓ} : {A : Type ℓ} (xs ys : List A) → Some ys → Some (xs ++ ys)
some_right [] ys s = s
some_right (x ∷ xs) ys s = tt

pub some-from : (i n : ℕ) → 0 < n → Some (from i n)
some-from i zero h = absurd (omega arith)
some-from i (suc n) h = tt

-- maps
pub map-map {ℓ κ μ} : {A : Type ℓ} {B : Type κ} {C : Type μ} (g : B → C) (f : A → B) (xs : List A) → map g (map f xs) ≡ map (λ x. g (f x)) xs
map-map g f [] = refl
map-map g f (x ∷ xs) = ap (λ ys. g (f x) ∷ ys) (map-map g f xs)

pub map_at {ℓ} : {A : Type ℓ} (f : ℕ → A) (d : A) (i n k : ℕ) → k < n → get_or (map f (from i n)) k d ≡ f (i + k)
map_at f d i zero k h = absurd (omega arith)
map_at f d i (suc n) zero h = ap f (sym (add-zero i))
map_at f d i (suc n) (suc k) h = map_at f d (suc i) n k (omega arith) ∙ ap f (omega arith)

pub map_same {ℓ κ} : {A : Type ℓ} {B : Type κ} (f g : A → B) (xs : List A) → ((x : A) → Memᴰ x xs → f x ≡ g x) → map f xs ≡ map g xs
map_same f g [] h = refl
map_same f g (x ∷ xs) h = cc (h x (Memᴰ.head refl), map_same f g xs (λ y m. h y (Memᴰ.tail m)))

pub mem-map {ℓ κ} : {A : Type ℓ} {B : Type κ} (f : A → B) {x : A} {xs : List A} → Memᴰ x xs → Memᴰ (f x) (map f xs)
mem-map f (Memᴰ.head e) = Memᴰ.head (ap f e)
mem-map f (Memᴰ.tail m) = Memᴰ.tail (mem-map f m)

pub map-mem {ℓ κ} : {A : Type ℓ} {B : Type κ} (f : A → B) {y : B} (xs : List A) → Memᴰ y (map f xs) → (x : A) × Memᴰ x xs × (y ≡ f x)
map-mem f [] m = absurd (Memᴰ.not-nil m)
map-mem f (x ∷ xs) (Memᴰ.head e) = (x, Memᴰ.head refl, e)
map-mem f (x ∷ xs) (Memᴰ.tail m) = let (z, a, b) = map-mem f xs m in (z, Memᴰ.tail a, b)

-- the members that pass a test
module _ {ℓ} {A : Type ℓ} (test : A → Bool) where
  pub mem-keep : {x : A} (xs : List A) → Memᴰ x xs → test x ≡ true → Memᴰ x (keep test xs)
  mem-keep {x = x} [] m t = elim m [ ]
  mem-keep (y ∷ xs) (Memᴰ.head e) t = rw (ap test (sym e) ∙ t) (Memᴰ.head e)
  mem-keep {x} (y ∷ xs) (Memᴰ.tail m) t = go (test y) (mem-keep xs m t)
    where
      go : (b : Bool) → Memᴰ x (keep test xs) → Memᴰ x (cond b (y ∷ keep test xs) (keep test xs))
      go true k = Memᴰ.tail k
      go false k = k

  pub keep-mem : {x : A} (xs : List A) → Memᴰ x (keep test xs) → Memᴰ x xs × (test x ≡ true)
  keep-mem [] m = absurd (Memᴰ.not-nil m)
  keep-mem {x} (y ∷ xs) m = go (test y) refl m (keep-mem xs)
    where
      go : (b : Bool) → test y ≡ b → Memᴰ x (cond b (y ∷ keep test xs) (keep test xs)) → (Memᴰ x (keep test xs) → Memᴰ x xs × (test x ≡ true)) → Memᴰ x (y ∷ xs) × (test x ≡ true)
      go true e (Memᴰ.head a) r = (Memᴰ.head a, ap test a ∙ e)
      go true e (Memᴰ.tail m) r = let (a, b) = r m in (Memᴰ.tail a, b)
      go false e m r = let (a, b) = r m in (Memᴰ.tail a, b)

  pub head-keep : {x : A} (xs : List A) → head? (keep test xs) ≡ some x → Memᴰ x xs × (test x ≡ true)
  head-keep {x} xs e = go (keep test xs) refl e
    where
      go : (ys : List A) → keep test xs ≡ ys → head? ys ≡ some x → Memᴰ x xs × (test x ≡ true)
      go [] f e = let z : ◌≡◌ {A = ℕ} 0 1 = cc in absurd (omega arith)
      go (y ∷ ys) f e = let z : x ≡ y = cc in keep-mem xs (rw f (Memᴰ.head z))

  -- the first that passes
  abbrev pub find : List A → Option A
  find [] = none
  find (x ∷ xs) = cond (test x) (some x) (find xs)

  pub find-keep : (xs : List A) → head? (keep test xs) ≡ find xs
  find-keep [] = refl
  find-keep (x ∷ xs) = go (test x) (find-keep xs)
    where
      go : (b : Bool) → head? (keep test xs) ≡ find xs → head? (cond b (x ∷ keep test xs) (keep test xs)) ≡ (cond b (some x) (find xs))
      go true e = refl
      go false e = e

pub find_cong {ℓ} : {A : Type ℓ} (p q : A → Bool) (xs : List A) → ((x : A) → Memᴰ x xs → p x ≡ q x) → find p xs ≡ find q xs
find_cong p q [] h = refl
find_cong p q (x ∷ xs) h = rw (h x (Memᴰ.head refl), find_cong p q xs (λ y m. h y (Memᴰ.tail m)))

-- one member more at the end
pub length_more {ℓ} : {A : Type ℓ} (xs : List A) (x : A) → length (xs ++ (x ∷ [])) ≡ length xs + 1
length_more xs x = length-append xs (x ∷ [])

pub last-is {ℓ} : {A : Type ℓ} (xs : List A) (x d : A) → get_or (xs ++ (x ∷ [])) (length xs) d ≡ x
last-is [] x d = refl
last-is (y ∷ ys) x d = last-is ys x d

pub others-are {ℓ} : {A : Type ℓ} (xs : List A) (x d : A) (j : ℕ) → (j ≡ length xs → ⊥) → get_or (xs ++ (x ∷ [])) j d ≡ get_or xs j d
others-are [] x d zero h = absurd (h refl)
others-are [] x d (suc j) h = refl
others-are (y ∷ ys) x d zero h = refl
others-are (y ∷ ys) x d (suc j) h = others-are ys x d j (λ e. h (ap suc e))

pub keep-more {ℓ} : {A : Type ℓ} (f : A → Bool) (xs : List A) (x : A) → length (keep f (xs ++ (x ∷ []))) ≡ length (keep f xs) + bit (f x)
keep-more f [] x = go (f x)
  where
    go : (b : Bool) → length (cond b (x ∷ []) []) ≡ 0 + bit b
    go true = omega arith
    go false = omega arith
keep-more f (y ∷ xs) x = go (f y) (keep-more f xs x)
  where
    go : (b : Bool) → length (keep f (xs ++ (x ∷ []))) ≡ length (keep f xs) + bit (f x)
        → length (cond b (y ∷ keep f (xs ++ (x ∷ []))) (keep f (xs ++ (x ∷ [])))) ≡ length (cond b (y ∷ keep f xs) (keep f xs)) + bit (f x)
    go true e = omega arith
    go false e = e

pub keep_le {ℓ} : {A : Type ℓ} (f : A → Bool) (xs : List A) → length (keep f xs) ≤ length xs
keep_le f [] = omega arith
keep_le f (x ∷ xs) = go (f x) (keep_le f xs)
  where
    go : (b : Bool) → length (keep f xs) ≤ length xs → length (cond b (x ∷ keep f xs) (keep f xs)) ≤ suc (length xs)
    go true h = omega arith
    go false h = omega arith

-- a test that every number of a run passes
pub all-at : (f : ℕ → Bool) (i m o : ℕ) → o < m → all (map f (from i m)) ≡ true → f (i + o) ≡ true
all-at f i zero o h e = absurd (omega arith)
all-at f i (suc m) zero h e = ap f (add-zero i) ∙ and_left (f i) _ e
all-at f i (suc m) (suc o) h e = ap f (omega arith) ∙ all-at f (suc i) m o (omega arith) (and_right (f i) _ e)

-- a test of each member is one of each entry
pub all-entries {ℓ} : {A : Type ℓ} (f : A → Bool) (d : A) (xs : List A) → all (map f xs) ≡ all (map (λ k. f (get_or xs k d)) (from 0 (length xs)))
all-entries {A = A} f d xs = ap all (go xs (λ k. get_or xs k d) 0 (λ k h. ap (λ (i : ℕ). get_or xs i d) (omega arith)))
  where
    go : (ys : List A) (entry : ℕ → A) (i : ℕ) → ((k : ℕ) → k < length ys → entry (i + k) ≡ get_or ys k d) → map f ys ≡ map (λ k. f (entry k)) (from i (length ys))
    go [] entry i h = refl
    go (y ∷ ys) entry i h =
        cc (ap f (sym (h 0 (omega arith))), ap (λ (k : ℕ). f (entry k)) (add-zero i), go ys entry (suc i) (λ k b. ap entry (omega arith) ∙ h (suc k) (omega arith)))

-- the test of the numbers from k up to n, as a loop makes it
unfoldable pub scan : (ℕ → Bool) → ℕ → ℕ → Bool
scan p k n = all (map p (from k (n - k)))

module _ (p : ℕ → Bool) (n : ℕ) where
  pub scan-start : scan p 0 n ≡ all (map p (from 0 n))
  unfolding scan
  scan-start = rw sub-zero

  pub scan_end : (k : ℕ) → n ≤ k → scan p k n ≡ true
  unfolding scan
  scan_end k h = let e : n - k ≡ 0 = omega arith in rw e

  module _ {k : ℕ} (h : k < n) where
    one_less : n - k ≡ suc (n - (k + 1))
    one_less = omega arith

    pub scan_no : p k ≡ false → scan p k n ≡ false
    unfolding scan
    scan_no e = rw one_less (simp e)

    pub scan-more : p k ≡ true → scan p k n ≡ scan p (k + 1) n
    unfolding scan
    scan-more e = rw (one_less, add-one) (simp e)

-- What a test shows of its members, and what holds of the default, holds of every entry of a list whose members all pass.
pub all_get_d {ℓ} : {A : Type ℓ} (test : A → Bool) (P : A → Type 0) {d : A} → ((x : A) → test x ≡ true → P x) → P d
    → (xs : List A) (i : ℕ) → all (map test xs) ≡ true → P (get_or xs i d)
all_get_d test P shows p [] i e = p
all_get_d test P shows p (x ∷ xs) zero e = shows x (and_left (test x) _ e)
all_get_d test P shows p (x ∷ xs) (suc i) e = all_get_d test P shows p xs i (and_right (test x) _ e)

-- Where a member passes, one entry does.
pub some-passes {ℓ} : {A : Type ℓ} (test : A → Bool) (d : A) (xs : List A) → 1 ≤ length (keep test xs) → (i : ℕ) × (i < length xs) × (test (get_or xs i d) ≡ true)
some-passes test d [] h = absurd (omega arith)
some-passes test d (x ∷ xs) h = go (test x) refl h (some-passes test d xs)
  where
    go : (b : Bool) → test x ≡ b → 1 ≤ length (cond b (x ∷ keep test xs) (keep test xs))
        → (1 ≤ length (keep test xs) → (i : ℕ) × (i < length xs) × (test (get_or xs i d) ≡ true))
        → (i : ℕ) × (i < suc (length xs)) × (test (get_or (x ∷ xs) i d) ≡ true)
    go true e h r = (0, omega arith, e)
    go false e h r = let (i, a, b) = r h in (suc i, omega arith, b)

-- As many members pass as numbers do, if entry m has the number i + m.
pub count-by-number {ℓ} : {A : Type ℓ} (test : A → Bool) (d : A) (xs : List A) (entry : ℕ → A) (i : ℕ) → ((m : ℕ) → m < length xs → entry (i + m) ≡ get_or xs m d)
    → length (keep test xs) ≡ length (keep (λ j. test (entry j)) (from i (length xs)))
count-by-number test d [] entry i h = refl
count-by-number test d (x ∷ xs) entry i h =
    let e : entry i ≡ x = ap entry (sym (add-zero i)) ∙ h 0 (omega arith) in
    rw e (go (test x) (count-by-number test d xs entry (suc i) (λ m b. ap entry (omega arith) ∙ h (suc m) (omega arith))))
  where
    go : (b : Bool) → length (keep test xs) ≡ length (keep (λ j. test (entry j)) (from (suc i) (length xs)))
        → length (cond b (x ∷ keep test xs) (keep test xs))
        ≡ length (cond b (i ∷ keep (λ j. test (entry j)) (from (suc i) (length xs))) (keep (λ j. test (entry j)) (from (suc i) (length xs))))
    go true e = ap suc e
    go false e = e

-- a number added to an entry
pub added : (l : List ℕ) (i j x : ℕ) → i < length l → get_or (set l i (get_or l i 0 + x)) j 0 ≡ get_or l j 0 + x * bit (eqb i j)
added l i j x h = go (same_or i j)
  where
    go : (j ≡ i) ⊎ (j ≡ i → ⊥) → get_or (set l i (get_or l i 0 + x)) j 0 ≡ get_or l j 0 + x * bit (eqb i j)
    go (inl e) = rw e (get_or-set_same l i _ 0 h ∙ rw (eq-eqb i i refl) (omega arith))
    go (inr e) = get_or-set_other l i j _ 0 e ∙ rw (ne_eqb i j (λ q. e (sym q))) (omega arith)
