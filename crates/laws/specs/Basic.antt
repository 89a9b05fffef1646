-- Small definitions that the rules are written with: numbers in order, sums, the members that pass a test, the least of a list.
use Rattle.std.specs.Prelude.{Bool, true, false, ◌&&◌, cond, if◌then◌else◌, ℕ, zero, suc, ◌+◌, min, max, leb, eqb, ℤ, pos}
use Rattle.std.proofs.Math.Option.{Option, none, some}
use mathlib.Core.List.{List, [], ◌∷◌, head?}
use Rattle.std.specs.Int.Signed.{le_z}

-- 1 for true, 0 for false
abbrev pub bit : Bool → ℕ
bit true = 1
bit false = 0

-- n numbers from i on
abbrev pub from : ℕ → ℕ → List ℕ
from i zero = []
from i (suc n) = i ∷ from (suc i) n

abbrev pub sum : List ℕ → ℕ
sum [] = 0
sum (x ∷ xs) = x + sum xs

-- every test passes
abbrev pub all : List Bool → Bool
all [] = true
all (x ∷ xs) = x && all xs

-- the members at which a test passes, in their order
abbrev pub keep {ℓ} : {A : Type ℓ} → (A → Bool) → List A → List A
keep test [] = []
keep test (x ∷ xs) = cond (test x) (x ∷ keep test xs) (keep test xs)

-- the members at the front of a list, before the first at which a test fails
abbrev pub leading {ℓ} : {A : Type ℓ} → (A → Bool) → List A → List A
leading test [] = []
leading test (x ∷ xs) = cond (test x) (x ∷ leading test xs) []

-- what is there of a list of options, in its order
abbrev pub somes {ℓ} : {A : Type ℓ} → List (Option A) → List A
somes [] = []
somes (none ∷ os) = somes os
somes (some x ∷ os) = x ∷ somes os

-- lo ≤ x ≤ hi, of numbers and of times
abbrev pub within : ℕ → ℕ → ℕ → Bool
within lo hi x = leb lo x && leb x hi

abbrev pub within_z : ℤ → ℤ → ℤ → Bool
within_z lo hi x = le_z lo x && le_z x hi

-- the lesser of two times, and the least of a list of times (0 for none)
abbrev pub min_z : ℤ → ℤ → ℤ
min_z a b = cond (le_z a b) a b

abbrev pub least_z : ℤ → List ℤ → ℤ
least_z a [] = a
least_z a (b ∷ bs) = min_z a (least_z b bs)

abbrev pub least_of : List ℤ → ℤ
least_of [] = pos 0
least_of (a ∷ bs) = least_z a bs

-- the least value of f over the members of a list (0 for none)
abbrev pub lowest1 {ℓ} : {A : Type ℓ} → (A → ℕ) → A → List A → ℕ
lowest1 f x [] = f x
lowest1 f x (y ∷ ys) = min (f x) (lowest1 f y ys)

abbrev pub lowest {ℓ} : {A : Type ℓ} → (A → ℕ) → List A → ℕ
lowest f [] = 0
lowest f (x ∷ xs) = lowest1 f x xs

-- the first member at which f has its least value
abbrev pub first_lowest {ℓ} : {A : Type ℓ} → (A → ℕ) → List A → Option A
first_lowest f xs = head? (keep (λ x. eqb (f x) (lowest f xs)) xs)

-- the greatest value of f over the members of a list (0 for none)
abbrev pub highest {ℓ} : {A : Type ℓ} → (A → ℕ) → List A → ℕ
highest f [] = 0
highest f (x ∷ xs) = max (f x) (highest f xs)

-- the largest number of 0 .. n that passes a test (0 if none does)
unfoldable pub largest : (ℕ → Bool) → ℕ → ℕ
largest test zero = 0
largest test (suc n) = if test (suc n) then suc n else largest test n
