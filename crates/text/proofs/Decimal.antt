-- The decimal digits of a number: the fewest that hold it are those of the definition, and they are no more than a bound by powers of ten says.
use mathlib.Core.Path.{◌≡◌, refl, ap}
use mathlib.Core.Bool.{Bool, true, false}
use mathlib.Core.List.{[], ◌∷◌, ◌++◌}
use Prim.Native.Nat.{ℕ, zero, suc, ◌+◌, ◌-◌, ◌/◌, ◌%◌, ◌^◌, ◌≤◌, ◌<◌}
use native.Mathlib.Omega.{arith}
use native.Mathlib.Nat.{pow-suc, pow-le-pow_right, mod-lt, mod-eq_of_lt, div-lt_iff_lt-mul, le-div_iff_mul-le, div-lt_self}
use lib.Dec.{ltb}
use lib.ListN.{length, length-append}
use borrow.Author.Tests.{ltb-true, ltb-false, lt-ltb, le-ltb}
use Rattle.io.specs.Digits.{last_digits, IsDigitCount}
use Rattle.rules.specs.Text.{digit, decimal_from, decimal}

-- n / 10 has one digit less.
one_less : (n k : ℕ) → n < 10 ^ suc k → n / 10 < 10 ^ k
one_less n k h = (div-lt_iff_lt-mul {k = 10} {x = n} {y = 10 ^ k} (omega arith)).1 (omega (arith, pow-suc 10 k))

-- The definition below 10, and from 10 on.
last-digit : (f n : ℕ) → n < 10 → decimal_from (suc f) n ≡ digit n ∷ []
unfolding decimal_from
last-digit f n h = rw (lt-ltb n 10 h, decimal_from)

more_digits : (f n : ℕ) → 10 ≤ n → decimal_from (suc f) n ≡ decimal_from f (n / 10) ++ (digit (n % 10) ∷ [])
unfolding decimal_from
more_digits f n h = rw (le-ltb n 10 h, decimal_from)

digits_from : (k n f : ℕ) → IsDigitCount 10 1 n (suc k) → n < f → last_digits 10 (suc k) n ≡ decimal_from f n
digits_from k n zero w h = absurd (omega arith)
digits_from zero n (suc f) w h =
    let b : n < 10 = omega (arith, w.1) in
    rw (last-digit f n b, mod-eq_of_lt b, lt-ltb n 10 b)
digits_from (suc k) n (suc f) w h =
    let back : (j : ℕ) → suc j - 1 ≡ j = λ j. omega arith in
    let low : 10 ^ suc k ≤ n = rw (back (suc k)) at (w.2 (omega arith)) in
    let ten : 10 ≤ n = omega (arith, pow-le-pow_right {n = 10} (omega arith) {i = 1} {j = suc k} (omega arith)) in
    let more : 1 < suc k → 10 ^ (suc k - 1) ≤ n / 10 = λ _. rw (back k) ((le-div_iff_mul-le {k = 10} {x = 10 ^ k} {y = n} (omega arith)).1 (omega (arith, pow-suc 10 k))) in
    let less : n / 10 < f = omega (arith, div-lt_self {n = n} {k = 10} (omega arith) (omega arith)) in
    rw (more_digits f n ten, lt-ltb (n % 10) 10 (mod-lt n (omega arith)), digits_from k (n / 10) f (omega arith, one_less n (suc k) w.1, more) less)

-- The fewest digits that hold n are its decimal digits.
pub digits_decimal : (k n : ℕ) → IsDigitCount 10 1 n k → last_digits 10 k n ≡ decimal n
unfolding decimal
digits_decimal zero n w = absurd (omega (arith, w.0))
digits_decimal (suc k) n w = digits_from k n (n + 1) w (omega arith)

from-length : (f k n : ℕ) → n < 10 ^ suc k → length (decimal_from f n) ≤ suc k
unfolding decimal_from
from-length zero k n h = omega arith
from-length (suc f) k n h = go k h (λ j. from-length f j (n / 10)) (ltb n 10) refl
  where
    go : (k : ℕ) → n < 10 ^ suc k → ((j : ℕ) → n / 10 < 10 ^ suc j → length (decimal_from f (n / 10)) ≤ suc j) → (b : Bool) → ltb n 10 ≡ b
        → length (decimal_from (suc f) n) ≤ suc k
    go k h shorter true e = omega (arith, ap length (last-digit f n (ltb-true n 10 e)))
    go zero h shorter false e = absurd (omega (arith, ltb-false n 10 e))
    go (suc k) h shorter false e =
        omega (arith, ap length (more_digits f n (ltb-false n 10 e)), length-append (decimal_from f (n / 10)) (digit (n % 10) ∷ []), shorter k (one_less n (suc k) h))

-- A number below 10^(k + 1) has at most k + 1 digits.
pub decimal-length : (k n : ℕ) → n < 10 ^ suc k → length (decimal n) ≤ suc k
unfolding decimal
decimal-length k n h = from-length (n + 1) k n h

-- A number of 64 bits has at most 20 digits, a byte's at most 3.
pub number_length : (n : ℕ) → n < 2 ^ 64 → length (decimal n) ≤ 20
number_length n h = decimal-length 19 n (omega arith)

pub byte_length : (n : ℕ) → n < 256 → length (decimal n) ≤ 3
byte_length n h = decimal-length 2 n (omega arith)
