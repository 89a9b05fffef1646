-- A time as the code holds it, in 64 bits: how many bytes stand for it at most, and which they are, by its sign.
use mathlib.Core.Path.{◌≡◌, refl}
use mathlib.Core.Bool.{true, false}
use mathlib.Core.List.{◌++◌}
use Prim.Native.Nat.{ℕ, suc, ◌≤◌}
use native.Mathlib.Omega.{arith}
use lib.ListN.{length, length-append}
use lib.IntN.{ℤ, pos, negsuc, nat_abs}
use lib.Signed.{lt_z}
use borrow.Author.Tests.{ltb-true}
use mir.Syntax.{w64}
use mir.Val.{SFits, to_z, of_z}
use mir.Facts.{to_z-of_z}
use Rattle.rules.specs.Text.{minus_sign, decimal, decimal_z}
use Rattle.text.proofs.Decimal.{decimal-length}

-- A time takes at most 20 bytes: a sign and 19 digits.
pub time_length : (t : ℤ) → SFits w64 t → length (decimal_z t) ≤ 20
unfolding decimal_z
time_length (pos n) f = omega (arith, decimal-length 18 n (omega (arith, f.sfits)))
time_length (negsuc n) f = omega (arith, length-append minus_sign (decimal (suc n)), decimal-length 18 (suc n) (omega (arith, f.sfits)))

-- The bytes of a time below 0, by its size n as the code has it: a sign, then the digits of the size.
pub time_below : (t : ℤ) (n : ℕ) → SFits w64 t → lt_z (to_z w64 (of_z w64 t)) (pos 0) ≡ true → n ≡ nat_abs (to_z w64 (of_z w64 t)) → decimal_z t ≡ minus_sign ++ decimal n
unfolding decimal_z
time_below (pos k) n f e size = absurd (omega (arith, ltb-true k 0 (rw (to_z-of_z f) at e)))
time_below (negsuc k) n f e size = rw (size, to_z-of_z f) refl

-- Those of a time from 0 on: the digits alone.
pub time_above : (t : ℤ) (n : ℕ) → SFits w64 t → lt_z (to_z w64 (of_z w64 t)) (pos 0) ≡ false → n ≡ nat_abs (to_z w64 (of_z w64 t)) → decimal_z t ≡ decimal n
unfolding decimal_z
time_above (pos k) n f e size = rw (size, to_z-of_z f) refl
time_above (negsuc k) n f e size = let below : true ≡ false = rw (to_z-of_z f) at e in cc
