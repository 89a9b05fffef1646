-- The places of numbers of one width, put one after the other.
use Rattle.std.proofs.Common.{ℕ, ◌+◌, ◌*◌, ◌<◌, ◌≤◌, arith}
use native.Mathlib.Nat.{mul-le-mul_right}

-- The number at place k of so many ends before the last place does.
pub one_more : (k times width : ℕ) → k < times → k * width + width ≤ times * width
one_more k times width h = omega (arith, mul-le-mul_right width h)
