-- A law of division in general.
use Rattle.std.specs.Prelude.{ℕ, ◌*◌, ◌/◌, ◌≤◌}
use Rattle.std.proofs.Common.{mul_comm, div-mul-le_self}

-- d times the quotient is no more than n.
pub mul_quotient_le : (n d : ℕ) → d * (n / d) ≤ n
mul_quotient_le n d = rw (mul_comm d (n / d)) (div-mul-le_self n d)
