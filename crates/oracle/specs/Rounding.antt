-- Costs rounded down to a grain: how far a sum of rounded costs may lie from the sum of the costs, and what doubling the grain does to it.
-- Source 000, section IV.B; source 001, section 5. The stage costs of a plan are a list cs of numbers, and g is the grain.
use Rattle.std.specs.Prelude.{◌≡◌, refl, List, [], ◌∷◌, ℕ, suc, ◌+◌, ◌*◌, ◌-◌, ◌/◌, ◌^◌, ◌≤◌, ◌<◌, length}
use Rattle.std.proofs.Common.{sym, div-add-mod', mod-lt, div-mul-le_self, div-one, pow-suc, sub-le, mul-le-mul_left, arith}
use Rattle.std.proofs.Math.Nat.{div-div-eq-div-mul, div-eq_of_lt, lt-div-mul-add, lt_of_mul-lt-mul_left}
use Rattle.laws.specs.Basic.{sum}
use Rattle.rules.specs.Grain.{rounded}

-- Rounding never adds, ..
pub rounded-below : (g : ℕ) (cs : List ℕ) → g * rounded g cs ≤ sum cs
rounded-below g [] = omega arith
rounded-below g (c ∷ cs) = omega (arith, div-mul-le_self c g, rounded-below g cs)

-- .. and takes less than one grain off each cost.
pub rounded-above : (g : ℕ) → 0 < g → (cs : List ℕ) → sum cs ≤ g * rounded g cs + length cs * (g - 1)
rounded-above g h [] = omega arith
rounded-above g h (c ∷ cs) = omega (arith, div-add-mod' c g, mod-lt c h, rounded-above g h cs)

-- At grain 1 nothing is rounded off.
pub rounded-one : (cs : List ℕ) → rounded 1 cs ≡ sum cs
rounded-one [] = refl
rounded-one (c ∷ cs) = omega (arith, div-one c, rounded-one cs)

halved : (c k : ℕ) → c / 2 ^ suc k ≡ c / 2 ^ k / 2
halved c k = rw pow-suc (sym (div-div-eq-div-mul c (2 ^ k) 2))

-- At twice the grain the rounded cost is about half: at most half, ..
pub rounded-halved : (k : ℕ) (cs : List ℕ) → 2 * rounded (2 ^ suc k) cs ≤ rounded (2 ^ k) cs
rounded-halved k [] = omega arith
rounded-halved k (c ∷ cs) = omega (arith, halved c k, rounded-halved k cs)

-- .. and short of half by at most a half for each cost.
pub rounded-doubled : (k : ℕ) (cs : List ℕ) → rounded (2 ^ k) cs ≤ 2 * rounded (2 ^ suc k) cs + length cs
rounded-doubled k [] = omega arith
rounded-doubled k (c ∷ cs) = omega (arith, halved c k, rounded-doubled k cs)

-- Costs that are together below the grain round to 0.
pub rounded-small : (g : ℕ) (cs : List ℕ) → sum cs < g → rounded g cs ≡ 0
rounded-small g [] h = refl
rounded-small g (c ∷ cs) h =
    let a : c < g = omega arith in
    let b : sum cs < g = omega arith in
    rw (div-eq_of_lt a, rounded-small g cs b)

-- a divided by p, rounded up.
abbrev pub divided_up : ℕ → ℕ → ℕ
divided_up a p = (a + (p - 1)) / p

pub divided_up-enough : (a p : ℕ) → 0 < p → a ≤ p * divided_up a p
divided_up-enough a p h = omega (arith, lt-div-mul-add {a = a + (p - 1)} h)

-- The needed columns, in numbers: v is V(k), w is V(k + 1), g the grain 2^(k + 1), which does not qualify.
pub columns-within : (g v w p q s : ℕ) → 0 < p → v ≤ 2 * w + s → p * g * w < q * s * (g - 1) → v + 1 ≤ s + divided_up (2 * q * s) p
columns-within g v w p q s pos d bad =
    let e : g * (p * w) < g * (q * s) = omega (arith, mul-le-mul_left (q * s) (sub-le g 1)) in
    let f : p * w < q * s = lt_of_mul-lt-mul_left g e in
    let h : p * v < p * (s + divided_up (2 * q * s) p) = omega (arith, mul-le-mul_left p d, divided_up-enough (2 * q * s) p pos) in
    omega (arith, lt_of_mul-lt-mul_left p h)
