-- What the definitions of 01 give at the values that the code has in hand: numbers byte by byte, and what an accepted field is.
use Rattle.std.specs.Prelude.{if◌then◌else◌}
use mathlib.Core.Path.{◌≡◌, refl, ap}
use mathlib.Core.Bool.{Bool, true, false}
use mathlib.Core.List.{List}
use Prim.Native.Nat.{ℕ, ◌+◌, ◌*◌, ◌-◌, ◌^◌, ◌/◌, ◌<◌, ◌≤◌}
use native.Mathlib.Nat.{pow-le-pow_right, pow-suc, lt_of_lt_of_le}
use native.Mathlib.Numerals.{add-one}
use native.Mathlib.Omega.{arith}
use lib.Dec.{lit<, leb, eqb}
use lib.ListN.{length, get_or}
use borrow.Author.Tests.{leb-true}
use Rattle.rules.specs.Bytes.{Field, via_layers_tag, number, field_at, next, layer_size}
use Rattle.rules.specs.Reading.{accept, ◌>>◌, ◌unless◌, field}

-- a number of fewer than four bytes has room for one byte more
pub number-room : (x k w : ℕ) → x < 256 ^ k → k < w → w ≤ 4 → x < 256 ^ 3
number-room x k w h p q = lt_of_lt_of_le h (pow-le-pow_right {n = 256} (lit< tt) {i = k} {j = 3} (omega arith))

pub byte_more : (x k b : ℕ) → x < 256 ^ k → b < 256 → x * 256 + b < 256 ^ (k + 1)
byte_more x k b h p = rw (add-one, pow-suc) (omega arith)

pub number_more : (bs : List ℕ) (i k x : ℕ) → x ≡ number bs i k → x * 256 + get_or bs (i + k) 0 ≡ number bs i (k + 1)
unfolding number
number_more bs i k x e = rw (e, add-one)

-- eight bytes are two numbers of four
pub number-halves : (bs : List ℕ) (i : ℕ) → number bs i 8 ≡ number bs i 4 * 4294967296 + number bs (i + 4) 4
unfolding number
number-halves bs i = omega (
  arith,
  same (i + 5) (i + 4 + 1) (omega arith),
  same (i + 6) (i + 4 + 2) (omega arith),
  same (i + 7) (i + 4 + 3) (omega arith),
  same (i + 4) (i + 4 + 0) (omega arith),
)
  where
    same : (j k : ℕ) → j ≡ k → get_or bs j 0 ≡ get_or bs k 0
    same j k e = ap (λ (m : ℕ). get_or bs m 0) e

-- a field that was accepted is the one whose head stands there, is allowed and lies within the bytes
pub record Inside (due : ℕ → ℕ → Bool) (bs : List ℕ) (i : ℕ) (f : Field) : Type 0 where
  pub is : f ≡ field_at bs i
  pub begins : f.start ≡ i + 3
  pub ends : f.start + f.size ≤ length bs
  pub allowed : due f.tag f.size ≡ true

inverted : {A : Type 0} (a b c : Bool) {g f : A} → ◌>>◌ (1 unless a) (◌>>◌ (2 unless b) (◌>>◌ (1 unless c) (accept g))) ≡ accept f
    → (b ≡ true) × (c ≡ true) × (f ≡ g)
inverted true true true e = (refl, refl, cc)
inverted true true false e = let z : ◌≡◌ {A = ℕ} 0 1 = cc in absurd (omega arith)
inverted true false c e = let z : ◌≡◌ {A = ℕ} 0 1 = cc in absurd (omega arith)
inverted false b c e = let z : ◌≡◌ {A = ℕ} 0 1 = cc in absurd (omega arith)

pub field-inside : (due : ℕ → ℕ → Bool) (bs : List ℕ) (i : ℕ) {f : Field} → field due bs i ≡ accept f → Inside due bs i f
unfolding field field_at next
field-inside due bs i e =
    let v = inverted (leb (i + 3) (length bs)) (due (number bs i 1) (number bs (i + 1) 2))
    (leb (i + 3 + number bs (i + 1) 2) (length bs)) {g = field_at bs i} e in
    rw v.2 (record { is = refl; begins = refl; ends = leb-true _ _ v.1; allowed = v.0 })

-- the layers of a payload are the first and those after it
pub first_and_rest : (tag size : ℕ) → layer_size tag ≤ size → 1 + (size - layer_size tag) / layer_size tag ≡ size / layer_size tag
first_and_rest tag size = go (eqb tag via_layers_tag)
  where
    go : (b : Bool) → (if b then 6 else 4) ≤ size → 1 + (size - (if b then 6 else 4)) / (if b then 6 else 4) ≡ size / (if b then 6 else 4)
    go true h = omega arith
    go false h = omega arith
