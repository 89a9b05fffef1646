-- The entries of the work table: a row by its offset, what a write leaves unchanged, and bounds that keep every entry and every difference within 64 bits.
use Rattle.std.specs.Prelude.{◌≡◌, refl, Bool, true, false, cond, List, ℕ, ◌+◌, ◌-◌, ◌*◌, ◌≤◌, ◌<◌, length, get_or, ℤ, pos, negsuc, ◌-ℤ◌}
use Rattle.std.proofs.Common.{sym, arith, mul-le-mul_right, SFits}
use Rattle.std.specs.Int.Signed.{le_z}
use Rattle.std.specs.Int.{w64}
use Rattle.laws.specs.Basic.{min_z}
use Rattle.laws.specs.Extremes.{max_z}
use Rattle.slices.specs.Laid.{max_entry, max_delay}
use Rattle.laws.specs.Integers.{up, down, pos_view, minus_up, minus_down, minus_view, same_view, fits-parts, le_true, thin}

-- Entry w of the row that starts at `off`.
abbrev pub row_at : List ℤ → ℕ → ℕ → ℤ
row_at table off w = get_or table (off + w) (pos 0)

-- Entry w of the same row over a delay: the time at which the driving stage is to be reached.
abbrev pub over_delay : List ℤ → (off d : ℕ) → ℕ → ℤ
over_delay table off d w = row_at table off w -ℤ pos d

-- Place m is none of the `size` places from `off` on.
abbrev pub Outside : ℕ → ℕ → ℕ → Type 0
Outside m off size = (w : ℕ) → w < size → m ≡ off + w → ⊥

-- Two rows that share no place.
abbrev pub Apart : ℕ → ℕ → ℕ → Type 0
Apart p q width = (w : ℕ) → w < width → Outside (p + w) q width

pub apart-sym : (p q width : ℕ) → Apart p q width → Apart q p width
apart-sym p q width a w h v k e = a v k w h (sym e)

-- What a write to the `size` entries from `off` on leaves: the length, and every other entry.
pub record KeptOutside (before after : List ℤ) (off size : ℕ) : Type 0 where
  pub long : length after ≡ length before
  pub others : (m : ℕ) → Outside m off size → get_or after m (pos 0) ≡ get_or before m (pos 0)

-- No time at all: it is before every time at which a stage is reached.
abbrev pub never : ℤ
never = negsuc (max_entry - 1)

-- What is merged can be earlier than a time of a finished row by one delay; it and its differences fit signed 64 bits.
abbrev pub merged_low : ℕ
merged_low = max_entry + max_delay

-- z lies from -low to max_entry.
pub record InRange (low : ℕ) (z : ℤ) : Type 0 where
  pub above : up z ≤ max_entry
  pub below : down z ≤ low

-- Every entry of the columns from `start` to before `end` does.
abbrev pub BandIn : ℕ → List ℤ → (off start end : ℕ) → Type 0
BandIn low table off start end = (w : ℕ) → start ≤ w → w < end → InRange low (row_at table off w)

pub range-fits : (z : ℤ) → InRange merged_low z → SFits w64 z
unfolding up down
range-fits (pos x) h = record { sfits = omega (arith, h.above) }
range-fits (negsuc x) h = record { sfits = omega (arith, h.below) }

-- Over a delay.
pub range_minus : (z : ℤ) (d : ℕ) → d < max_delay → InRange max_entry z → InRange merged_low (z -ℤ pos d)
range_minus z d h r = record {
  above = omega (arith, minus_up z (pos d), pos_view d, r.above);
  below = omega (arith, minus_down z (pos d), pos_view d, r.below);
}

-- What is in range over a delay fits 64 bits before it too.
pub range-before : (z : ℤ) (d : ℕ) → d < max_delay → InRange merged_low (z -ℤ pos d) → SFits w64 z
range-before z d h r = fits-parts z (omega (arith, minus_view z d, r.above, thin z, thin (z -ℤ pos d))) (omega (arith, minus_view z d, r.below, thin z, thin (z -ℤ pos d)))

-- Over no delay.
pub no_delay : (z : ℤ) → z -ℤ pos 0 ≡ z
no_delay z = same_view (z -ℤ pos 0) z (omega (arith, minus_view z 0))

pub range-more : (z : ℤ) → InRange max_entry z → InRange merged_low z
range-more z r = record { above = r.above; below = omega (arith, r.below) }

-- The lesser of two is in range if both are.
pub range-min : (low : ℕ) (x y : ℤ) → InRange low x → InRange low y → InRange low (min_z x y)
range-min low x y r s = go (le_z x y)
  where
    go : (b : Bool) → InRange low (cond b x y)
    go true = r
    go false = s

-- The later of two is no lower than the first.
pub range-max : (x y : ℤ) → InRange max_entry x → InRange merged_low y → InRange max_entry (max_z x y)
range-max x y r s = go (le_z x y) refl
  where
    go : (b : Bool) → le_z x y ≡ b → InRange max_entry (cond b y x)
    go true e = record { above = s.above; below = omega (arith, le_true x y e, r.below, thin y, thin x) }
    go false e = r

pub never-range : InRange max_entry never
unfolding up down
never-range = record { above = omega arith; below = omega arith }

-- Where rows stand: one after the other, and the merging rows after the last.
module _ (width : ℕ) where
  pub row_ends : (j m : ℕ) → j < m → j * width + width ≤ m * width
  row_ends j m h = omega (arith, mul-le-mul_right width h)

  pub row_outside : (i j w : ℕ) → i < j → w < width → Outside (j * width + w) (i * width) width
  row_outside i j w a h v b e = omega (arith, row_ends i j a)

  pub row_unmerged : (stages j w : ℕ) → j < stages → w < width → Outside (j * width + w) (stages * width) (width + width)
  row_unmerged stages j w a h v b e = omega (arith, row_ends j stages a)
