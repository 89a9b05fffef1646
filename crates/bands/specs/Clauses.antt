-- What the steps on rows ask and give. Rows are named by their offset in the table; `before` and `after` are the table before and after the call. What a
-- row means is said by the function that its band stands for (oracle, Band), whatever that function is: asked, f and g are any.
use Rattle.std.specs.Prelude.{◌≡◌, Bool, true, ◌⊎◌, List, ℕ, ◌+◌, ◌-◌, ◌≤◌, ◌<◌, min, length, ℤ}
use Rattle.std.specs.Int.Signed.{le_z}
use Rattle.laws.specs.Extremes.{max_z}
use Rattle.oracle.specs.Band.{Band, LimitOn, Raised}
use Rattle.slices.specs.Laid.{max_delay, max_entry}
use Rattle.bands.specs.Entries.{row_at, over_delay, Apart, KeptOutside, merged_low, never, InRange, BandIn}

-- fill: the columns from `start` to before `end` become the value.
pub record Filled (before after : List ℤ) (row start end : ℕ) (value : ℤ) : Type 0 where
  pub kept : KeptOutside before after row end
  pub early : (w : ℕ) → w < start → row_at after row w ≡ row_at before row w
  pub entries : (w : ℕ) → start ≤ w → w < end → row_at after row w ≡ value

-- branch: one driven stage over delay d, under a limit.
pub record BranchIn (table : List ℤ) (from out start end d : ℕ) (limit : ℤ) : Type 0 where
  pub from_in : from + end ≤ length table
  pub out_in : out + end ≤ length table
  pub apart : Apart out from end
  pub small : d < max_delay
  pub range : BandIn max_entry table from start end
  pub limit_range : InRange max_entry limit

pub record Branched (before after : List ℤ) (from out start end d : ℕ) (limit : ℤ) : Type 0 where
  pub kept : KeptOutside before after out end
  pub range : BandIn merged_low after out start end
  pub band : (asked : ℤ → Bool) (hi : ℕ) (f g : ℤ → ℕ) → Band asked hi (over_delay before from d) start end f → LimitOn asked hi limit g
      → Band asked hi (row_at after out) start end (λ t. g t + f t)

-- merge: branches add (source 001, section 4.2.2).
pub record MergeIn (table : List ℤ) (a sa ea da b sb eb db out width : ℕ) : Type 0 where
  pub a-order : sa ≤ ea
  pub b-order : sb ≤ eb
  pub a-most : ea ≤ width
  pub b-most : eb ≤ width
  pub columns : 0 < width
  pub a_in : a + width ≤ length table
  pub b_in : b + width ≤ length table
  pub out_in : out + width ≤ length table
  pub apart-a : Apart out a width
  pub apart-b : Apart out b width
  pub small-a : da < max_delay
  pub small_b : db < max_delay
  pub range-a : (w : ℕ) → sa ≤ w → w < ea → InRange merged_low (over_delay table a da w)
  pub range-b : (w : ℕ) → sb ≤ w → w < eb → InRange merged_low (over_delay table b db w)

-- The first column of the merge, if it is among the columns.
abbrev pub merged_start : (sa sb width : ℕ) → ℕ
merged_start sa sb width = min (sa + sb) width

pub record Merged (before after : List ℤ) (a sa ea da b sb eb db out width r : ℕ) : Type 0 where
  pub order : merged_start sa sb width ≤ r
  pub most : r ≤ width
  pub kept : KeptOutside before after out width
  pub range : BandIn merged_low after out (merged_start sa sb width) r
  pub band : (asked : ℤ → Bool) (f g : ℤ → ℕ) → Band asked (width - 1) (over_delay before a da) sa ea f → Band asked (width - 1) (over_delay before b db) sb eb g
      → Band asked (width - 1) (row_at after out) (merged_start sa sb width) r (λ t. f t + g t)

-- spend: the better of what row `out` has and row `from` over delay d, at cost c.
pub record SpendIn (table : List ℤ) (from out start end c d : ℕ) : Type 0 where
  pub from_in : from + end ≤ length table
  pub out_in : out + (c + end) ≤ length table
  pub apart : Apart out from (c + end)
  pub small : d < max_delay
  pub range-from : (w : ℕ) → start ≤ w → w < end → InRange merged_low (over_delay table from d w)
  pub range_out : BandIn max_entry table out (c + start) (c + end)

pub record Spent (before after : List ℤ) (from out start end c d : ℕ) : Type 0 where
  pub kept : KeptOutside before after out (c + end)
  pub range : BandIn max_entry after out (c + start) (c + end)
  pub better : (w : ℕ) → c + start ≤ w → w < c + end → row_at after out w ≡ max_z (row_at before out w) (over_delay before from d (w - c))
  pub others : (w : ℕ) → (w < c + start) ⊎ (c + end ≤ w) → row_at after out w ≡ row_at before out w

-- raise: no entry is earlier than the one before it.
pub record RaiseIn (table : List ℤ) (row top : ℕ) : Type 0 where
  pub row_in : row + top ≤ length table
  pub range : BandIn max_entry table row 0 top

pub record RaisedRow (before after : List ℤ) (row top : ℕ) : Type 0 where
  pub kept : KeptOutside before after row top
  pub range : BandIn max_entry after row 0 top
  pub raised : Raised (row_at before row) (row_at after row) 0 top

-- widen: the columns of a row from `top` to before `to` become never, if there are such.
pub record Widened (before after : List ℤ) (row top to r : ℕ) : Type 0 where
  pub top_in : top ≤ r
  pub to_in : to ≤ r
  pub most : (m : ℕ) → top ≤ m → to ≤ m → r ≤ m
  pub kept : KeptOutside before after row r
  pub same : (w : ℕ) → w < top → row_at after row w ≡ row_at before row w
  pub new : (w : ℕ) → top ≤ w → w < r → row_at after row w ≡ never

-- cut: the columns of a raised row that matter for times from `early` to `late`.
pub record Cut (table : List ℤ) (row top : ℕ) (early late : ℤ) (start end : ℕ) : Type 0 where
  pub order : start ≤ end
  pub most : end ≤ top
  pub band : (asked : ℤ → Bool) (hi : ℕ) (f : ℤ → ℕ) → ((t : ℤ) → asked t ≡ true → le_z early t ≡ true) → ((t : ℤ) → asked t ≡ true → le_z t late ≡ true)
      → Band asked hi (row_at table row) 0 top f → Band asked hi (row_at table row) start end f
