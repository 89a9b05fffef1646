-- What the merging asks and gives. Rows are named by their offset in the table; `before` and `after` are the table before and after the call. The functions
-- that the bands stand for are any.
use Rattle.std.specs.Prelude.{◌≡◌, Bool, true, ◌⊎◌, List, map, ℕ, suc, ◌+◌, ◌-◌, ◌*◌, ◌≤◌, ◌<◌, min, eqb, length, get_or, ℤ, pos, ◌+ℤ◌}
use Rattle.std.specs.Int.Signed.{le_z}
use Rattle.laws.specs.Basic.{from, sum, keep}
use Rattle.rules.specs.Bytes.{max_layers}
use Rattle.oracle.specs.Band.{Band, LimitOn}
use Rattle.fanout.specs.Clauses.{Linked}
use Rattle.slices.specs.Laid.{on_layer, limit_on, max_delay, max_entry}
use Rattle.slices.specs.declared.Tree.{Tree}
use Rattle.slices.specs.declared.Links.{Links}
use Rattle.slices.specs.declared.Bands.{Bands}
use Rattle.bands.specs.declared.Part.{Part}
use Rattle.bands.specs.Entries.{row_at, over_delay, KeptOutside, merged_low, InRange, BandIn}

-- Every time asked is `last` at most.
abbrev pub UpTo : ℤ → (ℤ → Bool) → Type 0
UpTo last asked = (t : ℤ) → asked t ≡ true → le_z t last ≡ true

-- limited: the band at `from` over delay d, under a limit, in its own row or in row `out`.
pub record Limited (before after : List ℤ) (from start end d : ℕ) (limit last : ℤ) (out row over : ℕ) : Type 0 where
  pub place_is : (row ≡ from) ⊎ (row ≡ out)
  pub small : over < max_delay
  pub kept : KeptOutside before after out end
  pub range : (w : ℕ) → start ≤ w → w < end → InRange merged_low (over_delay after row over w)
  pub band : (asked : ℤ → Bool) (hi : ℕ) (f g : ℤ → ℕ) → UpTo last asked → Band asked hi (over_delay before from d) start end f → LimitOn asked hi limit g
      → Band asked hi (over_delay after row over) start end (λ t. g t + f t)

-- seen: what its driving stage, on layer l, sees of stage j, whose row is `base`.
pub record SeenIn (delay starts ends : List ℕ) (j l : ℕ) : Type 0 where
  pub delay_in : j * max_layers + l < length delay
  pub start_in : j < length starts
  pub end_in : j < length ends

pub record Seen (delay starts ends : List ℕ) (base left j l row start end d : ℕ) : Type 0 where
  pub row_is : row ≡ base
  pub start_is : start ≡ min (get_or starts j 0) left
  pub end_is : end ≡ min (get_or ends j 0) left
  pub delay-is : d ≡ on_layer delay j l

-- Stage j has a band in the table, and it is finished.
pub record BandOf (table : List ℤ) (starts ends : List ℕ) (width j : ℕ) : Type 0 where
  pub order : get_or starts j 0 ≤ get_or ends j 0
  pub most : get_or ends j 0 ≤ width
  pub range : BandIn max_entry table (j * width) (get_or starts j 0) (get_or ends j 0)

-- branches: all stages that stage i drives, i on layer l, under its own limit, for budgets below `left`.
pub record BranchesIn (table : List ℤ) (driver first next delay : List ℕ) (limit : List ℤ) (starts ends : List ℕ) (stages width left i l : ℕ) : Type 0 where
  pub some_left : 0 < left
  pub left-most : left ≤ width
  pub stage : i < stages
  pub sized : (stages + 2) * width ≤ length table
  pub linked : Linked driver first next stages
  pub starts_long : stages ≤ length starts
  pub ends-long : stages ≤ length ends
  pub delays : (j : ℕ) → i < j → j < stages → j * max_layers + l < length delay
  pub limits : i * max_layers + l < length limit
  pub delay-range : (j : ℕ) → i < j → j < stages → on_layer delay j l < max_delay
  pub limit_range : InRange max_entry (limit_on limit i l)
  pub bands : (j : ℕ) → i < j → j < stages → BandOf table starts ends width j

-- The same of the structs.
abbrev pub BranchesOf : List ℤ → Tree → Links → Bands → (width left i l : ℕ) → Type 0
BranchesOf table tree links bands width left i l =
    BranchesIn table tree.driver.now links.first.now links.next.now tree.delay.now tree.limit.now bands.starts.now bands.ends.now tree.stages width left i l

-- What the stages that stage i drives ask together at time t, each by its function.
abbrev pub driven_ask : (driver delay : List ℕ) (stages i l : ℕ) → (ℕ → ℤ → ℕ) → ℤ → ℕ
driven_ask driver delay stages i l f t =
    sum (map (λ j. f j (t +ℤ pos (on_layer delay j l))) (keep (λ j. eqb (get_or driver j 0) i) (from (suc i) (stages - suc i))))

-- The stages after stage i have bands for f, and a stage that stage i drives on layer l is asked where stage i is.
pub record Below (asked : ℤ → Bool) (below : ℕ → ℤ → Bool) (f : ℕ → ℤ → ℕ) (table : List ℤ) (driver delay starts ends : List ℕ) (stages width i l : ℕ) : Type 0 where
  pub passes : (j : ℕ) → i < j → j < stages → get_or driver j 0 ≡ i → (t : ℤ) → asked t ≡ true → below j (t +ℤ pos (on_layer delay j l)) ≡ true
  pub bands : (j : ℕ) → i < j → j < stages → Band (below j) (width - 1) (row_at table (j * width)) (get_or starts j 0) (get_or ends j 0) (f j)

-- The result is the band from `start` to before `end` over a delay, in a row after that of stage i, and nothing but the merging rows has changed.
pub record Joined (before after : List ℤ) (driver delay : List ℕ) (limit : List ℤ) (starts ends : List ℕ) (stages width left i l : ℕ) (last : ℤ)
    (row start end over : ℕ) : Type 0 where
  pub low : suc i * width ≤ row
  pub most : row + width ≤ (stages + 2) * width
  pub order : start ≤ end
  pub fits : end ≤ left
  pub small : over < max_delay
  pub kept : KeptOutside before after (stages * width) (width + width)
  pub range : (w : ℕ) → start ≤ w → w < end → InRange merged_low (over_delay after row over w)
  pub band : (asked : ℤ → Bool) (below : ℕ → ℤ → Bool) (f : ℕ → ℤ → ℕ) (g : ℤ → ℕ) → UpTo last asked → Below asked below f before driver delay starts ends stages width i l
      → LimitOn asked (left - 1) (limit_on limit i l) g
      → Band asked (left - 1) (over_delay after row over) start end (λ t. g t + driven_ask driver delay stages i l f t)

-- The same of the structs.
abbrev pub JoinedOf : (before after : List ℤ) → Tree → Bands → (width left i l : ℕ) → ℤ → Part → Type 0
JoinedOf before after tree bands width left i l last part =
    Joined before after tree.driver.now tree.delay.now tree.limit.now bands.starts.now bands.ends.now tree.stages width left i l last
    part.row part.start part.end part.delay
