-- What the functions of this crate ask and give. Rows are named by their offset in the table; `before` and `after` are the table before and after the call.
use Rattle.std.specs.Prelude.{◌≡◌, Bool, true, false, List, ℕ, suc, ◌+◌, ◌-◌, ◌*◌, ◌^◌, ◌≤◌, ◌<◌, min, length, get_or, ℤ, pos}
use Rattle.std.specs.Int.Signed.{le_z}
use Rattle.laws.specs.Basic.{within_z}
use Rattle.oracle.specs.Stages.{StageTree, WellFormed}
use Rattle.oracle.specs.Programme.{least_on}
use Rattle.oracle.specs.Timing.{charge, least_at}
use Rattle.oracle.specs.Band.{Band, Marks}
use Rattle.oracle.specs.Windows.{Windows}
use Rattle.fanout.specs.Clauses.{Linked}
use Rattle.slices.specs.Laid.{Laid, max_entry, no_limit, time_at}
use Rattle.slices.specs.declared.Tree.{Tree}
use Rattle.slices.specs.declared.Links.{Links}
use Rattle.slices.specs.declared.Windows as slices
use Rattle.slices.specs.declared.Bands.{Bands}
use Rattle.slices.specs.declared.Round.{Round}
use Rattle.bands.specs.declared.Span.{Span}
use Rattle.bands.specs.Entries.{row_at, Outside, never, BandIn}
use Rattle.branches.specs.Clauses.{BandOf}

-- stage_row and fill_rows: the slices hold some tree, and the table has a row for each of its stages and the two merging rows; g is the grain.
pub record RowsIn (table : List ℤ) (driver first next delay : List ℕ) (limit : List ℤ) (cost starts ends : List ℕ) (stages layers g width : ℕ) : Type 0 where
  pub tree : StageTree
  pub laid : Laid tree driver delay limit cost
  pub stages-are : stages ≡ tree.stages
  pub layers-are : layers ≡ tree.layers
  pub linked : Linked driver first next stages
  pub sized : (stages + 2) * width ≤ length table
  pub starts_long : stages ≤ length starts
  pub ends-long : stages ≤ length ends
  pub columns : 0 < width
  pub grain : 0 < g

-- The bands of the stages from stage i on are finished.
abbrev pub FinishedFrom : List ℤ → (starts ends : List ℕ) (stages width i : ℕ) → Type 0
FinishedFrom table starts ends stages width i = (j : ℕ) → i ≤ j → j < stages → BandOf table starts ends width j

-- stage_row asks that besides for a stage whose later stages have finished bands.
pub record StageRowIn (table : List ℤ) (driver first next delay : List ℕ) (limit : List ℤ) (cost starts ends : List ℕ) (stages layers g width i : ℕ) : Type 0 where
  pub rows : RowsIn table driver first next delay limit cost starts ends stages layers g width
  pub stage : i < stages
  pub finished : FinishedFrom table starts ends stages width (suc i)

-- The times from the earliest to the latest of stage j.
abbrev pub asked_in : (early late : List ℤ) → ℕ → ℤ → Bool
asked_in early late j t = within_z (time_at early j) (time_at late j) t

-- The bands of the stages from stage i on stand for the least charges of their stages, for the tree T, the grain 2^k and the times asked.
abbrev pub BandsFrom : (T : StageTree) (k : ℕ) (early late : List ℤ) → List ℤ → (starts ends : List ℕ) (width i : ℕ) → Type 0
BandsFrom T k early late table starts ends width i = (j : ℕ) → i ≤ j → j < T.stages
    → Band (asked_in early late j) (width - 1) (row_at table (j * width)) (get_or starts j 0) (get_or ends j 0) (least_at T k (width - 1) j)

-- The slices and numbers of a call are those of the tree T and the grain 2^k; the stages are reached between `early` and `late`, after never and before no
-- limit.
pub record Represents (T : StageTree) (k : ℕ) (early late : List ℤ) (driver delay : List ℕ) (limit : List ℤ) (cost : List ℕ) (stages layers g width : ℕ) : Type 0 where
  pub laid : Laid T driver delay limit cost
  pub tree : WellFormed T
  pub stages-are : stages ≡ T.stages
  pub layers-are : layers ≡ T.layers
  pub grain-is : g ≡ 2 ^ k
  pub windows : Windows T k (width - 1) (time_at early) (time_at late)
  pub after_never : (i : ℕ) → i < stages → le_z (time_at early i) never ≡ false
  pub under_limit : (i : ℕ) → i < stages → le_z (time_at late i) no_limit ≡ true

-- Nothing has changed but row i and the merging rows.
pub record RowKept (before after : List ℤ) (stages width i : ℕ) : Type 0 where
  pub long : length after ≡ length before
  pub others : (m : ℕ) → Outside m (i * width) width → Outside m (stages * width) (width + width) → get_or after m (pos 0) ≡ get_or before m (pos 0)

-- layer: row i holds the best of some layers in its columns before `top`.
pub record LayerIn (table : List ℤ) (driver first next delay : List ℕ) (limit : List ℤ) (cost starts ends : List ℕ) (stages layers g width i l top : ℕ) : Type 0 where
  pub asks : StageRowIn table driver first next delay limit cost starts ends stages layers g width i
  pub inside : l < layers
  pub fits : top ≤ width
  pub range : BandIn max_entry table (i * width) 0 top

-- Whatever it stood for, it now stands for the lesser of that and what stage i on layer l is charged.
pub record Layered (before after : List ℤ) (driver delay : List ℕ) (limit : List ℤ) (cost starts ends : List ℕ) (stages layers g width i l : ℕ) (first last : ℤ)
    (top r : ℕ) : Type 0 where
  pub kept : RowKept before after stages width i
  pub fits : r ≤ width
  pub range : BandIn max_entry after (i * width) 0 r
  pub marks : (T : StageTree) (k : ℕ) (early late : List ℤ) → Represents T k early late driver delay limit cost stages layers g width
      → first ≡ time_at early i → last ≡ time_at late i → BandsFrom T k early late before starts ends width (suc i) → (f : ℤ → ℕ)
      → Marks (asked_in early late i) (width - 1) (row_at before (i * width)) 0 top f
      → Marks (asked_in early late i) (width - 1) (row_at after (i * width)) 0 r (λ t. min (f t) (least_on T (charge T k (width - 1)) i l t))

-- stage_row: the band of stage i is added to those of the stages after it.
pub record StageRow (before after : List ℤ) (driver delay : List ℕ) (limit : List ℤ) (cost starts ends : List ℕ) (stages layers g width i : ℕ) (first last : ℤ)
    (start end : ℕ) : Type 0 where
  pub kept : RowKept before after stages width i
  pub order : start ≤ end
  pub most : end ≤ width
  pub range : BandIn max_entry after (i * width) start end
  pub band : (T : StageTree) (k : ℕ) (early late : List ℤ) → Represents T k early late driver delay limit cost stages layers g width
      → first ≡ time_at early i → last ≡ time_at late i → BandsFrom T k early late before starts ends width (suc i)
      → Band (asked_in early late i) (width - 1) (row_at after (i * width)) start end (least_at T k (width - 1) i)

-- fill_rows: the bands of all stages stand for their least charges; what stands behind the table is left.
pub record AllRows (before after : List ℤ) (driver delay : List ℕ) (limit : List ℤ) (cost : List ℕ) (early late : List ℤ) (starts₀ ends₀ starts ends : List ℕ)
    (stages layers g width : ℕ) : Type 0 where
  pub long : length after ≡ length before
  pub starts_long : length starts ≡ length starts₀
  pub ends-long : length ends ≡ length ends₀
  pub beyond : (m : ℕ) → (stages + 2) * width ≤ m → get_or after m (pos 0) ≡ get_or before m (pos 0)
  pub range : FinishedFrom after starts ends stages width 0
  pub band : (T : StageTree) (k : ℕ) → Represents T k early late driver delay limit cost stages layers g width → BandsFrom T k early late after starts ends width 0

-- The same of the structs: what the functions ask ..
abbrev pub RowsOf : List ℤ → Tree → Links → (starts ends : List ℕ) → Round → Type 0
RowsOf table tree links starts ends n =
    RowsIn table tree.driver.now links.first.now links.next.now tree.delay.now tree.limit.now tree.cost.now starts ends tree.stages tree.layers n.grain n.width

abbrev pub StageRowInOf : List ℤ → Tree → Links → Bands → Round → ℕ → Type 0
StageRowInOf table tree links bands n i =
    StageRowIn table tree.driver.now links.first.now links.next.now tree.delay.now tree.limit.now tree.cost.now bands.starts.now bands.ends.now
    tree.stages tree.layers n.grain n.width i

abbrev pub LayerOf : List ℤ → Tree → Links → Bands → Round → (i l top : ℕ) → Type 0
LayerOf table tree links bands n i l top =
    LayerIn table tree.driver.now links.first.now links.next.now tree.delay.now tree.limit.now tree.cost.now bands.starts.now bands.ends.now
    tree.stages tree.layers n.grain n.width i l top

-- .. and what they give.
abbrev pub LayeredOf : (before after : List ℤ) → Tree → Bands → Round → (i l : ℕ) → (first last : ℤ) → (top r : ℕ) → Type 0
LayeredOf before after tree bands n i l first last top r =
    Layered before after tree.driver.now tree.delay.now tree.limit.now tree.cost.now bands.starts.now bands.ends.now tree.stages tree.layers n.grain n.width
    i l first last top r

abbrev pub StageRowOf : (before after : List ℤ) → Tree → Bands → Round → ℕ → (first last : ℤ) → Span → Type 0
StageRowOf before after tree bands n i first last span =
    StageRow before after tree.driver.now tree.delay.now tree.limit.now tree.cost.now bands.starts.now bands.ends.now tree.stages tree.layers n.grain n.width
    i first last span.start span.end

abbrev pub AllRowsOf : (before after : List ℤ) → Tree → slices.Windows → (starts₀ ends₀ starts ends : List ℕ) → Round → Type 0
AllRowsOf before after tree windows starts₀ ends₀ starts ends n =
    AllRows before after tree.driver.now tree.delay.now tree.limit.now tree.cost.now windows.early.now windows.late.now starts₀ ends₀ starts ends
    tree.stages tree.layers n.grain n.width
