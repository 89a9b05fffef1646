-- What the functions that read the plan off the table ask and promise.
use Rattle.std.specs.Prelude.{◌≡◌, Bool, true, List, ◌++◌, ℕ, ◌+◌, ◌*◌, ◌-◌, ◌/◌, ◌^◌, ◌≤◌, ◌<◌, min, leb, eqb, length, get_or, drop, ℤ, pos, ◌+ℤ◌, if◌then◌else◌}
use Rattle.laws.specs.Integers.{up, down}
use Rattle.rules.specs.Bytes.{max_layers}
use Rattle.fanout.specs.Clauses.{Linked}
use Rattle.oracle.specs.Stages.{StageTree, WellFormed, arrive}
use Rattle.oracle.specs.Programme.{least_on}
use Rattle.oracle.specs.Timing.{charge, least_at}
use Rattle.oracle.specs.ReadOff.{first_layer}
use Rattle.oracle.specs.Band.{Band}
use Rattle.oracle.specs.Result.{tree_least, read_plan}
use Rattle.slices.specs.declared.Bands.{Bands}
use Rattle.slices.specs.declared.Links.{Links}
use Rattle.slices.specs.declared.Round.{Round}
use Rattle.slices.specs.declared.Tree.{Tree}
use Rattle.slices.specs.Laid.{max_entry, max_delay, on_layer, time_at, Laid}
use Rattle.bands.specs.Entries.{row_at}

-- A time to which a delay can be added within 64 bits.
abbrev pub Near : ℤ → Type 0
Near t = (up t ≤ max_entry) × (down t ≤ max_entry)

-- r is the first column of the row at `off` whose entry is no earlier than t: what is least for t, if its band stands for f, as far as `width`.
pub record Column (table : List ℤ) (off start end width : ℕ) (t : ℤ) (r : ℕ) : Type 0 where
  pub most : r ≤ width
  pub is : (asked : ℤ → Bool) (f : ℤ → ℕ) → Band asked (width - 1) (row_at table off) start end f → asked t ≡ true → r ≡ min (f t) width

-- When stage j is reached, if the stage that drives it is on layer l and is reached at t.
abbrev pub arrive_at : List ℕ → ℕ → ℕ → ℤ → ℤ
arrive_at delay j l t = t +ℤ pos (on_layer delay j l)

-- Stage j has its delay on layer l in the slices and a row in the table.
pub record DrivenIn (table : List ℤ) (delay starts ends : List ℕ) (width l : ℕ) (t : ℤ) (j : ℕ) : Type 0 where
  pub some-column : 0 < width
  pub row_inside : j * width + width ≤ length table
  pub starts_inside : j < length starts
  pub ends-inside : j < length ends
  pub order : get_or starts j 0 ≤ get_or ends j 0
  pub end_most : get_or ends j 0 ≤ width
  pub delay-inside : j * max_layers + l < length delay
  pub delay-most : on_layer delay j l ≤ max_delay
  pub near : Near t

-- r is what stage j adds to the need of the stage that drives it, on layer l and reached at t: the column of the time at which stage j is reached.
abbrev pub DrivenNeed : List ℤ → List ℕ → List ℕ → List ℕ → ℕ → ℕ → ℤ → ℕ → ℕ → Type 0
DrivenNeed table delay starts ends width l t j r = Column table (j * width) (get_or starts j 0) (get_or ends j 0) width (arrive_at delay j l t) r

-- The slices hold the numbers of the tree T and its links, the table has a row of `width` columns for each stage, and the grain g is not 0.
pub record Sized (T : StageTree) (table : List ℤ) (driver first next delay : List ℕ) (limit : List ℤ) (cost starts ends : List ℕ)
    (stages width g : ℕ) : Type 0 where
  pub laid : Laid T driver delay limit cost
  pub tree : WellFormed T
  pub stages-are : stages ≡ T.stages
  pub linked : Linked driver first next stages
  pub some-column : 0 < width
  pub rows_long : stages * width ≤ length table
  pub starts_long : stages ≤ length starts
  pub ends-long : stages ≤ length ends
  pub order : (j : ℕ) → j < stages → get_or starts j 0 ≤ get_or ends j 0
  pub end_most : (j : ℕ) → j < stages → get_or ends j 0 ≤ width
  pub some-grain : 0 < g

-- The band of every stage stands for its least charges at the grain 2^k, for the times that are asked of it; and a stage is asked what its driving stage,
-- on a layer that can be paid, passes on.
pub record BandsFilled (T : StageTree) (k : ℕ) (asked : ℕ → ℤ → Bool) (width : ℕ) (table : List ℤ) (starts ends : List ℕ) : Type 0 where
  pub band : (i : ℕ) → i < T.stages → Band (asked i) (width - 1) (row_at table (i * width)) (get_or starts i 0) (get_or ends i 0) (least_at T k (width - 1) i)
  pub passes : (j l : ℕ) → 0 < j → j < T.stages → l < T.layers → T.cost (T.driver j) l / 2 ^ k ≤ width - 1 → (t : ℤ) → asked (T.driver j) t ≡ true
      → asked j (arrive T j l t) ≡ true

-- The table is finished, at the grain g = 2^k and for the times asked.
pub record Finished (T : StageTree) (k : ℕ) (asked : ℕ → ℤ → Bool) (table : List ℤ) (driver first next delay : List ℕ) (limit : List ℤ)
    (cost starts ends : List ℕ) (stages width g : ℕ) : Type 0 where
  pub sized : Sized T table driver first next delay limit cost starts ends stages width g
  pub grain-is : g ≡ 2 ^ k
  pub filled : BandsFilled T k asked width table starts ends

-- r is within the same budgets as what stage i on layer l, reached at t, is charged with all that it drives.
pub record Need (table : List ℤ) (driver first next delay : List ℕ) (limit : List ℤ) (cost starts ends : List ℕ) (stages width g i l : ℕ) (t : ℤ)
    (r : ℕ) : Type 0 where
  pub is : (T : StageTree) (k : ℕ) (asked : ℕ → ℤ → Bool) → Finished T k asked table driver first next delay limit cost starts ends stages width g
      → l < T.layers → asked i t ≡ true → (w : ℕ) → w < width → leb r w ≡ leb (least_on T (charge T k (width - 1)) i l t) w

-- r is the first layer of stage i, reached at t, that attains the least, if the least is within the columns.
pub record FirstLayer (table : List ℤ) (driver first next delay : List ℕ) (limit : List ℤ) (cost starts ends : List ℕ) (stages layers width g i : ℕ) (t : ℤ)
    (r : ℕ) : Type 0 where
  pub most : r < layers
  pub is : (T : StageTree) (k : ℕ) (asked : ℕ → ℤ → Bool) → Finished T k asked table driver first next delay limit cost starts ends stages width g
      → layers ≡ T.layers → asked i t ≡ true → least_at T k (width - 1) i t < width → r ≡ first_layer T (charge T k (width - 1)) i t

-- `reach` of the slices: stage i on layer l passes its time on to those that it drives.
abbrev pub reach_at : List ℕ → List ℕ → ℕ → ℕ → List ℤ → ℕ → ℤ
reach_at driver delay i l times j = if eqb (get_or driver j 0) i then arrive_at delay j l (time_at times i) else time_at times j

-- The stages after stage i have links, delay on layer l and a time in the slices.
pub record PushIn (driver first next delay : List ℕ) (times : List ℤ) (stages i l : ℕ) : Type 0 where
  pub inside : i < stages
  pub times_long : stages ≤ length times
  pub linked : Linked driver first next stages
  pub delay-long : stages * max_layers ≤ length delay
  pub layer-inside : l < max_layers
  pub delay-most : (j : ℕ) → i < j → j < stages → on_layer delay j l ≤ max_delay
  pub near : Near (time_at times i)

-- The times after stage i has passed its own on.
pub record Pushed (driver delay : List ℕ) (times : List ℤ) (stages i l : ℕ) (after : List ℤ) : Type 0 where
  pub is : (j : ℕ) → i < j → j < stages → time_at after j ≡ reach_at driver delay i l times j

-- The slices hold some tree with this arrival time, and there is room for its times and its plan.
pub record ReadIn (table : List ℤ) (driver first next delay : List ℕ) (limit : List ℤ) (cost starts ends : List ℕ) (stages layers width g : ℕ) (arrival : ℤ)
    (times : List ℤ) (plan : List ℕ) : Type 0 where
  pub tree : StageTree
  pub sized : Sized tree table driver first next delay limit cost starts ends stages width g
  pub layers-are : layers ≡ tree.layers
  pub arrival-is : arrival ≡ tree.arrival
  pub times_long : stages ≤ length times
  pub plan-long : stages ≤ length plan

-- What is read off is the plan of the definition, if what the whole tree needs is within the columns; the bytes after the plan keep their values.
pub record PlanRead (table : List ℤ) (driver first next delay : List ℕ) (limit : List ℤ) (cost starts ends : List ℕ) (stages layers width g : ℕ) (arrival : ℤ)
    (before after : List ℕ) : Type 0 where
  pub is : (T : StageTree) (k : ℕ) (asked : ℕ → ℤ → Bool) → Finished T k asked table driver first next delay limit cost starts ends stages width g
      → layers ≡ T.layers → arrival ≡ T.arrival
      → asked 0 T.arrival ≡ true → tree_least T k (width - 1) < width → after ≡ read_plan T k (width - 1) ++ drop stages before

-- The same of the structs in which the slices travel: the tree, its links, the bands, and the round's width and grain.
abbrev pub SizedOf : StageTree → List ℤ → Tree → Links → Bands → Round → Type 0
SizedOf T table tree links bands n =
    Sized T table tree.driver.now links.first.now links.next.now tree.delay.now tree.limit.now tree.cost.now bands.starts.now bands.ends.now
    tree.stages n.width n.grain

abbrev pub NeedOf : List ℤ → Tree → Links → Bands → Round → ℕ → ℕ → ℤ → ℕ → Type 0
NeedOf table tree links bands n i l t r =
    Need table tree.driver.now links.first.now links.next.now tree.delay.now tree.limit.now tree.cost.now bands.starts.now bands.ends.now
    tree.stages n.width n.grain i l t r

abbrev pub FirstLayerOf : List ℤ → Tree → Links → Bands → Round → ℕ → ℤ → ℕ → Type 0
FirstLayerOf table tree links bands n i t r =
    FirstLayer table tree.driver.now links.first.now links.next.now tree.delay.now tree.limit.now tree.cost.now bands.starts.now bands.ends.now
    tree.stages tree.layers n.width n.grain i t r

abbrev pub PushOf : Tree → Links → List ℤ → ℕ → ℕ → Type 0
PushOf tree links times i l = PushIn tree.driver.now links.first.now links.next.now tree.delay.now times tree.stages i l

abbrev pub PushedOf : Tree → List ℤ → ℕ → ℕ → List ℤ → Type 0
PushedOf tree times i l after = Pushed tree.driver.now tree.delay.now times tree.stages i l after

abbrev pub ReadOf : List ℤ → Tree → Links → Bands → Round → List ℤ → List ℕ → Type 0
ReadOf table tree links bands n times plan =
    ReadIn table tree.driver.now links.first.now links.next.now tree.delay.now tree.limit.now tree.cost.now bands.starts.now bands.ends.now
    tree.stages tree.layers n.width n.grain tree.arrival times plan

abbrev pub PlanReadOf : List ℤ → Tree → Links → Bands → Round → List ℕ → List ℕ → Type 0
PlanReadOf table tree links bands n before after =
    PlanRead table tree.driver.now links.first.now links.next.now tree.delay.now tree.limit.now tree.cost.now bands.starts.now bands.ends.now
    tree.stages tree.layers n.width n.grain tree.arrival before after
