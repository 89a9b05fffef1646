-- The windows: from when to when each stage can be reached, whatever the layers.
use Rattle.std.specs.Prelude.{◌≡◌, true, List, ℕ, suc, ◌-◌, ◌≤◌, ◌<◌, ℤ}
use Rattle.std.specs.Int.Signed.{le_z}
use Rattle.oracle.specs.Stages.{StageTree, arrive}
use Rattle.slices.specs.Laid.{max_delay, on_layer, time_at, LaidDelays}
use Rattle.slices.specs.declared.Tree.{Tree}
use Rattle.readoff.specs.NearTimes.{Bounded}

-- The delays to stage j on the layers before l are from `least` to `most`, and both are its delays on some layers.
pub record DelayRange (delay : List ℕ) (layers j l least most : ℕ) : Type 0 where
  pub inside : l ≤ layers
  pub least-all : (m : ℕ) → m < l → least ≤ on_layer delay j m
  pub most-all : (m : ℕ) → m < l → on_layer delay j m ≤ most
  pub least-is : (m : ℕ) × (m < layers) × (least ≡ on_layer delay j m)
  pub most-is : (m : ℕ) × (m < layers) × (most ≡ on_layer delay j m)

-- The slices hold the drivers and delays of tree T, and the counts and the arrival time are its.
pub record WindowsIn (T : StageTree) (driver delay : List ℕ) (stages layers : ℕ) (arrival : ℤ) : Type 0 where
  pub laid : LaidDelays T driver delay
  pub some-stage : 0 < T.stages
  pub some-layer : 0 < T.layers
  pub lower : (j : ℕ) → T.driver (suc j) ≤ j
  pub stages-are : stages ≡ T.stages
  pub layers-are : layers ≡ T.layers
  pub arrival-is : arrival ≡ T.arrival

-- The same of the tree as it is lent.
abbrev pub WindowsOf : StageTree → Tree → Type 0
WindowsOf T tree = WindowsIn T tree.driver.now tree.delay.now tree.stages tree.layers tree.arrival

-- The windows of the stages before n follow from one another.
pub record Steps (T : StageTree) (early late : List ℤ) (n : ℕ) : Type 0 where
  pub first : (time_at early 0 ≡ T.arrival) × (time_at late 0 ≡ T.arrival)
  pub earlier : (j l : ℕ) → 0 < j → j < n → l < T.layers → le_z (time_at early j) (arrive T j l (time_at early (T.driver j))) ≡ true
  pub later : (j l : ℕ) → 0 < j → j < n → l < T.layers → le_z (arrive T j l (time_at late (T.driver j))) (time_at late j) ≡ true

-- The windows of all stages: they follow from one another, and the delays on the way bound them.
pub record Opened (T : StageTree) (early late : List ℤ) : Type 0 where
  pub steps : Steps T early late T.stages
  pub early-most : (j : ℕ) → j < T.stages → Bounded (max_delay - 1) (time_at early j)
  pub late-most : (j : ℕ) → j < T.stages → Bounded (max_delay - 1) (time_at late j)
