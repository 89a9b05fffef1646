-- The numbers of a tree of stages laid out in slices. Of each stage there is one number, or a row of max_layers numbers, one for each layer.
use Rattle.std.specs.Prelude.{◌≡◌, List, [], ◌∷◌, ℕ, ◌+◌, ◌*◌, ◌^◌, ◌≤◌, ◌<◌, length, get_or, ℤ, pos}
use Rattle.std.proofs.Common.{arith}
use Rattle.laws.specs.Basic.{least_of}
use Rattle.laws.specs.Integers.{up, down}
use Rattle.rules.specs.Bytes.{max_layers, max_stages, max_time}
use Rattle.rules.specs.Grain.{max_exponent}
use Rattle.oracle.specs.Stages.{StageTree}
use Rattle.slices.specs.Rows.{entry}

-- The number of stage i on layer l.
abbrev pub on_layer : List ℕ → ℕ → ℕ → ℕ
on_layer slice i l = entry max_layers slice i l

-- The limit of stage i on layer l.
abbrev pub limit_on : List ℤ → ℕ → ℕ → ℤ
limit_on limit i l = get_or limit (i * max_layers + l) (pos 0)

-- The time of stage i.
abbrev pub time_at : List ℤ → ℕ → ℤ
time_at times i = get_or times i (pos 0)

-- 2^62: every time of the search and every limit lies as far from 0 as this at most.
abbrev pub max_entry : ℕ
max_entry = 2 ^ 62

-- The limit of a stage that has no sink of its own: no time that is compared with it is later.
abbrev pub no_limit : ℤ
no_limit = pos max_entry

-- The least of the limits that a stage's own sinks set, or `no_limit` if it has none.
abbrev pub limit_of : List ℤ → ℤ
limit_of [] = no_limit
limit_of (r ∷ rs) = least_of (r ∷ rs)

-- The most that the delays on the way to a stage can add up to, and so the most that one of them can be.
abbrev pub max_delay : ℕ
max_delay = 2 ^ 61

-- Who drives each stage and the delay to it, small enough for 64 bits: the delays on the way to a stage can be added to the arrival time.
pub record LaidDelays (T : StageTree) (driver delay : List ℕ) : Type 0 where
  pub few-stages : T.stages ≤ max_stages
  pub few-layers : T.layers ≤ max_layers
  pub driver-long : T.stages ≤ length driver
  pub delay-long : T.stages * max_layers ≤ length delay
  pub driver-at : (j : ℕ) → 0 < j → j < T.stages → get_or driver j 0 ≡ T.driver j
  pub delay-at : (j l : ℕ) → 0 < j → j < T.stages → l < T.layers → on_layer delay j l ≡ T.delay j l
  -- the most that the delays on the way to each stage add up to, whatever the layers
  pub delays-to : ℕ → ℕ
  pub delay-most : (j l : ℕ) → 0 < j → j < T.stages → l < T.layers → delays-to (T.driver j) + T.delay j l ≤ delays-to j
  pub delays-most : (j : ℕ) → j < T.stages → delays-to j < max_delay
  pub arrival-most : (up T.arrival ≤ max_time) × (down T.arrival ≤ max_time)

-- So each delay is in its range.
pub delay_in_range : {T : StageTree} {driver delay : List ℕ} → LaidDelays T driver delay → (j l : ℕ) → 0 < j → j < T.stages → l < T.layers
    → on_layer delay j l < max_delay
delay_in_range D j l some a b = omega (arith, D.delay-at j l some a b, D.delay-most j l some a b, D.delays-most j a)

-- The cost of each stage on each layer, below the largest grain.
pub record LaidCosts (T : StageTree) (cost : List ℕ) : Type 0 where
  pub cost-long : T.stages * max_layers ≤ length cost
  pub cost-at : (i l : ℕ) → i < T.stages → l < T.layers → on_layer cost i l ≡ T.cost i l
  pub cost-most : (i l : ℕ) → i < T.stages → l < T.layers → T.cost i l < 2 ^ max_exponent

-- So each cost in the slice is below it.
pub cost_in_range : {T : StageTree} {cost : List ℕ} → LaidCosts T cost → (i l : ℕ) → i < T.stages → l < T.layers → on_layer cost i l < 2 ^ max_exponent
cost_in_range C i l a b = omega (arith, C.cost-at i l a b, C.cost-most i l a b)

-- All numbers of the tree T.
pub record Laid (T : StageTree) (driver delay : List ℕ) (limit : List ℤ) (cost : List ℕ) : Type 0 where
  pub delays : LaidDelays T driver delay
  pub limit_long : T.stages * max_layers ≤ length limit
  pub limit_at : (i l : ℕ) → i < T.stages → l < T.layers → limit_on limit i l ≡ limit_of (T.limits i l)
  pub limit_most : (i l : ℕ) → i < T.stages → l < T.layers → (up (limit_of (T.limits i l)) ≤ max_entry) × (down (limit_of (T.limits i l)) ≤ max_entry)
  pub costs : LaidCosts T cost
