-- What the functions of one round ask and give. `columns` is how many columns the table has.
use Rattle.std.specs.Prelude.{◌≡◌, Bool, true, false, List, ℕ, ◌+◌, ◌-◌, ◌*◌, ◌^◌, ◌≤◌, ◌<◌, length, get_or, ℤ, Option, Some, None}
use Rattle.std.proofs.Math.Option.{some}
use Rattle.rules.specs.Grain.{max_exponent}
use Rattle.oracle.specs.Stages.{StageTree}
use Rattle.oracle.specs.Value.{plan_rounded, value, first_plan, MeetingPlan, first-meets}
use Rattle.oracle.specs.Result.{tree_least}
use Rattle.fanout.specs.Clauses.{Linked}
use Rattle.slices.specs.declared.Tree.{Tree}
use Rattle.slices.specs.declared.Links.{Links}
use Rattle.slices.specs.declared.Windows.{Windows}
use Rattle.slices.specs.declared.Round as slices
use Rattle.readoff.specs.Clauses.{BandsFilled}
use Rattle.windows.specs.Clauses.{WindowsIn, Opened}
use Rattle.rounding.specs.Clauses.{plan_in}
use Rattle.rounds.specs.Problem.{Numbers}

-- prepare: the slices hold the drivers and delays of some tree, and there is room for what is found.
pub record PrepareIn (driver delay first next : List ℕ) (early late : List ℤ) (stages layers : ℕ) (arrival : ℤ) : Type 0 where
  pub tree : StageTree
  pub windows : WindowsIn tree driver delay stages layers arrival
  pub firsts : stages ≤ length first
  pub nexts : stages ≤ length next
  pub earlies : stages ≤ length early
  pub lates : stages ≤ length late

abbrev pub PrepareOf : Tree → (first next : List ℕ) → (early late : List ℤ) → Type 0
PrepareOf tree first next early late = PrepareIn tree.driver.now tree.delay.now first next early late tree.stages tree.layers tree.arrival

-- The links from each stage to those that it drives, and the windows in which the stages of the tree can be reached.
pub record Prepared (driver first next delay : List ℕ) (early late : List ℤ) (stages layers : ℕ) (arrival : ℤ) : Type 0 where
  pub linked : Linked driver first next stages
  pub earlies : stages ≤ length early
  pub lates : stages ≤ length late
  pub opened : (T : StageTree) → WindowsIn T driver delay stages layers arrival → Opened T early late

-- The same of the structs.
abbrev pub PreparedOf : Tree → Links → Windows → Type 0
PreparedOf tree links windows =
    Prepared tree.driver.now links.first.now links.next.now tree.delay.now windows.early.now windows.late.now tree.stages tree.layers tree.arrival

pub prepared-same : {driver first next delay : List ℕ} {early late : List ℤ} {stages layers : ℕ} {arrival a : ℤ} → a ≡ arrival
    → Prepared driver first next delay early late stages layers arrival → Prepared driver first next delay early late stages layers a
prepared-same e P = rw e P

-- value_at: the slices hold some tree, and the table has room for its rows.
pub record RoundIn (table : List ℤ) (driver delay : List ℕ) (limit : List ℤ) (cost starts ends : List ℕ) (stages layers : ℕ) (arrival : ℤ)
    (g width : ℕ) : Type 0 where
  pub tree : StageTree
  pub numbers : Numbers tree driver delay limit cost stages layers arrival
  pub sized : (stages + 2) * width ≤ length table
  pub starts_long : stages ≤ length starts
  pub ends-long : stages ≤ length ends
  pub some-column : 0 < width
  pub some-grain : 0 < g

abbrev pub RoundOf : List ℤ → Tree → (starts ends : List ℕ) → slices.Round → Type 0
RoundOf table tree starts ends n =
    RoundIn table tree.driver.now tree.delay.now tree.limit.now tree.cost.now starts ends tree.stages tree.layers tree.arrival n.grain n.width

-- r is m if this is below n; else there is none.
abbrev pub BelowWidth : (m n : ℕ) → Option ℕ → Type 0
BelowWidth m n None = n ≤ m
BelowWidth m n (Some v) = (v ≡ m) × (v < n)

-- The bands are finished, and r is what the whole tree needs, if this is below `width`.
pub record ValueAt (T : StageTree) (k width : ℕ) (table : List ℤ) (starts ends : List ℕ) (r : Option ℕ) : Type 0 where
  -- the times that are asked of each stage
  pub asked : ℕ → ℤ → Bool
  pub at-arrival : asked 0 T.arrival ≡ true
  pub filled : BandsFilled T k asked width table starts ends
  pub starts_long : T.stages ≤ length starts
  pub ends-long : T.stages ≤ length ends
  pub order : (j : ℕ) → j < T.stages → get_or starts j 0 ≤ get_or ends j 0
  pub end_most : (j : ℕ) → j < T.stages → get_or ends j 0 ≤ width
  pub is : BelowWidth (tree_least T k (width - 1)) width r

-- feasible: whether some plan meets timing, and if so the plan that 01 chooses at the largest grain.
pub record Feasible (T : StageTree) (stages : ℕ) (known : List ℕ) (r : Bool) : Type 0 where
  pub chosen : r ≡ true → first_plan T max_exponent ≡ some (plan_in stages known)
  pub none : r ≡ false → (x : List ℕ) → MeetingPlan T x → ⊥

pub feasible_meets : {T : StageTree} {stages : ℕ} {known : List ℕ} {r : Bool} → Feasible T stages known r → r ≡ true → MeetingPlan T (plan_in stages known)
feasible_meets {T} {stages} {known} F e = (first-meets T max_exponent (plan_in stages known) (F.chosen e)).0

-- The plan in `known` meets timing, and `bound` is its rounded cost.
pub record Known (T : StageTree) (k stages : ℕ) (known : List ℕ) (bound : ℕ) : Type 0 where
  pub meets : MeetingPlan T (plan_in stages known)
  pub bound_is : bound ≡ plan_rounded T k (plan_in stages known)

-- plan_at: the slices hold some tree, a plan of it is known, and the table has the columns.
pub record PlanAtIn (table : List ℤ) (driver delay : List ℕ) (limit : List ℤ) (cost : List ℕ) (stages layers : ℕ) (arrival : ℤ) (g columns bound : ℕ)
    (known : List ℕ) : Type 0 where
  pub tree : StageTree
  pub numbers : Numbers tree driver delay limit cost stages layers arrival
  pub k : ℕ
  pub grain-is : g ≡ 2 ^ k
  pub long : stages ≤ length known
  pub plan : Known tree k stages known bound
  pub sized : (stages + 2) * columns ≤ length table

abbrev pub PlanAtOf : List ℤ → Tree → (g columns bound : ℕ) → List ℕ → Type 0
PlanAtOf table tree g columns bound known =
    PlanAtIn table tree.driver.now tree.delay.now tree.limit.now tree.cost.now tree.stages tree.layers tree.arrival g columns bound known

-- v is V(k), below `columns`, and `known` has the plan that 01 chooses at the grain 2^k.
pub record PlanFound (T : StageTree) (k columns stages : ℕ) (known : List ℕ) (v : ℕ) : Type 0 where
  pub is : v ≡ value T k
  pub fits : v < columns
  pub chosen : first_plan T k ≡ some (plan_in stages known)

-- r is V(k), with that plan in `known`; or there is none, and V(k) is no less than `columns`.
abbrev pub PlanAt : StageTree → (k columns stages : ℕ) → List ℕ → Option ℕ → Type 0
PlanAt T k columns stages known None = columns ≤ value T k
PlanAt T k columns stages known (Some v) = PlanFound T k columns stages known v
