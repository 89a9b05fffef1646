-- What rounds over a tree of stages give, by outcome (02, wish 7: refusals 11 and 12, and acceptance), and what they leave in table and plan buffer.
use Rattle.std.specs.Prelude.{◌≡◌, List, ◌++◌, ℕ, ◌+◌, ◌/◌, ◌≤◌, ◌<◌, length, drop, replicate, ℤ, pos, Result, Ok, Err}
use Rattle.rules.specs.Grain.{max_exponent}
use Rattle.slices.specs.declared.Tree.{Tree}
use Rattle.oracle.specs.Stages.{StageTree}
use Rattle.oracle.specs.Value.{MeetingPlan}
use Rattle.rounding.specs.Clauses.{plan_in}
use Rattle.rounds.specs.Problem.{Numbers}
use Rattle.search.specs.Planned.{IsLate}
use Rattle.search.specs.declared.Found.{Found}
use Rattle.search.specs.declared.Unplanned.{Unplanned}
use Rattle.search.specs.declared.Unplanned.TheVariants.{Late, Short}
use Rattle.rounds_search.specs.Clauses.{RoundsFound}

-- search_rounds, best_of_rounds: the slices hold some tree, and there is room for a plan of it.
pub record BestIn (driver delay : List ℕ) (limit : List ℤ) (cost : List ℕ) (stages layers : ℕ) (arrival : ℤ) (last : ℕ) (plan : List ℕ) : Type 0 where
  pub tree : StageTree
  pub numbers : Numbers tree driver delay limit cost stages layers arrival
  pub last-most : last ≤ max_exponent
  pub long : stages ≤ length plan

-- The same of the tree as it is lent.
abbrev pub BestOf : Tree → ℕ → List ℕ → Type 0
BestOf tree last plan = BestIn tree.driver.now tree.delay.now tree.limit.now tree.cost.now tree.stages tree.layers tree.arrival last plan

-- What the rounds find, and that they leave the table as it was where no plan meets timing.
abbrev pub RoundsExplored : StageTree → (last stages : ℕ) → (table tableAfter : List ℤ) (best : List ℕ) → Result Found Unplanned → Type 0
RoundsExplored T last stages table tableAfter best (Err Late) = ((x : List ℕ) → MeetingPlan T x → ⊥) × (tableAfter ≡ table)
RoundsExplored T last stages table tableAfter best (Err Short) =
    ((x : List ℕ) × MeetingPlan T x) × (length table < stages + 2) × (length tableAfter ≡ length table)
RoundsExplored T last stages table tableAfter best (Ok f) =
    RoundsFound T last (length table / (stages + 2)) (plan_in stages best) f.k f.g f.value × (length tableAfter ≡ length table)

module _ (T : StageTree) (last stages : ℕ) (table tableAfter : List ℤ) (plan planAfter : List ℕ) where
  -- Some plan meets timing, but there is no column; the table is all zero, the plan buffer keeps its values.
  pub record NoColumn : Type 0 where
    pub meeting : (x : List ℕ) × MeetingPlan T x
    pub few : length table < stages + 2
    pub cleared : tableAfter ≡ replicate (length table) (pos 0)
    pub plan-kept : planAfter ≡ plan

  -- The last k run, its grain and V(k), and the cheapest plan of the rounds in the first bytes of the plan buffer; later bytes keep their values. The table is
  -- all zero.
  pub record IsBest (k g v : ℕ) : Type 0 where
    pub found : List ℕ
    pub rounds : RoundsFound T last (length table / (stages + 2)) found k g v
    pub cleared : tableAfter ≡ replicate (length table) (pos 0)
    pub plan-is : planAfter ≡ found ++ drop stages plan

  abbrev pub BestPlanned : Result Found Unplanned → Type 0
  BestPlanned (Err Late) = IsLate T table tableAfter plan planAfter
  BestPlanned (Err Short) = NoColumn
  BestPlanned (Ok f) = IsBest f.k f.g f.value
