-- What planning a tree of stages gives, by outcome (01, Planning: refusals 11 and 12, and acceptance), and what it leaves in table and plan buffer.
use Rattle.std.specs.Prelude.{◌≡◌, List, ◌++◌, ℕ, ◌+◌, ◌/◌, ◌^◌, ◌≤◌, ◌<◌, length, drop, replicate, ℤ, pos, Result, Ok, Err}
use Rattle.std.proofs.Math.Option.{some}
use Rattle.rules.specs.declared.Refusal.{Refusal}
use Rattle.rules.specs.declared.Refusal.TheVariants.{TooLate, TooShort}
use Rattle.slices.specs.declared.Tree.{Tree}
use Rattle.oracle.specs.Stages.{StageTree}
use Rattle.oracle.specs.Value.{value, exponent, first_plan, MeetingPlan}
use Rattle.rounds.specs.Problem.{Problem}
use Rattle.rounding.specs.Clauses.{plan_in}
use Rattle.search.specs.Clauses.{GrainFound}
use Rattle.search.specs.declared.Share.{Share}
use Rattle.search.specs.declared.Found.{Found}
use Rattle.search.specs.declared.Unplanned.{Unplanned}
use Rattle.search.specs.declared.Unplanned.TheVariants.{Late, Short}

-- The refusal that tells why no plan is found: 11 or 12.
abbrev pub refusal_of : Unplanned → Refusal
refusal_of Late = TooLate
refusal_of Short = TooShort

-- The slices hold some tree, and the plan buffer has room for its plan.
pub record PlanTreeIn (driver delay : List ℕ) (limit : List ℤ) (cost : List ℕ) (stages layers : ℕ) (arrival : ℤ) (p q : ℕ) (plan : List ℕ) : Type 0 where
  pub tree : StageTree
  pub problem : Problem tree driver delay limit cost stages layers arrival p q
  pub plan-long : stages ≤ length plan

-- The same of the structs.
abbrev pub PlanTreeOf : Tree → Share → List ℕ → Type 0
PlanTreeOf tree share plan =
    PlanTreeIn tree.driver.now tree.delay.now tree.limit.now tree.cost.now tree.stages tree.layers tree.arrival share.p share.q plan

-- search_tree: the slices hold some tree, and there is room for a plan of it.
pub record SearchIn (driver delay : List ℕ) (limit : List ℤ) (cost : List ℕ) (stages layers : ℕ) (arrival : ℤ) (p q : ℕ) (known : List ℕ) : Type 0 where
  pub tree : StageTree
  pub problem : Problem tree driver delay limit cost stages layers arrival p q
  pub long : stages ≤ length known

abbrev pub SearchOf : Tree → Share → List ℕ → Type 0
SearchOf tree share known =
    SearchIn tree.driver.now tree.delay.now tree.limit.now tree.cost.now tree.stages tree.layers tree.arrival share.p share.q known

-- What the search finds, and that it leaves the table as it was where no plan meets timing.
abbrev pub Explored : StageTree → (p q stages : ℕ) → (table tableAfter : List ℤ) (known : List ℕ) → Result Found Unplanned → Type 0
Explored T p q stages table tableAfter known (Err Late) = ((x : List ℕ) → MeetingPlan T x → ⊥) × (tableAfter ≡ table)
Explored T p q stages table tableAfter known (Err Short) =
    ((x : List ℕ) × MeetingPlan T x) × (length table / (stages + 2) < value T (exponent T p q) + 1) × (length tableAfter ≡ length table)
Explored T p q stages table tableAfter known (Ok f) =
    GrainFound T p q (length table / (stages + 2)) stages known f.k f.g f.value × (length tableAfter ≡ length table)

-- What is left in table and plan buffer, by outcome: the plan that is known opens the buffer if it is the one found.
abbrev pub Left : (stages : ℕ) (known : List ℕ) (table tableAfter : List ℤ) (plan planAfter : List ℕ) → Result Found Unplanned → Type 0
Left stages known table tableAfter plan planAfter (Err Late) = (tableAfter ≡ table) × (planAfter ≡ plan)
Left stages known table tableAfter plan planAfter (Err Short) = (tableAfter ≡ replicate (length table) (pos 0)) × (planAfter ≡ plan)
Left stages known table tableAfter plan planAfter (Ok f) =
    (tableAfter ≡ replicate (length table) (pos 0)) × (planAfter ≡ plan_in stages known ++ drop stages plan)

-- No plan meets timing; table and plan buffer keep their values.
pub record IsLate (T : StageTree) (table tableAfter : List ℤ) (plan planAfter : List ℕ) : Type 0 where
  pub none : (x : List ℕ) → MeetingPlan T x → ⊥
  pub table_kept : tableAfter ≡ table
  pub plan-kept : planAfter ≡ plan

module _ (T : StageTree) (p q stages : ℕ) (table tableAfter : List ℤ) (plan planAfter : List ℕ) where
  -- The columns of the table: its length divided by s + 2, rounded down.
  abbrev pub table_columns : ℕ
  table_columns = length table / (stages + 2)

  -- Some plan meets timing, but there are fewer than V(k) + 1 columns; the table is all zero, the plan buffer keeps its values.
  pub record IsShort : Type 0 where
    pub meeting : (x : List ℕ) × MeetingPlan T x
    pub few : table_columns < value T (exponent T p q) + 1
    pub cleared : tableAfter ≡ replicate (length table) (pos 0)
    pub plan-kept : planAfter ≡ plan

  -- The grain and its k, V(k), and the plan that 01 chooses, in the first bytes of the plan buffer; later bytes keep their values. The table is all zero.
  pub record IsFound (k g v : ℕ) : Type 0 where
    pub exponent-is : k ≡ exponent T p q
    pub grain-is : g ≡ 2 ^ k
    pub value-is : v ≡ value T k
    pub fits : v + 1 ≤ table_columns
    pub cleared : tableAfter ≡ replicate (length table) (pos 0)
    pub chosen : List ℕ
    pub chosen_is : first_plan T k ≡ some chosen
    pub plan-is : planAfter ≡ chosen ++ drop stages plan

  abbrev pub Planned : Result Found Unplanned → Type 0
  Planned (Err Late) = IsLate T table tableAfter plan planAfter
  Planned (Err Short) = IsShort
  Planned (Ok f) = IsFound f.k f.g f.value
