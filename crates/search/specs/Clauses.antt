-- What the descent in k asks and gives. `columns` is how many columns the table has.
use Rattle.std.specs.Prelude.{◌≡◌, List, ℕ, ◌+◌, ◌*◌, ◌^◌, ◌≤◌, ◌<◌, length, ℤ, Result, Ok, Err}
use Rattle.std.proofs.Math.Option.{some}
use Rattle.rules.specs.Bytes.{max_stages}
use Rattle.rules.specs.Grain.{max_exponent}
use Rattle.rules.specs.Planning.{max_share}
use Rattle.slices.specs.declared.Tree.{Tree}
use Rattle.oracle.specs.Stages.{StageTree}
use Rattle.oracle.specs.Value.{value, exponent, first_plan, MeetingPlan}
use Rattle.rounding.specs.Clauses.{plan_in}
use Rattle.rounds.specs.Problem.{Problem}
use Rattle.search.specs.declared.Share.{Share}
use Rattle.search.specs.declared.Found.{Found}
use Rattle.search.specs.declared.Unplanned.{Unplanned}
use Rattle.search.specs.declared.Unplanned.TheVariants.{Late, Short}

-- The search's problem, of the tree as it is lent.
abbrev pub ProblemOf : StageTree → Tree → Share → Type 0
ProblemOf T tree share =
    Problem T tree.driver.now tree.delay.now tree.limit.now tree.cost.now tree.stages tree.layers tree.arrival share.p share.q

-- qualifies: what keeps the products within 64 bits.
pub record TestIn (p q stages g v : ℕ) : Type 0 where
  pub share : p ≤ max_share
  pub parts : q ≤ max_share
  pub few-stages : stages ≤ max_stages
  pub some-grain : 0 < g
  pub grain-most : g ≤ 2 ^ max_exponent
  pub floor-most : g * v < 2 ^ max_exponent

-- descend: a plan of the tree that meets timing is known.
pub record DescendIn (driver delay : List ℕ) (limit : List ℤ) (cost : List ℕ) (stages layers : ℕ) (arrival : ℤ) (p q : ℕ) (known : List ℕ) : Type 0 where
  pub tree : StageTree
  pub problem : Problem tree driver delay limit cost stages layers arrival p q
  pub long : stages ≤ length known
  pub meets : MeetingPlan tree (plan_in stages known)

-- The same of the structs.
abbrev pub DescendOf : Tree → Share → List ℕ → Type 0
DescendOf tree share known =
    DescendIn tree.driver.now tree.delay.now tree.limit.now tree.cost.now tree.stages tree.layers tree.arrival share.p share.q known

pub descend_same : {driver delay : List ℕ} {limit : List ℤ} {cost : List ℕ} {stages layers : ℕ} {arrival a : ℤ} {p q : ℕ} {known : List ℕ} → a ≡ arrival
    → DescendIn driver delay limit cost stages layers arrival p q known → DescendIn driver delay limit cost stages layers a p q known
descend_same e I = rw e I

-- The grain is found, V(k) fits the columns, and the plan that 01 chooses is in `known`.
pub record GrainFound (T : StageTree) (p q columns stages : ℕ) (known : List ℕ) (k g v : ℕ) : Type 0 where
  pub exponent-is : k ≡ exponent T p q
  pub grain-is : g ≡ 2 ^ k
  pub value-is : v ≡ value T k
  pub fits : v < columns
  pub chosen : first_plan T k ≡ some (plan_in stages known)

abbrev pub Searched : StageTree → ℕ → ℕ → ℕ → ℕ → List ℕ → Result Found Unplanned → Type 0
Searched T p q columns stages known (Err Late) = ⊥
Searched T p q columns stages known (Err Short) = columns < value T (exponent T p q) + 1
Searched T p q columns stages known (Ok f) = GrainFound T p q columns stages known f.k f.g f.value
