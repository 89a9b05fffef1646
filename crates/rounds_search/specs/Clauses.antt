-- What the rounds down the k's ask and give. `columns` is how many columns the table has, `last` the k of the last round that is due.
use Rattle.std.specs.Prelude.{◌≡◌, List, ℕ, suc, ◌+◌, ◌-◌, ◌*◌, ◌^◌, ◌≤◌, ◌<◌, ltb, length, ℤ, if◌then◌else◌, Result, Ok, Err}
use Rattle.std.proofs.Math.Option.{some}
use Rattle.rules.specs.Grain.{max_exponent}
use Rattle.rules.specs.Rounds.{max_rounds, due_rounds}
use Rattle.slices.specs.declared.Tree.{Tree}
use Rattle.oracle.specs.Stages.{StageTree}
use Rattle.oracle.specs.Value.{value, first_plan}
use Rattle.oracle.specs.Rounds.{plan_cost, tree_best}
use Rattle.rounding.specs.Clauses.{plan_in}
use Rattle.rounds.specs.Problem.{Numbers}
use Rattle.search.specs.declared.Found.{Found}
use Rattle.search.specs.declared.Unplanned.{Unplanned}
use Rattle.search.specs.declared.Unplanned.TheVariants.{Late, Short}

-- keep_cheaper: the plan that is known now takes the place of the best only if it costs less.
pub record Cheaper (T : StageTree) (stages : ℕ) (known best after : List ℕ) (r : ℕ) : Type 0 where
  pub plan-is : plan_in stages after
      ≡ (if ltb (plan_cost T (plan_in stages known)) (plan_cost T (plan_in stages best)) then plan_in stages known else plan_in stages best)
  pub cost-is : r ≡ plan_cost T (plan_in stages after)

-- What the round at k found: V(k), and the plan that 01 chooses there.
pub record FoundAt (T : StageTree) (k stages : ℕ) (known : List ℕ) (v : ℕ) : Type 0 where
  pub value-is : v ≡ value T k
  pub chosen : first_plan T k ≡ some (plan_in stages known)

-- next_round: the slices hold some tree, the round at twice the grain has found v and `known`, and the table has the columns.
pub record NextIn (table : List ℤ) (driver delay : List ℕ) (limit : List ℤ) (cost : List ℕ) (stages layers : ℕ) (arrival : ℤ) (half columns v : ℕ)
    (known : List ℕ) : Type 0 where
  pub tree : StageTree
  pub numbers : Numbers tree driver delay limit cost stages layers arrival
  pub k : ℕ
  pub grain-is : half ≡ 2 ^ k
  pub last : FoundAt tree (suc k) stages known v
  pub long : stages ≤ length known
  pub sized : (stages + 2) * columns ≤ length table

-- The same of the tree as it is lent.
abbrev pub NextRoundOf : List ℤ → Tree → (half columns v : ℕ) → List ℕ → Type 0
NextRoundOf table tree half columns v known =
    NextIn table tree.driver.now tree.delay.now tree.limit.now tree.cost.now tree.stages tree.layers tree.arrival half columns v known

pub next-same : {table : List ℤ} {driver delay : List ℕ} {limit : List ℤ} {cost : List ℕ} {stages layers : ℕ} {arrival a : ℤ} {half columns v : ℕ} {known : List ℕ}
    → a ≡ arrival → NextIn table driver delay limit cost stages layers arrival half columns v known
    → NextIn table driver delay limit cost stages layers a half columns v known
next-same e I = rw e I

-- run_rounds: the slices hold some tree, the plan that 01 chooses at the largest k is known, and the table has a column.
pub record RunIn (table : List ℤ) (driver delay : List ℕ) (limit : List ℤ) (cost : List ℕ) (stages layers : ℕ) (arrival : ℤ) (last : ℕ)
    (known best : List ℕ) : Type 0 where
  pub tree : StageTree
  pub numbers : Numbers tree driver delay limit cost stages layers arrival
  pub chosen : first_plan tree max_exponent ≡ some (plan_in stages known)
  pub last-most : last ≤ max_exponent
  pub some-column : stages + 2 ≤ length table
  pub known-long : stages ≤ length known
  pub best-long : stages ≤ length best

abbrev pub RunOf : List ℤ → Tree → (last : ℕ) → (known best : List ℕ) → Type 0
RunOf table tree last known best =
    RunIn table tree.driver.now tree.delay.now tree.limit.now tree.cost.now tree.stages tree.layers tree.arrival last known best

pub run-same : {table : List ℤ} {driver delay : List ℕ} {limit : List ℤ} {cost : List ℕ} {stages layers : ℕ} {arrival a : ℤ} {last : ℕ} {known best : List ℕ}
    → a ≡ arrival → RunIn table driver delay limit cost stages layers arrival last known best
    → RunIn table driver delay limit cost stages layers a last known best
run-same e I = rw e I

pub run_room : {table : List ℤ} {driver delay : List ℕ} {limit : List ℤ} {cost : List ℕ} {stages layers : ℕ} {arrival : ℤ} {last : ℕ} {known best room : List ℕ}
    → length room ≡ length best → RunIn table driver delay limit cost stages layers arrival last known best
    → RunIn table driver delay limit cost stages layers arrival last known room
run_room e I = record {
  tree = I.tree;
  numbers = I.numbers;
  chosen = I.chosen;
  last-most = I.last-most;
  some-column = I.some-column;
  known-long = I.known-long;
  best-long = rw e I.best-long;
}

-- k is the last of the k's run, down to `last`: its V(k) fits the columns, and if it is not `last`, that of the next does not. `best` is the cheapest plan seen.
pub record RoundsFound (T : StageTree) (last columns : ℕ) (best : List ℕ) (k g v : ℕ) : Type 0 where
  pub most : k ≤ max_exponent
  pub due : last ≤ k
  pub ended : last < k → columns ≤ value T (k - 1)
  pub grain-is : g ≡ 2 ^ k
  pub value-is : v ≡ value T k
  pub fits : v < columns
  pub best-is : tree_best T (due_rounds (max_rounds - k)) ≡ some best

abbrev pub Ran : StageTree → ℕ → ℕ → ℕ → List ℕ → Result Found Unplanned → Type 0
Ran T last columns stages best (Err Late) = ⊥
Ran T last columns stages best (Err Short) = ⊥
Ran T last columns stages best (Ok f) = RoundsFound T last columns (plan_in stages best) f.k f.g f.value
