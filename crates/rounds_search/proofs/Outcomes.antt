-- The outcomes of rounds over a tree, from what the test of timing and the rounds find and what is left behind.
use mathlib.Core.Path.{◌≡◌, ap, ◌∙◌}
use mathlib.Core.Bool.{Bool, true}
use mathlib.Core.List.{List}
use Prim.Native.Nat.{ℕ, ◌+◌, ◌/◌, ◌≤◌}
use native.Mathlib.Omega.{arith}
use lib.ListN.{length, replicate}
use lib.IntN.{ℤ, pos}
use Rattle.std.specs.Prelude.{Result, Ok, Err}
use Rattle.rules.specs.Bytes.{max_stages}
use Rattle.oracle.specs.Stages.{StageTree}
use Rattle.rounding.specs.Clauses.{plan_in}
use Rattle.rounds.specs.Problem.{Numbers}
use Rattle.rounds.specs.Clauses.{Feasible}
use Rattle.search.specs.declared.Found.{Found}
use Rattle.search.specs.declared.Unplanned.{Unplanned}
use Rattle.search.specs.declared.Unplanned.TheVariants.{Late, Short}
use Rattle.search.specs.Planned.{Left}
use Rattle.rounds_search.specs.Clauses.{RunIn, Ran}
use Rattle.rounds_search.specs.Planned.{BestIn, RoundsExplored, BestPlanned}

-- Where some plan meets timing and there is a column, the rounds have what they ask.
pub run_in : {table : List ℤ} {driver delay : List ℕ} {limit : List ℤ} {cost : List ℕ} {stages layers : ℕ} {arrival : ℤ} {last : ℕ} {best known : List ℕ} {r : Bool}
    → BestIn driver delay limit cost stages layers arrival last best → stages + 2 ≤ length table → length known ≡ max_stages
    → ((T : StageTree) → Numbers T driver delay limit cost stages layers arrival → Feasible T stages known r) → r ≡ true
    → RunIn table driver delay limit cost stages layers arrival last known best
run_in I column long F e =
    let N = I.numbers in
    record {
      tree = I.tree;
      numbers = N;
      chosen = (F I.tree N).chosen e;
      last-most = I.last-most;
      some-column = column;
      known-long = omega (arith, long, N.stages-are, N.laid.delays.few-stages);
      best-long = I.long;
    }

-- What the rounds find is what the search finds.
pub rounds-explored : (T : StageTree) (last stages : ℕ) (table after : List ℤ) (best : List ℕ) (r : Result Found Unplanned)
    → Ran T last (length table / (stages + 2)) stages best r → length after ≡ length table → RoundsExplored T last stages table after best r
rounds-explored T last stages table after best (Err Late) f e = absurd f
rounds-explored T last stages table after best (Err Short) f e = absurd f
rounds-explored T last stages table after best (Ok found) f e = (f, e)

-- With what is left behind it is what the rounds give.
pub best-planned : (T : StageTree) (last stages : ℕ) (table mid after : List ℤ) (plan planAfter best : List ℕ) (r : Result Found Unplanned)
    → RoundsExplored T last stages table mid best r → Left stages best mid after plan planAfter r → BestPlanned T last stages table after plan planAfter r
best-planned T last stages table mid after plan planAfter best (Err Late) (none, kept) (a, b) = record { none = none; table_kept = a ∙ kept; plan-kept = b }
best-planned T last stages table mid after plan planAfter best (Err Short) (M, few, long) (a, b) =
    record { meeting = M; few = few; cleared = a ∙ ap (λ (n : ℕ). replicate n (pos 0)) long; plan-kept = b }
best-planned T last stages table mid after plan planAfter best (Ok f) (R, long) (a, b) =
    record { found = plan_in stages best; rounds = R; cleared = a ∙ ap (λ (n : ℕ). replicate n (pos 0)) long; plan-is = b }
