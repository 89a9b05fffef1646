-- The outcomes of planning a tree, from what the test of timing and the descent find and what is left behind.
use mathlib.Core.Path.{◌≡◌, ap, ◌∙◌}
use mathlib.Core.Bool.{Bool, true}
use mathlib.Core.List.{List}
use Prim.Native.Nat.{ℕ, ◌+◌, ◌/◌}
use native.Mathlib.Omega.{arith}
use lib.ListN.{length, replicate}
use lib.IntN.{ℤ, pos}
use Rattle.std.specs.Prelude.{Result, Ok, Err}
use Rattle.oracle.specs.Stages.{StageTree}
use Rattle.oracle.specs.Value.{MeetingPlan}
use Rattle.rounding.specs.Clauses.{plan_in}
use Rattle.rounds.specs.Problem.{Numbers}
use Rattle.rounds.specs.Clauses.{Feasible, feasible_meets}
use Rattle.search.specs.declared.Found.{Found}
use Rattle.search.specs.declared.Unplanned.{Unplanned}
use Rattle.search.specs.declared.Unplanned.TheVariants.{Late, Short}
use Rattle.search.specs.Clauses.{DescendIn, Searched}
use Rattle.search.specs.Planned.{SearchIn, Explored, Left, Planned}

-- Where some plan meets timing, the descent has what it asks.
pub descend_in : {driver delay : List ℕ} {limit : List ℤ} {cost : List ℕ} {stages layers : ℕ} {arrival : ℤ} {p q : ℕ} {known after : List ℕ} {r : Bool}
    → SearchIn driver delay limit cost stages layers arrival p q known → length after ≡ length known
    → ((T : StageTree) → Numbers T driver delay limit cost stages layers arrival → Feasible T stages after r) → r ≡ true
    → DescendIn driver delay limit cost stages layers arrival p q after
descend_in I long F e =
    record { tree = I.tree; problem = I.problem; long = omega (arith, I.long, long); meets = feasible_meets (F I.tree I.problem.numbers) e }

-- What the descent finds is what the search finds: a plan meets timing, so that it is not late.
pub explored : (T : StageTree) (p q stages : ℕ) (table after : List ℤ) (known : List ℕ) (r : Result Found Unplanned) (x : List ℕ) → MeetingPlan T x
    → Searched T p q (length table / (stages + 2)) stages known r → length after ≡ length table → Explored T p q stages table after known r
explored T p q stages table after known (Err Late) x M s e = absurd s
explored T p q stages table after known (Err Short) x M s e = ((x, M), s, e)
explored T p q stages table after known (Ok f) x M s e = (s, e)

-- With what is left behind it is what planning gives.
pub tree-planned : (T : StageTree) (p q stages : ℕ) (table mid after : List ℤ) (plan planAfter known : List ℕ) (r : Result Found Unplanned)
    → Explored T p q stages table mid known r → Left stages known mid after plan planAfter r → Planned T p q stages table after plan planAfter r
tree-planned T p q stages table mid after plan planAfter known (Err Late) (none, kept) (a, b) = record { none = none; table_kept = a ∙ kept; plan-kept = b }
tree-planned T p q stages table mid after plan planAfter known (Err Short) (M, few, long) (a, b) =
    record { meeting = M; few = few; cleared = a ∙ ap (λ (n : ℕ). replicate n (pos 0)) long; plan-kept = b }
tree-planned T p q stages table mid after plan planAfter known (Ok f) (G, long) (a, b) = record {
  exponent-is = G.exponent-is;
  grain-is = G.grain-is;
  value-is = G.value-is;
  fits = omega (arith, G.fits);
  cleared = a ∙ ap (λ (n : ℕ). replicate n (pos 0)) long;
  chosen = plan_in stages known;
  chosen_is = G.chosen;
  plan-is = b;
}
