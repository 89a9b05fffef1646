-- Demand 2: the plan that 01 chooses. Where some plan meets timing there is one; it is a plan of the net, meets timing, has rounded cost V(k), and is the
-- first that does. It is the plan that the search reads off its table, because the table's least charges are exact.
use Rattle.std.proofs.Math.Path.{◌≡◌}
use Rattle.std.proofs.Common.{sym, ◌∙◌, arith}
use Rattle.std.specs.Prelude.{Bool, ◌&&◌, ℕ, ltb, eqb, length}
use Rattle.std.proofs.Math.Bool.{true}
use Rattle.std.proofs.Math.Option.{some, get_or}
use mathlib.Core.List.{List, [], ◌∷◌, ◌++◌, Memᴰ}
use borrow.Author.Tests.{eqb-true, eq-eqb}
use Rattle.laws.specs.Booleans.{and_both}
use Rattle.laws.specs.Lists.{mem-keep, keep-mem, head-keep, find, find-keep}
use Rattle.laws.specs.First.{find-some, find-split}
use Rattle.laws.specs.Extremes.{lowest-some}
use Rattle.rules.specs.Tree.{Net, is_plan, plans}
use Rattle.rules.specs.Timing.{meets}
use Rattle.rules.specs.Grain.{rounded_cost, meeting_plans, least_rounded, chosen}
use Rattle.demands.specs.Plans.{mem-plan, plan-mem, some-plan_iff}

-- x is the plan that 01 chooses at k: the first in plan order among the plans that meet timing with rounded cost V(k).
pub record ChosenPlan (n : Net) (k : ℕ) (x : List ℕ) : Type 0 where
  pub is-plan : is_plan n x ≡ true
  pub meets_timing_lem : meets n x ≡ true
  pub rounded-least : rounded_cost n k x ≡ least_rounded n k
  -- the plans before and after it in plan order
  pub earlier : List (List ℕ)
  pub later : List (List ℕ)
  pub in_order : plans n ≡ earlier ++ (x ∷ later)
  pub none-earlier : (y : List ℕ) → Memᴰ y earlier → meets n y ≡ true → rounded_cost n k y ≡ least_rounded n k → ⊥

-- The test by which it is chosen.
abbrev is_best : Net → ℕ → List ℕ → Bool
is_best n k x = meets n x && eqb (rounded_cost n k x) (least_rounded n k)

-- These hold of every net.
module _ (n : Net) (k : ℕ) where
  -- Demand 2: where some plan meets timing, a plan is chosen, ..
  pub chosen-some : ltb 0 (length (meeting_plans n)) ≡ true → (x : List ℕ) × (chosen n k ≡ some x)
  unfolding chosen least_rounded meeting_plans
  chosen-some e =
      let (x, p, m) = (some-plan_iff n).0 e in
      let (z, d, q) = lowest-some (rounded_cost n k) (meeting_plans n) (mem-keep (meets n) (plans n) (mem-plan n x p) m) in
      let (a, b) = keep-mem (meets n) (plans n) d in
      let t : is_best n k z ≡ true = rw (b, eq-eqb (rounded_cost n k z) (least_rounded n k) q) in
      (get_or (find (is_best n k) (plans n)) [], find-keep (is_best n k) (plans n) ∙ find-some (is_best n k) [] (plans n) a t)

  -- .. and it is the first that meets timing with rounded cost V(k).
  pub chosen_is : (x : List ℕ) → chosen n k ≡ some x → ChosenPlan n k x
  unfolding chosen
  chosen_is x e =
      let (a, t) = head-keep (is_best n k) (plans n) e in
      let (m, q) = and_both (meets n x) (eqb (rounded_cost n k x) (least_rounded n k)) t in
      let (earlier, later, order, fails) = find-split (is_best n k) (plans n) (sym (find-keep (is_best n k) (plans n)) ∙ e) in
      record {
        is-plan = plan-mem n x a;
        meets_timing_lem = m;
        rounded-least = eqb-true (rounded_cost n k x) (least_rounded n k) q;
        earlier = earlier;
        later = later;
        in_order = order;
        none-earlier = λ y d m q. let f = rw (m, eq-eqb (rounded_cost n k y) (least_rounded n k) q) at (fails y d) in let z : ◌≡◌ {A = ℕ} 0 1 = cc in omega arith;
      }
