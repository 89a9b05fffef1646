-- The plans of a net are the members of its list of plans, which has every list of layer numbers that there can be. So the list of those that meet
-- timing has a member just where some plan does.
use Rattle.std.specs.Prelude.{◌≡◌, true, ◌↔◌, ℕ, ◌<◌, ltb, eqb}
use Rattle.std.proofs.Math.Path.{refl, sym}
use Rattle.std.proofs.Common.{◌∙◌, arith}
use mathlib.Core.List.{List, [], ◌∷◌, map, Memᴰ}
use Rattle.std.proofs.Math.ListN.{length}
use borrow.Author.Tests.{eqb-true, eq-eqb, ltb-true, lt-ltb}
use Rattle.laws.specs.Basic.{all, keep}
use Rattle.laws.specs.Booleans.{and_both}
use Rattle.laws.specs.Lists.{mem-keep, keep-mem}
use Rattle.rules.specs.Tree.{Net, stages, layer_count, on, are_layers, is_plan, plans}
use Rattle.rules.specs.Timing.{meets}
use Rattle.rules.specs.Grain.{meeting_plans}
use Rattle.facts.specs.Accepted.{Accepted}
use Rattle.oracle.specs.Plans.{EachBelow, each_at, mem-plans, plans-mem}
use Rattle.oracle.specs.Value.{MeetingPlan}
use Rattle.demands.specs.StageNumbers.{tree_of}
use Rattle.demands.specs.Required.{meets-same}

-- Layer numbers that are all below L pass the test of each, and the other way round.
tests_below : (L : ℕ) (x : List ℕ) → all (map (λ l. ltb l L) x) ≡ true → EachBelow L x
tests_below L [] e = tt
tests_below L (l ∷ ls) e = let (a, b) = and_both (ltb l L) (all (map (λ l. ltb l L) ls)) e in (ltb-true l L a, tests_below L ls b)

below-tests : (L : ℕ) (x : List ℕ) → EachBelow L x → all (map (λ l. ltb l L) x) ≡ true
below-tests L [] u = refl
below-tests L (l ∷ ls) (a, u) = rw (lt-ltb l L a) (below-tests L ls u)

module _ (n : Net) where
  pub plan-length : (x : List ℕ) → is_plan n x ≡ true → length x ≡ stages n
  unfolding is_plan
  plan-length x p = eqb-true (length x) (stages n) (and_both (eqb (length x) (stages n)) (are_layers n x) p).0

  -- Each stage is on a layer of the net.
  pub plan-on-layer : (x : List ℕ) → is_plan n x ≡ true → (t : ℕ) → t < stages n → on x t < layer_count n
  unfolding is_plan are_layers
  plan-on-layer x p t h =
      let (a, b) = and_both (eqb (length x) (stages n)) (are_layers n x) p in
      each_at (layer_count n) x t (tests_below (layer_count n) x b) (omega (arith, eqb-true (length x) (stages n) a))

  -- A plan of the net is a member of its list of plans, and every member is one (01, The tree).
  pub mem-plan : (x : List ℕ) → is_plan n x ≡ true → Memᴰ x (plans n)
  unfolding is_plan are_layers plans
  mem-plan x p =
      let (a, b) = and_both (eqb (length x) (stages n)) (are_layers n x) p in
      rw (← eqb-true (length x) (stages n) a) (mem-plans (layer_count n) x (tests_below (layer_count n) x b))

  pub plan-mem : (x : List ℕ) → Memᴰ x (plans n) → is_plan n x ≡ true
  unfolding is_plan are_layers plans
  plan-mem x m =
      let (len, u) = plans-mem (layer_count n) (stages n) x m in
      rw (eq-eqb (length x) (stages n) len, below-tests (layer_count n) x u)

  -- Demand 2, refusal 11: planning's test passes just where some plan of the net meets timing.
  pub some-plan_iff : (ltb 0 (length (meeting_plans n)) ≡ true) ↔ ((x : List ℕ) × (is_plan n x ≡ true) × (meets n x ≡ true))
  unfolding meeting_plans
  some-plan_iff = (
    λ e. first (keep (meets n) (plans n)) refl (ltb-true 0 (length (keep (meets n) (plans n))) e),
    λ (x, p, m). some (keep (meets n) (plans n)) (mem-keep (meets n) (plans n) (mem-plan x p) m),
  )
    where
      first : (xs : List (List ℕ)) → keep (meets n) (plans n) ≡ xs → 0 < length xs → (x : List ℕ) × (is_plan n x ≡ true) × (meets n x ≡ true)
      first [] q h = absurd (omega arith)
      first (x ∷ xs) q h =
          let (m, e) = keep-mem (meets n) {x = x} (plans n) (rw q (Memᴰ.head refl)) in
          (x, plan-mem x m, e)

      some : {x : List ℕ} (xs : List (List ℕ)) → Memᴰ x xs → ltb 0 (length xs) ≡ true
      some [] m = elim m [ ]
      some (y ∷ ys) m = lt-ltb 0 (length (y ∷ ys)) (omega arith)

module _ {n : Net} (A : Accepted n) where
  -- By the tree of stages the same plans meet timing, ..
  pub meeting : (x : List ℕ) → is_plan n x ≡ true → meets n x ≡ true → MeetingPlan (tree_of n) x
  unfolding plans
  meeting x p m = record { plan = mem-plan n x p; meets = meets-same A x ∙ m }

  pub meeting-is : (x : List ℕ) → MeetingPlan (tree_of n) x → (is_plan n x ≡ true) × (meets n x ≡ true)
  unfolding plans
  meeting-is x M = (plan-mem n x M.plan, sym (meets-same A x) ∙ M.meets)

  -- .. and some plan does where the test passes.
  pub some-meeting : ltb 0 (length (meeting_plans n)) ≡ true → (x : List ℕ) × MeetingPlan (tree_of n) x
  some-meeting e = let (x, p, m) = (some-plan_iff n).0 e in (x, meeting x p m)
