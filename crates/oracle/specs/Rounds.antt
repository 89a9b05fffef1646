-- Rounds on a tree of stages (02, wish 7): the k's in their order, the plans seen, the cheapest of them, and what one round more does to it.
use Rattle.std.specs.Prelude.{◌≡◌, true, ℕ, suc, ◌-◌, ◌*◌, ◌≤◌, eqb, ltb, if◌then◌else◌}
use Rattle.std.proofs.Math.Path.{refl}
use Rattle.std.proofs.Common.{ap, sym, ◌∙◌, arith, zero-add}
use Rattle.std.proofs.Math.Option.{Option, some}
use mathlib.Core.List.{List, [], ◌∷◌, ◌++◌, map, map-append, Memᴰ}
use borrow.Author.Tests.{eqb-true, eq-eqb}
use Rattle.laws.specs.Basic.{from, sum, somes, first_lowest}
use Rattle.laws.specs.Booleans.{and_both}
use Rattle.laws.specs.Lists.{from_more, from-mem, mem-from, mem-map, map-mem, find-keep}
use Rattle.laws.specs.First.{find_narrower}
use Rattle.laws.specs.Front.{somes_append, first-lowest-more}
use Rattle.rules.specs.Grain.{max_exponent}
use Rattle.rules.specs.Rounds.{due_rounds, last_run}
use Rattle.oracle.specs.Stages.{StageTree, tree_plans, plan_costs}
use Rattle.oracle.specs.Rounding.{rounded-one, rounded-halved}
use Rattle.oracle.specs.Timing.{meets_timing}
use Rattle.oracle.specs.Value.{plan_rounded, value, is_best, first_plan, first-meets, value_le, value-halved}

-- One k more.
pub due-more : (m : ℕ) → due_rounds (suc m) ≡ due_rounds m ++ ((max_exponent - m) ∷ [])
unfolding due_rounds
due-more m =
    ap (map (λ i. max_exponent - i)) (from_more 0 m ∙ ap (λ (i : ℕ). from 0 m ++ (i ∷ [])) (zero-add m)) ∙
    map-append (λ i. max_exponent - i) (from 0 m) (m ∷ [])

-- The k's of m rounds are those from the last up to 28.
pub due-mem : (m k : ℕ) → Memᴰ k (due_rounds m) → (last_run m ≤ k) × (k ≤ max_exponent)
unfolding due_rounds last_run
due-mem m k d =
    let (i, a, e) = map-mem (λ i. max_exponent - i) (from 0 m) d in
    let h = from-mem 0 m i a in
    (omega arith, omega arith)

pub mem-due : (m k : ℕ) → last_run m ≤ k → k ≤ max_exponent → Memᴰ k (due_rounds m)
unfolding due_rounds last_run
mem-due m k a b =
    let e : max_exponent - (max_exponent - k) ≡ k = omega arith in
    rw e at (mem-map (λ i. max_exponent - i) (mem-from 0 m (max_exponent - k) (omega arith) (omega arith)))

module _ (T : StageTree) where
  -- A plan's true cost; it is the rounded cost at grain 1.
  abbrev pub plan_cost : List ℕ → ℕ
  plan_cost x = sum (plan_costs T x)

  pub cost-at-one : (x : List ℕ) → plan_rounded T 0 x ≡ plan_cost x
  cost-at-one x = rounded-one (plan_costs T x)

  -- The plans seen at some k's, in their order, and the first of least cost.
  abbrev pub tree_seen : List ℕ → List (List ℕ)
  tree_seen ks = somes (map (first_plan T) ks)

  abbrev pub tree_best : List ℕ → Option (List ℕ)
  tree_best ks = first_lowest plan_cost (tree_seen ks)

  seen_more : (ks : List ℕ) (k : ℕ) {x : List ℕ} → first_plan T k ≡ some x → tree_seen (ks ++ (k ∷ [])) ≡ tree_seen ks ++ (x ∷ [])
  seen_more ks k e =
      ap somes (map-append (first_plan T) ks (k ∷ [])) ∙ (somes_append (map (first_plan T) ks) (first_plan T k ∷ []) ∙
      ap (λ (o : Option (List ℕ)). tree_seen ks ++ somes (o ∷ [])) e)

  -- After one round its plan is the best, ..
  pub best-first : {x : List ℕ} → first_plan T max_exponent ≡ some x → tree_best (due_rounds 1) ≡ some x
  unfolding due_rounds
  best-first {x} e = rw (e, eq-eqb (plan_cost x) (plan_cost x) refl) refl

  -- .. and after one more its plan, if it is cheaper.
  pub best-more : (m : ℕ) {b x : List ℕ} → tree_best (due_rounds m) ≡ some b → first_plan T (max_exponent - m) ≡ some x
      → tree_best (due_rounds (suc m)) ≡ some (if ltb (plan_cost x) (plan_cost b) then x else b)
  best-more m {b} {x} h e =
      ap tree_best (due-more m) ∙ (ap (first_lowest plan_cost) (seen_more (due_rounds m) (max_exponent - m) e) ∙ first-lowest-more plan_cost (tree_seen (due_rounds m)) x h)

  -- The plan chosen at k + 1 whose rounded cost at k is no more than twice V(k + 1), the least that V(k) can be, is the one chosen at k: what is least at k is least
  -- at k + 1 too.
  pub first-kept : (k : ℕ) {x : List ℕ} → first_plan T (suc k) ≡ some x → plan_rounded T k x ≡ 2 * value T (suc k)
      → (value T k ≡ 2 * value T (suc k)) × (first_plan T k ≡ some x)
  first-kept k {x} e b =
      let (M, f) = first-meets T (suc k) x e in
      let v : value T k ≡ 2 * value T (suc k) = omega (arith, value-halved T k x M, value_le T k x M) in
      let here : is_best T k x ≡ true = rw (M.meets, eq-eqb (plan_rounded T k x) (value T k) (omega arith)) refl in (
        v,
        find-keep (is_best T k) (tree_plans T) ∙
            find_narrower (is_best T (suc k)) (is_best T k) (tree_plans T) (sym (find-keep (is_best T (suc k)) (tree_plans T)) ∙ e) here (λ y m t. coarser v y m t),
      )
    where
      coarser : value T k ≡ 2 * value T (suc k) → (y : List ℕ) → Memᴰ y (tree_plans T) → is_best T k y ≡ true → is_best T (suc k) y ≡ true
      coarser v y m t =
          let (a, c) = and_both (meets_timing T y) (eqb (plan_rounded T k y) (value T k)) t in
          let q = eqb-true (plan_rounded T k y) (value T k) c in
          let low = value_le T (suc k) y (record { plan = m; meets = a }) in
          rw (a, eq-eqb (plan_rounded T (suc k) y) (value T (suc k)) (omega (arith, rounded-halved k (plan_costs T y)))) refl
