-- The rounds down the k's: the plan known is the one that 01 chooses at k, its V(k) fits the columns, and the best plan is the cheapest of those seen. One round
-- more keeps all this at the next k, or shows that V there does not fit.
use mathlib.Core.Path.{◌≡◌, refl, ap, sym, ◌∙◌}
use mathlib.Core.Option.{some}
use mathlib.Core.List.{List, ◌++◌}
use Prim.Native.Nat.{ℕ, suc, ◌+◌, ◌-◌, ◌*◌, ◌/◌, ◌^◌, ◌≤◌, ◌<◌}
use native.Mathlib.Omega.{arith}
use native.Mathlib.Nat.{le-div_iff_mul-le}
use lib.ListN.{length, drop}
use lib.Seq.{length-take-le, take_at}
use lib.IntN.{ℤ}
use lib.Pow.{pow_pos}
use borrow.Author.Tests.{lt-ltb, le-ltb}
use Rattle.laws.specs.Quotients.{mul_quotient_le}
use Rattle.rules.specs.Grain.{max_exponent}
use Rattle.rules.specs.Rounds.{max_rounds, due_rounds}
use Rattle.oracle.specs.Stages.{StageTree}
use Rattle.oracle.specs.Value.{plan_rounded, value, first_plan, MeetingPlan, first-meets, value-halved, value-zero}
use Rattle.oracle.specs.Rounds.{plan_cost, cost-at-one, tree_best, best-first, best-more, first-kept}
use Rattle.rounding.specs.Clauses.{Costs, plan_in, PricedPlan}
use Rattle.rounds.specs.Problem.{Numbers}
use Rattle.rounds.specs.Clauses.{Known, PlanAtIn, PlanFound}
use Rattle.rounds.proofs.Grains.{half-grain, costs_of, priced-plan, bound_small}
use Rattle.rounds_search.specs.Clauses.{Cheaper, FoundAt, NextIn, RunIn, RoundsFound}

-- A plan copied to the front of a buffer is what the buffer opens with.
pub copied-plan : (stages : ℕ) (known best : List ℕ) {after : List ℕ} → stages ≤ length known → after ≡ plan_in stages known ++ drop stages best
    → plan_in stages after ≡ plan_in stages known
copied-plan stages known best h e =
    ap (plan_in stages) e ∙ take_at (plan_in stages known) (drop stages best) stages (length-take-le stages known h)

-- Which of two plans is kept, by their costs.
module _ (T : StageTree) (stages : ℕ) (known best : List ℕ) {least found : ℕ} (l : least ≡ plan_cost T (plan_in stages best))
    (f : found ≡ plan_rounded T 0 (plan_in stages known)) where
  now : found ≡ plan_cost T (plan_in stages known)
  now = f ∙ cost-at-one T (plan_in stages known)

  pub best-kept : least ≤ found → Cheaper T stages known best best least
  best-kept h = record {
    plan-is = rw (le-ltb (plan_cost T (plan_in stages known)) (plan_cost T (plan_in stages best)) (omega (arith, l, now))) refl;
    cost-is = l;
  }

  pub best_replaced : found < least → {after : List ℕ} → plan_in stages after ≡ plan_in stages known → Cheaper T stages known best after found
  best_replaced h {after} e = record {
    plan-is = e ∙ rw (lt-ltb (plan_cost T (plan_in stages known)) (plan_cost T (plan_in stages best)) (omega (arith, l, now))) refl;
    cost-is = now ∙ ap (plan_cost T) (sym e);
  }

-- One round more, at half the grain.
module _ {T : StageTree} {k stages v : ℕ} {known : List ℕ} (F : FoundAt T (suc k) stages known v) where
  pub found-meets : MeetingPlan T (plan_in stages known)
  found-meets = (first-meets T (suc k) (plan_in stages known) F.chosen).0

  -- V(k + 1) is the rounded cost of the plan found there.
  pub found-known : Known T (suc k) stages known v
  found-known = record { meets = found-meets; bound_is = F.value-is ∙ sym (first-meets T (suc k) (plan_in stages known) F.chosen).1 }

  -- V(k) is at least twice V(k + 1), and that is past the columns.
  pub next_hopeless : {columns : ℕ} → columns ≤ 2 * v → columns ≤ value T k
  next_hopeless h = omega (arith, F.value-is, value-halved T k (plan_in stages known) found-meets)

  -- The plan found there has no more than twice V(k + 1) at k: it is the one chosen at k too.
  pub next-is-kept : {columns bound : ℕ} → bound ≡ plan_rounded T k (plan_in stages known) → bound ≡ 2 * v → 2 * v < columns → PlanFound T k columns stages known (2 * v)
  next-is-kept b e h =
      let (value-is, chosen) = first-kept T k F.chosen (omega (arith, F.value-is)) in
      record { is = omega (arith, F.value-is); fits = h; chosen = chosen }

module _ {table : List ℤ} {driver delay : List ℕ} {limit : List ℤ} {cost : List ℕ} {stages layers : ℕ} {arrival : ℤ} {half columns v : ℕ} {known : List ℕ}
    (I : NextIn table driver delay limit cost stages layers arrival half columns v known) where
  pub value-small : v < 2 ^ max_exponent
  value-small = bound_small I.numbers (found-known I.last)

  pub priced-known : PricedPlan cost known stages half
  priced-known = priced-plan I.numbers I.long (found-meets I.last) (rw I.grain-is (pow_pos I.k))

  -- `bound` is the rounded cost of the known plan.
  module _ {bound : ℕ} (B : (T : StageTree) (k : ℕ) → Costs T cost stages → half ≡ 2 ^ k → MeetingPlan T (plan_in stages known)
      → bound ≡ plan_rounded T k (plan_in stages known)) where
    pub known_at : (T : StageTree) (k : ℕ) → Numbers T driver delay limit cost stages layers arrival → half ≡ 2 ^ k → FoundAt T (suc k) stages known v
        → Known T k stages known bound
    known_at T k N e F = let M = found-meets F in record { meets = M; bound_is = B T k (costs_of N) e M }

    pub next_in : PlanAtIn table driver delay limit cost stages layers arrival half columns bound known
    next_in = record {
      tree = I.tree;
      numbers = I.numbers;
      k = I.k;
      grain-is = I.grain-is;
      long = I.long;
      plan = known_at I.tree I.k I.numbers I.grain-is I.last;
      sized = I.sized;
    }

-- For one tree: rounds were run down to k.
pub record Run (T : StageTree) (columns stages : ℕ) (known best : List ℕ) (k g v least : ℕ) : Type 0 where
  pub most : k ≤ max_exponent
  pub grain-is : g ≡ 2 ^ k
  pub value-is : v ≡ value T k
  pub fits : v < columns
  pub here : first_plan T k ≡ some (plan_in stages known)
  pub best-is : tree_best T (due_rounds (max_rounds - k)) ≡ some (plan_in stages best)
  pub least-is : least ≡ plan_cost T (plan_in stages best)

module _ {T : StageTree} {driver delay : List ℕ} {limit : List ℤ} {cost : List ℕ} {stages layers : ℕ} {arrival : ℤ}
    (N : Numbers T driver delay limit cost stages layers arrival) where
  -- The round at the largest k.
  run-start : {columns least : ℕ} {known best : List ℕ} → 0 < columns → first_plan T max_exponent ≡ some (plan_in stages known)
      → plan_in stages best ≡ plan_in stages known → least ≡ plan_rounded T 0 (plan_in stages known)
      → Run T columns stages known best max_exponent (2 ^ max_exponent) 0 least
  run-start {known = known} {best = best} h e b l =
      let (M, _) = first-meets T max_exponent (plan_in stages known) e in
      let z = value-zero T (plan_in stages known) M (N.cheap (plan_in stages known)) in
      record {
        most = omega arith;
        grain-is = refl;
        value-is = sym z;
        fits = h;
        here = e;
        best-is = best-first T e ∙ ap some (sym b);
        least-is = l ∙ (cost-at-one T (plan_in stages known) ∙ ap (plan_cost T) (sym b));
      }

module _ {T : StageTree} {columns stages : ℕ} {known best : List ℕ} {k g v least : ℕ} (R : Run T columns stages known best (suc k) g v least) where
  last_found : FoundAt T (suc k) stages known v
  last_found = record { value-is = R.value-is; chosen = R.here }

  run_more : {next after : List ℕ} {u c : ℕ} → PlanFound T k columns stages next u → Cheaper T stages next best after c
      → Run T columns stages next after k (g / 2) u c
  run_more {next} {after} {u} P C =
      let m : max_rounds - k ≡ suc (max_rounds - suc k) = omega (arith, R.most) in
      let back : max_exponent - (max_rounds - suc k) ≡ k = omega (arith, R.most) in
      record {
        most = omega (arith, R.most);
        grain-is = half-grain k R.grain-is;
        value-is = P.is;
        fits = P.fits;
        here = P.chosen;
        best-is = ap (λ (i : ℕ). tree_best T (due_rounds i)) m ∙
            (best-more T (max_rounds - suc k) R.best-is (ap (first_plan T) back ∙ P.chosen) ∙ ap some (sym C.plan-is));
        least-is = C.cost-is;
      }

-- The same for every tree that the slices hold; `start`, `first` and `room` are table, known plan and best plan before the first of these rounds.
pub record Running (start : List ℤ) (driver delay : List ℕ) (limit : List ℤ) (cost : List ℕ) (stages layers : ℕ) (arrival : ℤ) (last : ℕ)
    (first room : List ℕ) (columns : ℕ) (table : List ℤ) (known best : List ℕ) (k g v least : ℕ) : Type 0 where
  pub long : length table ≡ length start
  pub known-long : length known ≡ length first
  pub best-long : length best ≡ length room
  pub columns-are : columns ≡ length start / (stages + 2)
  pub due : last ≤ k
  pub run : (T : StageTree) → Numbers T driver delay limit cost stages layers arrival → first_plan T max_exponent ≡ some (plan_in stages first)
      → Run T columns stages known best k g v least

module _ {start : List ℤ} {driver delay : List ℕ} {limit : List ℤ} {cost : List ℕ} {stages layers : ℕ} {arrival : ℤ} {last : ℕ} {first room : List ℕ} where
  pub priced-first : RunIn start driver delay limit cost stages layers arrival last first room → {g : ℕ} → 0 < g → PricedPlan cost first stages g
  priced-first I = priced-plan I.numbers I.known-long (first-meets I.tree max_exponent (plan_in stages first) I.chosen).0

  pub running_start : RunIn start driver delay limit cost stages layers arrival last first room → {columns least : ℕ} (old : List ℕ)
      → columns ≡ length start / (stages + 2) → room ≡ plan_in stages first ++ drop stages old
      → ((T : StageTree) (k : ℕ) → Costs T cost stages → 1 ≡ 2 ^ k → MeetingPlan T (plan_in stages first) → least ≡ plan_rounded T k (plan_in stages first))
      → Running start driver delay limit cost stages layers arrival last first room columns start first room max_exponent (2 ^ max_exponent) 0 least
  running_start I {columns} old e b B = record {
    long = refl;
    known-long = refl;
    best-long = refl;
    columns-are = e;
    due = I.last-most;
    run = λ T N c.
        let h : stages + 2 ≤ length start = I.some-column in
        let some-column : 1 ≤ length start / (stages + 2) = (le-div_iff_mul-le {k = stages + 2} (omega arith)).1 (omega arith) in
        run-start N (omega arith) c (copied-plan stages first old I.known-long b)
        (B T 0 (costs_of N) refl (first-meets T max_exponent (plan_in stages first) c).0);
  }

  module _ {columns k g v least : ℕ} {table : List ℤ} {known best : List ℕ}
      (D : Running start driver delay limit cost stages layers arrival last first room columns table known best k g v least) where
    -- Where k is the last: the next needs more columns than there are, or is not due.
    ended_here : (T : StageTree) → Numbers T driver delay limit cost stages layers arrival → first_plan T max_exponent ≡ some (plan_in stages first)
        → (last < k → columns ≤ value T (k - 1)) → RoundsFound T last (length start / (stages + 2)) (plan_in stages best) k g v
    ended_here T N c e =
        let R = D.run T N c in
        record {
          most = R.most;
          due = D.due;
          ended = λ a. omega (arith, e a, D.columns-are);
          grain-is = R.grain-is;
          value-is = R.value-is;
          fits = omega (arith, R.fits, D.columns-are);
          best-is = R.best-is;
        }

    -- All rounds that are due were run.
    pub running_end : k ≤ last → (T : StageTree) → Numbers T driver delay limit cost stages layers arrival → first_plan T max_exponent ≡ some (plan_in stages first)
        → RoundsFound T last (length start / (stages + 2)) (plan_in stages best) k g v
    running_end h T N c = ended_here T N c (λ a. absurd (omega arith))

    module _ (h : 0 < k) where
      here : (T : StageTree) → Numbers T driver delay limit cost stages layers arrival → first_plan T max_exponent ≡ some (plan_in stages first)
          → Run T columns stages known best (suc (k - 1)) g v least
      here T N c = let e : suc (k - 1) ≡ k = omega arith in rw e (D.run T N c)

      halved : (T : StageTree) → Numbers T driver delay limit cost stages layers arrival → first_plan T max_exponent ≡ some (plan_in stages first)
          → g / 2 ≡ 2 ^ (k - 1)
      halved T N c = half-grain (k - 1) (here T N c).grain-is

      pub next_round_in : RunIn start driver delay limit cost stages layers arrival last first room
          → NextIn table driver delay limit cost stages layers arrival (g / 2) columns v known
      next_round_in I =
          let f : (stages + 2) * columns ≤ length start = rw D.columns-are (mul_quotient_le (length start) (stages + 2)) in
          record {
            tree = I.tree;
            numbers = I.numbers;
            k = k - 1;
            grain-is = halved I.tree I.numbers I.chosen;
            last = last_found (here I.tree I.numbers I.chosen);
            long = omega (arith, D.known-long, I.known-long);
            sized = omega (arith, D.long, f);
          }

      -- The next k needs more columns than there are.
      pub running_short : ((T : StageTree) (k : ℕ) → Numbers T driver delay limit cost stages layers arrival → g / 2 ≡ 2 ^ k
          → FoundAt T (suc k) stages known v → columns ≤ value T k) → (T : StageTree) → Numbers T driver delay limit cost stages layers arrival
          → first_plan T max_exponent ≡ some (plan_in stages first) → RoundsFound T last (length start / (stages + 2)) (plan_in stages best) k g v
      running_short E T N c = ended_here T N c (λ a. E T (k - 1) N (halved T N c) (last_found (here T N c)))

      module _ {u : ℕ} {next : List ℕ}
          (E : (T : StageTree) (k : ℕ) → Numbers T driver delay limit cost stages layers arrival → g / 2 ≡ 2 ^ k → FoundAt T (suc k) stages known v
          → PlanFound T k columns stages next u) where
        found_at : (T : StageTree) (N : Numbers T driver delay limit cost stages layers arrival) (c : first_plan T max_exponent ≡ some (plan_in stages first))
            → PlanFound T (k - 1) columns stages next u
        found_at T N c = E T (k - 1) N (halved T N c) (last_found (here T N c))

        next-meets : (T : StageTree) (N : Numbers T driver delay limit cost stages layers arrival) (c : first_plan T max_exponent ≡ some (plan_in stages first))
            → MeetingPlan T (plan_in stages next)
        next-meets T N c = (first-meets T (k - 1) (plan_in stages next) (found_at T N c).chosen).0

        pub priced-next : RunIn start driver delay limit cost stages layers arrival last first room → length next ≡ length first
            → PricedPlan cost next stages 1 × (stages ≤ length best)
        priced-next I l = (
          priced-plan I.numbers (omega (arith, I.known-long)) (next-meets I.tree I.numbers I.chosen) (omega arith),
          omega (arith, D.best-long, I.best-long),
        )

        pub running_more : {tableAfter : List ℤ} {after : List ℕ} {c : ℕ} → last < k → length tableAfter ≡ length start → length next ≡ length first
            → length after ≡ length room
            → ((T : StageTree) → Costs T cost stages → MeetingPlan T (plan_in stages next) → least ≡ plan_cost T (plan_in stages best)
            → Cheaper T stages next best after c)
            → Running start driver delay limit cost stages layers arrival last first room columns tableAfter next after (k - 1) (g / 2) u c
        running_more less a b l C = record {
          long = a;
          known-long = b;
          best-long = l;
          columns-are = D.columns-are;
          due = omega arith;
          run = λ T N f. run_more (here T N f) (found_at T N f) (C T (costs_of N) (next-meets T N f) (D.run T N f).least-is);
        }
