-- The descent in k: none of the k above has qualified. A k at which a known plan's rounded cost does not qualify does not either, the first that qualifies
-- is the grain's, and a V(k) that does not fit the columns settles that the grain's does not.
use mathlib.Core.Path.{◌≡◌, refl, sym, ◌∙◌}
use mathlib.Core.Bool.{true, false}
use mathlib.Core.List.{List}
use mathlib.Core.Logic.{◌⊎◌, inl, inr}
use Prim.Native.Nat.{ℕ, suc, ◌+◌, ◌-◌, ◌*◌, ◌/◌, ◌^◌, ◌≤◌, ◌<◌}
use native.Mathlib.Omega.{arith}
use native.Mathlib.Nat.{mul-le-mul_left, mul-le-mul_right, pow-le-pow_right}
use lib.Dec.{leb, lit<}
use lib.ListN.{length}
use lib.IntN.{ℤ}
use lib.Pow.{pow_pos}
use borrow.Author.Tests.{lt-leb, leb-false}
use Rattle.laws.specs.Booleans.{same_or}
use Rattle.laws.specs.Quotients.{mul_quotient_le}
use Rattle.rules.specs.Grain.{max_exponent}
use Rattle.oracle.specs.Stages.{StageTree, plan_costs}
use Rattle.oracle.specs.Rounding.{rounded-below}
use Rattle.oracle.specs.Value.{plan_rounded, value, passes, exponent, MeetingPlan, first-meets, value_le, value-zero, value-exponent, exponent-is}
use Rattle.rounding.specs.Clauses.{Costs, plan_in}
use Rattle.rounds.specs.Problem.{Numbers, Problem}
use Rattle.rounds.specs.Clauses.{Known, PlanAtIn, PlanFound}
use Rattle.search.specs.Clauses.{TestIn, DescendIn, GrainFound}
use Rattle.rounds.proofs.Grains.{half-grain, costs_of}

-- For one tree: the grain is 2^k, and nothing from k up has qualified.
pub record Above (T : StageTree) (p q k g : ℕ) : Type 0 where
  pub most : k ≤ max_exponent
  pub grain-is : g ≡ 2 ^ k
  pub none : (j : ℕ) → k ≤ j → j ≤ max_exponent → passes T p q j ≡ false

module _ {T : StageTree} {driver delay : List ℕ} {limit : List ℤ} {cost : List ℕ} {stages layers : ℕ} {arrival : ℤ} {p q : ℕ}
    (P : Problem T driver delay limit cost stages layers arrival p q) {x : List ℕ} (M : MeetingPlan T x) where
  zero-fails : value T max_exponent ≡ 0 → passes T p q max_exponent ≡ false
  zero-fails e =
      rw e (lt-leb (q * T.stages * (2 ^ max_exponent - 1)) (p * 2 ^ max_exponent * 0)
      (omega (arith, mul-le-mul_right T.stages P.some-part, P.numbers.tree.some-stage)))

  pub above-start : Above T p q max_exponent (2 ^ max_exponent)
  above-start =
      let z = value-zero T x M (P.numbers.cheap x) in
      record { most = omega arith; grain-is = refl; none = λ j a b. let e : j ≡ max_exponent = omega arith in rw e (zero-fails z) }

  -- The grain times a plan's rounded cost is below the largest grain.
  pub known_small : (k : ℕ) → 2 ^ k * plan_rounded T k x < 2 ^ max_exponent
  known_small k = omega (arith, rounded-below (2 ^ k) (plan_costs T x), P.numbers.cheap x)

  module _ {k g : ℕ} (A : Above T p q (suc k) g) where
    pub grain-halved : g / 2 ≡ 2 ^ k
    grain-halved = half-grain k A.grain-is

    pub test_in : {v : ℕ} → v ≤ plan_rounded T k x → TestIn p q stages (g / 2) v
    test_in h = record {
      share = P.share;
      parts = P.parts;
      few-stages = omega (arith, P.numbers.stages-are, P.numbers.laid.delays.few-stages);
      some-grain = rw grain-halved (pow_pos k);
      grain-most = rw grain-halved (pow-le-pow_right {n = 2} (lit< tt) {i = k} {j = max_exponent} (omega (arith, A.most)));
      floor-most = rw grain-halved (omega (arith, mul-le-mul_left (2 ^ k) h, known_small k));
    }

    -- Not even v qualifies, and V(k) is no more.
    pub above_more : {v : ℕ} → value T k ≤ v → leb (q * stages * (g / 2 - 1)) (p * (g / 2) * v) ≡ false → Above T p q k (g / 2)
    above_more {v} h t = record { most = omega (arith, A.most); grain-is = grain-halved; none = λ j a b. here j a b (same_or k j) }
      where
        fails : passes T p q k ≡ false
        fails =
            let f = leb-false (q * stages * (g / 2 - 1)) (p * (g / 2) * v) t in
            let f2 = rw (grain-halved, P.numbers.stages-are) at f in
            lt-leb (q * T.stages * (2 ^ k - 1)) (p * 2 ^ k * value T k) (omega (arith, f2, mul-le-mul_left (p * 2 ^ k) h))

        here : (j : ℕ) → k ≤ j → j ≤ max_exponent → (j ≡ k) ⊎ (j ≡ k → ⊥) → passes T p q j ≡ false
        here j a b (inl e) = rw e fails
        here j a b (inr ne) = A.none j (omega arith) b

    -- The columns are too few.
    pub descent_short : {columns : ℕ} → columns ≤ value T k → columns < value T (exponent T p q) + 1
    descent_short h = omega (arith, value-exponent T p q k (λ j a b. A.none j a b) x M)

    pub descent_found : {columns v : ℕ} {known : List ℕ} → PlanFound T k columns stages known v
        → leb (q * stages * (g / 2 - 1)) (p * (g / 2) * v) ≡ true → GrainFound T p q columns stages known k (g / 2) v
    descent_found {v = v} R t =
        let same : leb (q * stages * (g / 2 - 1)) (p * (g / 2) * v) ≡ passes T p q k = rw (grain-halved, R.is, P.numbers.stages-are) in
        record {
          exponent-is = sym (exponent-is T p q k (omega (arith, A.most)) (sym same ∙ t) (λ j a b. A.none j a b));
          grain-is = grain-halved;
          value-is = R.is;
          fits = R.fits;
          chosen = R.chosen;
        }

-- The same for every tree that the slices hold, and the plan known so far meets timing; `start` and `first` are table and plan before the descent.
pub record Descending (start : List ℤ) (driver delay : List ℕ) (limit : List ℤ) (cost : List ℕ) (stages layers : ℕ) (arrival : ℤ) (p q : ℕ) (first : List ℕ)
    (columns : ℕ) (table : List ℤ) (known : List ℕ) (k g : ℕ) : Type 0 where
  pub long : length table ≡ length start
  pub known-long : length known ≡ length first
  pub columns-are : columns ≡ length start / (stages + 2)
  pub above : (T : StageTree) → Problem T driver delay limit cost stages layers arrival p q → MeetingPlan T (plan_in stages first) → Above T p q k g
  pub meets : (T : StageTree) → Problem T driver delay limit cost stages layers arrival p q → MeetingPlan T (plan_in stages first)
      → MeetingPlan T (plan_in stages known)

module _ {start : List ℤ} {driver delay : List ℕ} {limit : List ℤ} {cost : List ℕ} {stages layers : ℕ} {arrival : ℤ} {p q : ℕ} {first : List ℕ} where
  pub descending_start : {columns : ℕ} → columns ≡ length start / (stages + 2)
      → Descending start driver delay limit cost stages layers arrival p q first columns start first max_exponent (2 ^ max_exponent)
  descending_start e = record { long = refl; known-long = refl; columns-are = e; above = λ T P M. above-start P M; meets = λ T P M. M }

  module _ {columns k g : ℕ} {table : List ℤ} {known : List ℕ}
      (D : Descending start driver delay limit cost stages layers arrival p q first columns table known k g) where
    module _ (h : 0 < k) where
      here : (T : StageTree) → Problem T driver delay limit cost stages layers arrival p q → MeetingPlan T (plan_in stages first) → Above T p q (suc (k - 1)) g
      here T P M = let e : suc (k - 1) ≡ k = omega arith in rw e (D.above T P M)

      halved : (T : StageTree) → Problem T driver delay limit cost stages layers arrival p q → MeetingPlan T (plan_in stages first) → g / 2 ≡ 2 ^ (k - 1)
      halved T P M = grain-halved P M (here T P M)

      -- `bound` is the rounded cost of the known plan.
      module _ {bound : ℕ} (B : (T : StageTree) (k : ℕ) → Costs T cost stages → g / 2 ≡ 2 ^ k → MeetingPlan T (plan_in stages known)
          → bound ≡ plan_rounded T k (plan_in stages known)) where
        b : (T : StageTree) (P : Problem T driver delay limit cost stages layers arrival p q) (M : MeetingPlan T (plan_in stages first))
            → bound ≡ plan_rounded T (k - 1) (plan_in stages known)
        b T P M = B T (k - 1) (costs_of P.numbers) (halved T P M) (D.meets T P M)

        pub bound_test : DescendIn driver delay limit cost stages layers arrival p q first → TestIn p q stages (g / 2) bound
        bound_test I =
            test_in I.problem (D.meets I.tree I.problem I.meets) (here I.tree I.problem I.meets)
            (omega (arith, b I.tree I.problem I.meets))

        -- Not even the known plan qualifies.
        pub turn-over : leb (q * stages * (g / 2 - 1)) (p * (g / 2) * bound) ≡ false
            → Descending start driver delay limit cost stages layers arrival p q first columns table known (k - 1) (g / 2)
        turn-over t = record {
          long = D.long;
          known-long = D.known-long;
          columns-are = D.columns-are;
          above = λ T P M.
              let Q = D.meets T P M in
              above_more P Q (here T P M) (omega (arith, value_le T (k - 1) (plan_in stages known) Q, b T P M)) t;
          meets = D.meets;
        }

        known_is : (T : StageTree) (P : Problem T driver delay limit cost stages layers arrival p q) (M : MeetingPlan T (plan_in stages first))
            → Known T (k - 1) stages known bound
        known_is T P M = record { meets = D.meets T P M; bound_is = b T P M }

        pub plan-at_in : DescendIn driver delay limit cost stages layers arrival p q first
            → PlanAtIn table driver delay limit cost stages layers arrival (g / 2) columns bound known
        plan-at_in I =
            let f : (stages + 2) * columns ≤ length start = rw D.columns-are (mul_quotient_le (length start) (stages + 2)) in
            record {
              tree = I.tree;
              numbers = I.problem.numbers;
              k = k - 1;
              grain-is = halved I.tree I.problem I.meets;
              long = omega (arith, D.known-long, I.long);
              plan = known_is I.tree I.problem I.meets;
              sized = omega (arith, D.long, f);
            }

        -- V(k) does not fit the columns.
        pub turn-short : ((T : StageTree) (k : ℕ) → Numbers T driver delay limit cost stages layers arrival → g / 2 ≡ 2 ^ k → Known T k stages known bound
            → columns ≤ value T k) → (T : StageTree) → Problem T driver delay limit cost stages layers arrival p q → MeetingPlan T (plan_in stages first)
            → length start / (stages + 2) < value T (exponent T p q) + 1
        turn-short E T P M =
            let few = E T (k - 1) P.numbers (halved T P M) (known_is T P M) in
            omega (arith, D.columns-are, descent_short P M (here T P M) few)

        module _ {v : ℕ} {next : List ℕ}
            (E : (T : StageTree) (k : ℕ) → Numbers T driver delay limit cost stages layers arrival → g / 2 ≡ 2 ^ k → Known T k stages known bound
            → PlanFound T k columns stages next v) where
          found_at : (T : StageTree) (P : Problem T driver delay limit cost stages layers arrival p q) (M : MeetingPlan T (plan_in stages first))
              → PlanFound T (k - 1) columns stages next v
          found_at T P M = E T (k - 1) P.numbers (halved T P M) (known_is T P M)

          pub turn-test : DescendIn driver delay limit cost stages layers arrival p q first → TestIn p q stages (g / 2) v
          turn-test I =
              let P = I.problem in
              let Q = D.meets I.tree P I.meets in
              let R = found_at I.tree P I.meets in
              test_in P Q (here I.tree P I.meets) (omega (arith, R.is, value_le I.tree (k - 1) (plan_in stages known) Q))

          pub turn-found : leb (q * stages * (g / 2 - 1)) (p * (g / 2) * v) ≡ true → (T : StageTree)
              → Problem T driver delay limit cost stages layers arrival p q → MeetingPlan T (plan_in stages first)
              → GrainFound T p q (length start / (stages + 2)) stages next (k - 1) (g / 2) v
          turn-found t T P M = rw D.columns-are at (descent_found P M (here T P M) (found_at T P M) t)

          pub turn_more : {after : List ℤ} → leb (q * stages * (g / 2 - 1)) (p * (g / 2) * v) ≡ false → length after ≡ length start
              → length next ≡ length first → Descending start driver delay limit cost stages layers arrival p q first columns after next (k - 1) (g / 2)
          turn_more t e f = record {
            long = e;
            known-long = f;
            columns-are = D.columns-are;
            above = λ T P M. above_more P M (here T P M) (omega (arith, (found_at T P M).is)) t;
            meets = λ T P M. (first-meets T (k - 1) (plan_in stages next) (found_at T P M).chosen).0;
          }
