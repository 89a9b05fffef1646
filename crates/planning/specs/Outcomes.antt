-- Planning a net that was read: the outcome of the search over its tree of stages, in the words of 01.
use Rattle.std.specs.Prelude.{◌≡◌, Bool, true, false, List, ◌++◌, ℕ, ◌+◌, ◌*◌, ◌/◌, ◌^◌, ◌≤◌, ◌<◌, leb, ltb, length, take, drop, ℤ}
use Rattle.std.proofs.Math.Path.{refl, ap, sym}
use Rattle.std.proofs.Common.{◌∙◌, arith, take_at}
use Rattle.std.proofs.Math.Option.{some}
use borrow.Author.Tests.{le-leb, lt-leb}
use Rattle.rules.specs.Tree.{Net, stages, layer_count, is_plan}
use Rattle.rules.specs.Grain.{max_exponent, meeting_plans, least_rounded, floor, grain_exponent, chosen, columns, columns_needed}
use Rattle.rules.specs.Planning.{max_share}
use Rattle.facts.specs.Accepted.{Accepted}
use Rattle.oracle.specs.Value.{value, exponent, first_plan, MeetingPlan}
use Rattle.demands.specs.StageNumbers.{tree_of, well_formed}
use Rattle.demands.specs.Same.{value_same, exponent_same, first-same}
use Rattle.demands.specs.Plans.{some-plan_iff, some-meeting, meeting-is, plan-length}
use Rattle.demands.specs.Values.{small-costs, grain-small}
use Rattle.demands.specs.Demand2.{chosen_is}
use Rattle.slices.specs.Laid.{Laid}
use Rattle.rounds.specs.Problem.{Numbers, Problem}
use Rattle.search.specs.Planned.{IsLate, IsShort, IsFound}

-- The numbers of the net's tree of stages, ..
pub numbers_of : {n : Net} → Accepted n → {driver wire : List ℕ} {limit : List ℤ} {costs : List ℕ} → Laid (tree_of n) driver wire limit costs
    → {s l : ℕ} {a : ℤ} → s ≡ stages n → l ≡ layer_count n → a ≡ n.driver.arrival → Numbers (tree_of n) driver wire limit costs s l a
numbers_of A L es el ea = record { laid = L; tree = well_formed A; stages-are = es; layers-are = el; arrival-is = ea; cheap = small-costs A }

-- .. and with a share the search's problem.
pub problem_of : {n : Net} → Accepted n → {driver wire : List ℕ} {limit : List ℤ} {costs : List ℕ} → Laid (tree_of n) driver wire limit costs
    → {s l : ℕ} {a : ℤ} {p q : ℕ} → s ≡ stages n → l ≡ layer_count n → a ≡ n.driver.arrival → p ≤ max_share → 1 ≤ q → q ≤ max_share
    → Problem (tree_of n) driver wire limit costs s l a p q
problem_of A L es el ea hp hq hq' = record { numbers = numbers_of A L es el ea; share = hp; some-part = hq; parts = hq' }

-- A plan of the net that was put at the front of a buffer opens it.
pub plan-opens : (n : Net) (plan : List ℕ) {s : ℕ} {x after : List ℕ} → s ≡ stages n → is_plan n x ≡ true → after ≡ x ++ drop s plan
    → (after ≡ x ++ drop (length x) plan) × (take (stages n) after ≡ x)
plan-opens n plan {s} {x} es p e =
    let len : length x ≡ stages n = plan-length n x p in
    (e ∙ ap (λ (i : ℕ). x ++ drop i plan) (es ∙ sym len), ap (take (stages n)) e ∙ take_at x (drop s plan) (stages n) len)

module _ {n : Net} (A : Accepted n) where
  -- No plan meets timing: refusal 11.
  pub none-meets : {table after : List ℤ} {plan planAfter : List ℕ} → IsLate (tree_of n) table after plan planAfter
      → ltb 0 (length (meeting_plans n)) ≡ false
  none-meets I = go (ltb 0 (length (meeting_plans n))) refl
    where
      go : (b : Bool) → ltb 0 (length (meeting_plans n)) ≡ b → ltb 0 (length (meeting_plans n)) ≡ false
      go true e = let (x, M) = some-meeting A e in absurd (I.none x M)
      go false e = e

  -- Some plan does.
  pub some_of : (x : List ℕ) → MeetingPlan (tree_of n) x → ltb 0 (length (meeting_plans n)) ≡ true
  some_of x M = let (p, m) = meeting-is A x M in (some-plan_iff n).1 (x, p, m)

  grain-value : (p q : ℕ) → value (tree_of n) (exponent (tree_of n) p q) ≡ least_rounded n (grain_exponent n p q)
  grain-value p q = ap (value (tree_of n)) (exponent_same A p q) ∙ value_same A (grain_exponent n p q)

  -- Too few columns: refusal 12.
  pub record TooShort (p q entries : ℕ) : Type 0 where
    pub some-meets : ltb 0 (length (meeting_plans n)) ≡ true
    pub few : leb (columns_needed n (grain_exponent n p q)) (columns n entries) ≡ false

  pub too_short : {p q s : ℕ} {table after : List ℤ} {plan planAfter : List ℕ} → s ≡ stages n → IsShort (tree_of n) p q s table after plan planAfter
      → TooShort p q (length table)
  unfolding columns_needed columns
  too_short {p} {q} {table = table} es I =
      let (x, M) = I.meeting in
      record {
        some-meets = some_of x M;
        few = lt-leb (least_rounded n (grain_exponent n p q) + 1) (length table / (stages n + 2)) (omega (arith, rw es at I.few, grain-value p q));
      }

  -- The plan that 01 chooses: acceptance.
  pub record Served (p q entries : ℕ) (k g v : ℕ) (plan planAfter : List ℕ) : Type 0 where
    pub some-meets : ltb 0 (length (meeting_plans n)) ≡ true
    pub enough : leb (columns_needed n (grain_exponent n p q)) (columns n entries) ≡ true
    pub exponent-is : k ≡ grain_exponent n p q
    pub grain-is : g ≡ 2 ^ k
    pub value-is : v ≡ least_rounded n k
    pub x : List ℕ
    pub chosen-here : chosen n (grain_exponent n p q) ≡ some x
    pub is-plan : is_plan n x ≡ true
    pub after_is : planAfter ≡ x ++ drop (length x) plan
    pub taken_is : take (stages n) planAfter ≡ x

  pub served : {p q s k g v : ℕ} {table after : List ℤ} {plan planAfter : List ℕ} → s ≡ stages n → IsFound (tree_of n) p q s table after plan planAfter k g v
      → Served p q (length table) k g v plan planAfter
  unfolding columns_needed columns
  served {p} {q} {s} {k} {g} {v} {table} {after} {plan} {planAfter} es I =
      let ek : k ≡ grain_exponent n p q = I.exponent-is ∙ exponent_same A p q in
      let ev : v ≡ least_rounded n k = I.value-is ∙ value_same A k in
      let o : chosen n (grain_exponent n p q) ≡ some I.chosen =
      sym (first-same A (grain_exponent n p q)) ∙ (ap (first_plan (tree_of n)) (sym ek) ∙ I.chosen_is) in
      let C = chosen_is n (grain_exponent n p q) I.chosen o in
      let (after_is, taken_is) = plan-opens n plan es C.is-plan I.plan-is in
      record {
        some-meets = (some-plan_iff n).1 (I.chosen, C.is-plan, C.meets_timing_lem);
        enough =
            le-leb (least_rounded n (grain_exponent n p q) + 1) (length table / (stages n + 2)) (omega (arith, rw es at I.fits, ev, ap (least_rounded n) ek));
        exponent-is = ek;
        grain-is = I.grain-is;
        value-is = ev;
        x = I.chosen;
        chosen-here = o;
        is-plan = C.is-plan;
        after_is = after_is;
        taken_is = taken_is;
      }

  -- The grain times V(k) is the floor at the grain's k, and is small.
  pub floor-is : {p q entries k g v : ℕ} {plan planAfter : List ℕ} → Served p q entries k g v plan planAfter → g * v ≡ floor n (grain_exponent n p q)
  unfolding floor
  floor-is S = rw (S.grain-is, S.value-is, S.exponent-is) refl

  pub floor-low : {p q entries k g v : ℕ} {plan planAfter : List ℕ} → Served p q entries k g v plan planAfter → g * v < 2 ^ max_exponent
  floor-low {p} {q} S = rw (floor-is S) (grain-small A (grain_exponent n p q))
