-- V(k), the grain and the plan that 01 chooses, for a tree of stages, as 01 defines them ('Rounded cost and the grain'); how near the chosen plan is to
-- the cheapest, how many columns it needs, and that a finer grain has no smaller V.
use Rattle.std.specs.Prelude.{◌≡◌, Bool, false, ◌&&◌, leb, eqb, length}
use Rattle.std.proofs.Common.{ap, ◌∙◌, arith, zero-add, suc-add, mul-le-mul_left, pow_pos}
use Rattle.std.proofs.Math.Bool.{true}
use Rattle.std.proofs.Math.Option.{Option, some}
use mathlib.Core.List.{List, head?, Memᴰ}
use Prim.Native.Nat.{ℕ, zero, suc, ◌+◌, ◌*◌, ◌-◌, ◌^◌, ◌≤◌, ◌<◌}
use Rattle.std.proofs.Math.Decide.{dec_le}
use Rattle.std.proofs.lemmas.List.{length-map}
use borrow.Author.Tests.{leb-true, leb-false, eqb-true, le-leb}
use Rattle.laws.specs.Basic.{from, sum, keep, lowest, largest}
use Rattle.laws.specs.Booleans.{and_left, and_right}
use Rattle.laws.specs.Lists.{length_from, mem-keep, keep-mem, head-keep}
use Rattle.laws.specs.Extremes.{lowest_le, lowest-some, largest-passes, largest-max, largest_le, largest-is}
use Rattle.rules.specs.Tree.{on}
use Rattle.rules.specs.Grain.{max_exponent, rounded}
use Rattle.oracle.specs.Rounding.{rounded-below, rounded-above, rounded-halved, rounded-doubled, rounded-small, divided_up, columns-within}
use Rattle.oracle.specs.Stages.{StageTree, tree_plans, plan_costs}
use Rattle.oracle.specs.Timing.{meets_timing}

module _ (T : StageTree) where
  -- A plan's rounded cost at the grain 2^k.
  abbrev pub plan_rounded : ℕ → List ℕ → ℕ
  plan_rounded k x = rounded (2 ^ k) (plan_costs T x)

  -- V(k): the least rounded cost of the plans that meet timing.
  abbrev pub value : ℕ → ℕ
  value k = lowest (plan_rounded k) (keep (meets_timing T) (tree_plans T))

  -- The test of k at share p/q.
  abbrev pub passes : ℕ → ℕ → ℕ → Bool
  passes p q k = leb (q * T.stages * (2 ^ k - 1)) (p * 2 ^ k * value k)

  -- The k of the grain 2^k: the largest that passes.
  unfoldable pub exponent : ℕ → ℕ → ℕ
  exponent p q = largest (passes p q) max_exponent

  -- A plan that meets timing with rounded cost V(k), and the first such in plan order.
  abbrev pub is_best : ℕ → List ℕ → Bool
  is_best k x = meets_timing T x && eqb (plan_rounded k x) (value k)

  abbrev pub first_plan : ℕ → Option (List ℕ)
  first_plan k = head? (keep (is_best k) (tree_plans T))

  -- x is a plan of the tree and meets timing.
  pub record MeetingPlan (x : List ℕ) : Type 0 where
    pub plan : Memᴰ x (tree_plans T)
    pub meets : meets_timing T x ≡ true

  pub value_le : (k : ℕ) (x : List ℕ) → MeetingPlan x → value k ≤ plan_rounded k x
  value_le k x M = lowest_le (plan_rounded k) (keep (meets_timing T) (tree_plans T)) (mem-keep (meets_timing T) (tree_plans T) M.plan M.meets)

  -- Where some plan meets timing, one that does has rounded cost V(k).
  pub value-at : (k : ℕ) (x : List ℕ) → MeetingPlan x → (z : List ℕ) × MeetingPlan z × (plan_rounded k z ≡ value k)
  value-at k x M =
      let (z, m, e) = lowest-some (plan_rounded k) (keep (meets_timing T) (tree_plans T)) (mem-keep (meets_timing T) (tree_plans T) M.plan M.meets) in
      let (a, b) = keep-mem (meets_timing T) (tree_plans T) m in
      (z, record { plan = a; meets = b }, e)

  pub first-meets : (k : ℕ) (x : List ℕ) → first_plan k ≡ some x → MeetingPlan x × (plan_rounded k x ≡ value k)
  first-meets k x e =
      let (m, b) = head-keep (is_best k) (tree_plans T) e in
      let t = and_right (meets_timing T x) (eqb (plan_rounded k x) (value k)) b in
      (record { plan = m; meets = and_left (meets_timing T x) (eqb (plan_rounded k x) (value k)) b }, eqb-true (plan_rounded k x) (value k) t)

  length-costs : (x : List ℕ) → length (plan_costs T x) ≡ T.stages
  length-costs x = length-map (from 0 T.stages) (λ i. T.cost i (on x i)) ∙ length_from 0 T.stages

  -- 2 V(k + 1) ≤ V(k) ≤ 2 V(k + 1) + s.
  pub value-halved : (k : ℕ) (x : List ℕ) → MeetingPlan x → 2 * value (suc k) ≤ value k
  value-halved k x M = let (z, N, e) = value-at k x M in omega (arith, value_le (suc k) z N, rounded-halved k (plan_costs T z))

  pub value-doubled : (k : ℕ) (x : List ℕ) → MeetingPlan x → value k ≤ 2 * value (suc k) + T.stages
  value-doubled k x M = let (z, N, e) = value-at (suc k) x M in omega (arith, value_le k z N, rounded-doubled k (plan_costs T z), length-costs z)

  coarser : (d k : ℕ) (x : List ℕ) → MeetingPlan x → value (d + k) ≤ value k
  coarser zero k x M = omega (arith, ap value (zero-add k))
  coarser (suc d) k x M = omega (arith, coarser d k x M, ap value (suc-add d k), value-halved (d + k) x M)

  -- A finer grain has no smaller V.
  pub value_mono : (j k : ℕ) → j ≤ k → (x : List ℕ) → MeetingPlan x → value k ≤ value j
  value_mono j k h x M = let e : k ≡ k - j + j = omega arith in omega (arith, coarser (k - j) j x M, ap value e)

  -- At the largest k every rounded cost is 0, if costs are small enough.
  pub value-zero : (x : List ℕ) → MeetingPlan x → sum (plan_costs T x) < 2 ^ max_exponent → value max_exponent ≡ 0
  value-zero x M small = omega (arith, value_le max_exponent x M, rounded-small (2 ^ max_exponent) (plan_costs T x) small)

  pub exponent-passes : (p q : ℕ) → q * T.stages * (2 ^ exponent p q - 1) ≤ p * 2 ^ exponent p q * value (exponent p q)
  unfolding exponent
  exponent-passes p q =
      let z : passes p q 0 ≡ true = le-leb (q * T.stages * (2 ^ 0 - 1)) (p * 2 ^ 0 * value 0) (omega arith) in
      let k = exponent p q in
      leb-true (q * T.stages * (2 ^ k - 1)) (p * 2 ^ k * value k) (largest-passes (passes p q) max_exponent z)

  -- The descent in k: the first k from the top down that passes is it, ..
  pub exponent-is : (p q k : ℕ) → k ≤ max_exponent → passes p q k ≡ true → ((j : ℕ) → k < j → j ≤ max_exponent → passes p q j ≡ false) → exponent p q ≡ k
  unfolding exponent
  exponent-is p q k = largest-is (passes p q) max_exponent k

  -- .. and while none has passed, V(k) is no more than it will be: a V(k) that does not fit the columns settles that the grain's does not.
  pub value-exponent : (p q k : ℕ) → ((j : ℕ) → k < j → j ≤ max_exponent → passes p q j ≡ false) → (x : List ℕ) → MeetingPlan x → value k ≤ value (exponent p q)
  unfolding exponent
  value-exponent p q k none x M = go (dec_le e k)
    where
      e : ℕ
      e = largest (passes p q) max_exponent

      go : Dec (e ≤ k) → value k ≤ value e
      go (yes h) = value_mono e k h x M
      go (no h) = absurd (omega (
        arith,
        exponent-passes p q,
        leb-false (q * T.stages * (2 ^ e - 1)) (p * 2 ^ e * value e) (none e (omega arith) (largest_le (passes p q) max_exponent)),
      ))

  -- 2^k V(k) is a floor: it is at most the cost of every plan that meets timing.
  pub floor-below : (k : ℕ) (x : List ℕ) → MeetingPlan x → 2 ^ k * value k ≤ sum (plan_costs T x)
  floor-below k x M = omega (arith, mul-le-mul_left (2 ^ k) (value_le k x M), rounded-below (2 ^ k) (plan_costs T x))

  -- A plan of rounded cost V(k) costs at most s × (2^k − 1) more, because rounding takes less than one grain off each stage.
  pub above_floor : (k : ℕ) (x : List ℕ) → plan_rounded k x ≡ value k → sum (plan_costs T x) ≤ 2 ^ k * value k + T.stages * (2 ^ k - 1)
  above_floor k x e = rw (e, length-costs x) at (rounded-above (2 ^ k) (pow_pos k) (plan_costs T x))

  -- A plan of rounded cost V(k), at the k of the grain, is near the floor (demand 3).
  pub near-floor : (p q : ℕ) (x : List ℕ) → plan_rounded (exponent p q) x ≡ value (exponent p q)
      → q * sum (plan_costs T x) ≤ (q + p) * (2 ^ exponent p q * value (exponent p q))
  near-floor p q x e =
      omega (arith, mul-le-mul_left q (above_floor (exponent p q) x e), exponent-passes p q)

  -- The columns needed, V(k) + 1, never exceed s plus 2qs/p rounded up.
  pub columns_bound : (p q : ℕ) → 0 < p → 0 < T.stages → (x : List ℕ) → MeetingPlan x → sum (plan_costs T x) < 2 ^ max_exponent
      → value (exponent p q) + 1 ≤ T.stages + divided_up (2 * q * T.stages) p
  unfolding exponent
  columns_bound p q pos s x M small = go (dec_le max_exponent k)
    where
      k : ℕ
      k = largest (passes p q) max_exponent

      go : Dec (max_exponent ≤ k) → value k + 1 ≤ T.stages + divided_up (2 * q * T.stages) p
      go (yes a) =
          let e : k ≡ max_exponent = omega (arith, largest_le (passes p q) max_exponent) in
          rw e (omega (arith, value-zero x M small))
      go (no a) = columns-within (2 ^ suc k) (value k) (value (suc k)) p q T.stages pos (value-doubled k x M)
          (leb-false (q * T.stages * (2 ^ suc k - 1)) (p * 2 ^ suc k * value (suc k)) (largest-max (passes p q) max_exponent (suc k) (omega arith) (omega arith)))
