-- Rounds over a net that was read: the outcome over its tree of stages, in the words of 02, wish 7.
use Rattle.std.specs.Prelude.{◌≡◌, true, false, ℕ, ◌+◌, ◌-◌, ◌*◌, ◌/◌, ◌^◌, ◌≤◌, ◌<◌, ltb, take, drop, ℤ}
use Rattle.std.proofs.Math.Path.{refl, ap, sym}
use Rattle.std.proofs.Common.{◌∙◌, arith}
use Rattle.std.proofs.Math.Option.{some}
use mathlib.Core.List.{List, ◌++◌}
use Rattle.std.proofs.Math.Nat.{div-eq_of_lt}
use Rattle.std.proofs.Math.ListN.{length}
use borrow.Author.Tests.{lt-ltb, le-ltb}
use Rattle.rules.specs.Tree.{Net, stages, is_plan}
use Rattle.rules.specs.Grain.{max_exponent, meeting_plans, least_rounded, floor, columns}
use Rattle.rules.specs.Rounds.{max_rounds, due_rounds, last_run, rounds_run, cheapest_seen, highest_floor}
use Rattle.facts.specs.Accepted.{Accepted}
use Rattle.oracle.specs.Value.{MeetingPlan, value_mono}
use Rattle.demands.specs.StageNumbers.{tree_of}
use Rattle.demands.specs.Same.{value_same}
use Rattle.demands.specs.Plans.{some-plan_iff, meeting}
use Rattle.demands.specs.Values.{grain-small}
use Rattle.demands.specs.RoundsCall.{run_is, highest-last, best-same}
use Rattle.demands.specs.Rounds.{length-due, best-meets}
use Rattle.planning.specs.Outcomes.{plan-opens, some_of}
use Rattle.rounds_search.specs.Clauses.{RoundsFound}
use Rattle.rounds_search.specs.Planned.{NoColumn, IsBest}

module _ {n : Net} (A : Accepted n) where
  -- Not one column: refusal 12.
  pub record Columnless (entries : ℕ) : Type 0 where
    pub some-meets : ltb 0 (length (meeting_plans n)) ≡ true
    pub no_column : ltb 0 (columns n entries) ≡ false

  pub columnless : {last s : ℕ} {table after : List ℤ} {plan planAfter : List ℕ} → s ≡ stages n → NoColumn (tree_of n) last s table after plan planAfter
      → Columnless (length table)
  unfolding columns
  columnless {table = table} es I =
      let (x, M) = I.meeting in
      let few : length table < stages n + 2 = rw es at I.few in
      record { some-meets = some_of A x M; no_column = le-ltb 0 (length table / (stages n + 2)) (omega (arith, div-eq_of_lt few)) }

  -- The cheapest plan of the rounds: acceptance.
  pub record BestServed (r entries : ℕ) (k g v : ℕ) (plan planAfter : List ℕ) : Type 0 where
    pub k-most : k ≤ max_exponent
    pub some-meets : ltb 0 (length (meeting_plans n)) ≡ true
    pub some-column : ltb 0 (columns n entries) ≡ true
    pub x : List ℕ
    pub cheapest-here : cheapest_seen n (rounds_run n r (columns n entries)) ≡ some x
    pub is-plan : is_plan n x ≡ true
    pub floor-is : g * v ≡ highest_floor n (rounds_run n r (columns n entries))
    pub floor-low : g * v < 2 ^ max_exponent
    pub rounds-are : max_rounds - k ≡ length (rounds_run n r (columns n entries))
    pub after_is : planAfter ≡ x ++ drop (length x) plan
    pub taken_is : take (stages n) planAfter ≡ x

  module _ {r s k g v : ℕ} {table after : List ℤ} {plan planAfter : List ℕ} (some_round : 1 ≤ r) (most : r ≤ max_rounds) (es : s ≡ stages n)
      (I : IsBest (tree_of n) (last_run r) s table after plan planAfter k g v) where
    abbrev lent : ℕ
    lent = columns n (length table)

    abbrev R : RoundsFound (tree_of n) (last_run r) (length table / (s + 2)) I.found k g v
    R = I.rounds

    best-here : cheapest_seen n (due_rounds (max_rounds - k)) ≡ some I.found
    best-here = sym (best-same A (due_rounds (max_rounds - k))) ∙ R.best-is

    found-meets : MeetingPlan (tree_of n) I.found
    found-meets = let (p, m) = best-meets n (due_rounds (max_rounds - k)) best-here in meeting A I.found p m

    lent-are : length table / (s + 2) ≡ lent
    unfolding columns
    lent-are = ap (λ (i : ℕ). length table / (i + 2)) es

    back : last_run (max_rounds - k) ≡ k
    unfolding last_run
    back = omega (arith, R.most)

    -- The k's run are those from 28 down to k.
    run-here : rounds_run n r lent ≡ due_rounds (max_rounds - k)
    unfolding last_run
    run-here =
        run_is n r lent (max_rounds - k) (omega (arith, R.due))
        (λ j a b. omega (arith, value_mono (tree_of n) k j (omega (arith, back)) I.found found-meets, value_same A j, R.value-is, R.fits, lent-are))
        (λ h.
        let next : last_run (max_rounds - k + 1) ≡ k - 1 = omega (arith, R.most) in
        omega (arith, ap (least_rounded n) next, value_same A (k - 1), R.ended (omega arith), lent-are))

    floor-here : g * v ≡ highest_floor n (due_rounds (max_rounds - k))
    unfolding floor
    floor-here =
        let f : floor n k ≡ 2 ^ k * least_rounded n k = refl in
        rw (R.grain-is, R.value-is, value_same A k) (sym (highest-last A (max_rounds - k) (omega (arith, R.most)) (omega arith) ∙ (ap (floor n) back ∙ f)))

    pub best-served : BestServed r (length table) k g v plan planAfter
    unfolding floor
    best-served =
        let (p, m) = best-meets n (due_rounds (max_rounds - k)) best-here in
        let (after_is, taken_is) = plan-opens n plan es p I.plan-is in
        record {
          k-most = R.most;
          some-meets = (some-plan_iff n).1 (I.found, p, m);
          some-column = lt-ltb 0 lent (omega (arith, R.fits, lent-are));
          x = I.found;
          cheapest-here = ap (cheapest_seen n) run-here ∙ best-here;
          is-plan = p;
          floor-is = floor-here ∙ ap (highest_floor n) (sym run-here);
          floor-low = rw (R.grain-is, R.value-is, value_same A k) (grain-small A k);
          rounds-are = sym (ap (λ (ks : List ℕ). length ks) run-here ∙ length-due (max_rounds - k));
          after_is = after_is;
          taken_is = taken_is;
        }
