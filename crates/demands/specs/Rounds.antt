-- Planning by rounds (02, wish 7): what its definition is good for, in the words of the call. The plan meets timing, no plan that does costs less than the
-- floor, and cost and floor are as near as the last k run makes them; more rounds make neither worse, and after all 29 the two are the same.
use Rattle.std.specs.Prelude.{◌≡◌, refl, Bool, true, false, leb, ltb, take, drop, ℤ}
use Rattle.std.proofs.Math.Path.{ap, sym, subst}
use Rattle.std.proofs.Common.{◌∙◌, le-div_iff_mul-le, length-append, pow_pos, pow-add}
use Rattle.std.proofs.Math.Option.{some}
use mathlib.Core.List.{List, ◌++◌, map, Memᴰ}
use Prim.Native.Nat.{ℕ, ◌+◌, ◌*◌, ◌-◌, ◌/◌, ◌^◌, ◌≤◌, ◌<◌}
use native.Mathlib.Omega.{arith}
use Rattle.std.proofs.Math.Decide.{dec_le}
use Rattle.std.proofs.Math.Nat.{lt_of_mul-lt-mul_left}
use Rattle.std.proofs.Math.ListN.{length, get_or}
use Rattle.std.proofs.lemmas.List.{length-map}
use Rattle.std.proofs.Math.Seq.{take_at}
use borrow.Author.Tests.{le-leb, leb-false, lt-ltb, ltb-true}
use Rattle.laws.specs.Basic.{from, leading, within}
use Rattle.laws.specs.Booleans.{within-true}
use Rattle.laws.specs.Lists.{length_from, map_at, mem-map, map-mem}
use Rattle.laws.specs.Front.{mem-somes, somes-mem, leading-more, leading-take, leading-ended, highest-more}
use Rattle.laws.specs.Front.{first-lowest-mem, first-lowest_le, first-lowest-some}
use Rattle.rules.specs.Tree.{Net, stages, is_plan}
use Rattle.rules.specs.Timing.{meets, cost}
use Rattle.rules.specs.Grain.{max_exponent, meeting_plans, least_rounded, floor, chosen, columns, columns_needed}
use Rattle.rules.specs.Reading.{Answer, accept, refuse, read}
use Rattle.rules.specs.Planning.{cleared, Plannable}
use Rattle.rules.specs.Rounds.{max_rounds, due_rounds, last_run, rounds_run, seen_plans, cheapest_seen, highest_floor, planned_rounds}
use Rattle.rules.specs.Rounds.{RoundsAnswer, plan_rounds, rounds_answer, BestSeen, RoundsPromise}
use Rattle.facts.specs.Accepted.{Accepted, accepted}
use Rattle.oracle.specs.Value.{first-meets, above_floor}
use Rattle.oracle.specs.Rounds.{mem-due}
use Rattle.demands.specs.StageNumbers.{tree_of}
use Rattle.demands.specs.Same.{cost-same, value_same, first-same}
use Rattle.demands.specs.Plans.{plan-length, some-plan_iff}
use Rattle.demands.specs.Values.{finer_floor, least_top, grain-below, grain-small}
use Rattle.demands.specs.Columns.{columns-lent}
use Rattle.demands.specs.Demand2.{chosen-some, chosen_is}
use Rattle.demands.specs.RoundsCall.{rounds_in, rounds-numbered, rounds-unread, rounds_14, rounds_10, rounds_11, rounds_12, rounds_pass}
use Rattle.demands.specs.RoundsCall.{rounds_answer_for, rounds-accepted, rounds-refused, due-parts, run_is, highest-last}

pub length-due : (m : ℕ) → length (due_rounds m) ≡ m
unfolding due_rounds
length-due m = length-map (from 0 m) (λ i. max_exponent - i) ∙ length_from 0 m

-- The columns needed at k are lent.
abbrev fits : Net → ℕ → ℕ → Bool
fits n lent k = leb (columns_needed n k) lent

-- The k's run, with so many columns lent.
module _ (n : Net) (r lent : ℕ) where
  -- They are those of so many rounds, r at most, ..
  run-due : (length (rounds_run n r lent) ≤ r) × (rounds_run n r lent ≡ due_rounds (length (rounds_run n r lent)))
  unfolding rounds_run
  run-due =
      let (front-most, front) = leading-take (fits n lent) (due_rounds r) in
      let m : ℕ = length (rounds_run n r lent) in
      let most : m ≤ length (due_rounds r) = front-most in
      let h : m ≤ r = omega (arith, most, length-due r) in
      (h, front ∙ (ap (take m) (due-parts m r h) ∙ take_at (due_rounds m) (map (λ i. max_exponent - i) (from m (r - m))) m (length-due m)))

  -- .. and if there are fewer, the next k needs more columns than lent.
  run-ended : length (rounds_run n r lent) < r → lent < columns_needed n (last_run (length (rounds_run n r lent) + 1))
  unfolding rounds_run due_rounds last_run
  run-ended h =
      let m : ℕ = length (rounds_run n r lent) in
      let next : get_or (due_rounds r) m 0 ≡ last_run (m + 1) = map_at (λ i. max_exponent - i) 0 0 r m h ∙ omega arith in
      let inside : m < length (due_rounds r) = omega (arith, length-due r) in
      let fails = leading-ended (fits n lent) 0 (due_rounds r) inside in
      leb-false (columns_needed n (last_run (m + 1))) lent (ap (fits n lent) (sym next) ∙ fails)

  -- At k = 28 one column is enough, so that a round is run.
  run-some : Accepted n → 1 ≤ r → 0 < lent → 1 ≤ length (rounds_run n r lent)
  unfolding columns_needed last_run
  run-some A one column = go (dec_le 1 (length (rounds_run n r lent)))
    where
      go : Dec (1 ≤ length (rounds_run n r lent)) → 1 ≤ length (rounds_run n r lent)
      go (yes a) = a
      go (no a) =
          let top : last_run (length (rounds_run n r lent) + 1) ≡ max_exponent = omega arith in
          absurd (omega (arith, run-ended (omega arith), ap (least_rounded n) top, least_top A))

  -- The last k run is one of them.
  run-last : Accepted n → 1 ≤ r → 0 < lent → Memᴰ (last_run (length (rounds_run n r lent))) (rounds_run n r lent)
  unfolding last_run
  run-last A one column =
      let m : ℕ = length (rounds_run n r lent) in
      let some_round = run-some A one column in
      subst (λ (ks : List ℕ). Memᴰ (last_run m) ks) (sym run-due.1) (mem-due m (last_run m) (omega arith) (omega arith))

-- With a larger r they go on from those of a smaller.
run_more : (n : Net) (r r' lent : ℕ) → r ≤ r' → (ks : List ℕ) × (rounds_run n r' lent ≡ rounds_run n r lent ++ ks)
unfolding rounds_run
run_more n r r' lent h =
    let (ks, e) = leading-more (fits n lent) (due_rounds r) (map (λ i. max_exponent - i) (from r (r' - r))) in
    (ks, ap (leading (fits n lent)) (due-parts r r' h) ∙ e)

-- The plans seen are those chosen at the k's run.
module _ (n : Net) (ks : List ℕ) where
  chosen-seen : {k : ℕ} {x : List ℕ} → Memᴰ k ks → chosen n k ≡ some x → Memᴰ x (seen_plans n ks)
  unfolding seen_plans
  chosen-seen m e = mem-somes (map (chosen n) ks) (rw e at (mem-map (chosen n) m))

  seen-chosen : {x : List ℕ} → Memᴰ x (seen_plans n ks) → (k : ℕ) × Memᴰ k ks × (chosen n k ≡ some x)
  unfolding seen_plans
  seen-chosen m = let (k, d, e) = map-mem (chosen n) ks (somes-mem (map (chosen n) ks) m) in (k, d, sym e)

  -- The cheapest of them ..
  module _ {x : List ℕ} (e : cheapest_seen n ks ≡ some x) where
    best-seen-at : Memᴰ x (seen_plans n ks)
    unfolding cheapest_seen
    best-seen-at = first-lowest-mem (cost n) (seen_plans n ks) e

    -- .. is a plan of the net that meets timing, ..
    pub best-meets : (is_plan n x ≡ true) × (meets n x ≡ true)
    best-meets =
        let (k, m, c) = seen-chosen best-seen-at in
        let C = chosen_is n k x c in
        (C.is-plan, C.meets_timing_lem)

    -- .. and costs no more than any.
    best-least : {z : List ℕ} → Memᴰ z (seen_plans n ks) → cost n x ≤ cost n z
    unfolding cheapest_seen
    best-least m = first-lowest_le (cost n) (seen_plans n ks) e m

-- The plan chosen at k costs at most s × (2^k − 1) more than the floor at k, because rounding takes less than one grain off each stage.
chosen-near : {n : Net} → Accepted n → (k : ℕ) (z : List ℕ) → chosen n k ≡ some z → cost n z ≤ floor n k + stages n * (2 ^ k - 1)
unfolding floor
chosen-near {n} A k z e =
    let (M, least) = first-meets (tree_of n) k z (first-same A k ∙ e) in
    rw (← cost-same A z, ← value_same A k) (above_floor (tree_of n) k z least)

-- 2^(r − 1) columns are enough for each k of r rounds, because 2^k × V(k) is below 2^28.
few-columns : {n : Net} → Accepted n → (r : ℕ) → 1 ≤ r → r ≤ max_rounds → (k : ℕ) → last_run r ≤ k → least_rounded n k < 2 ^ (r - 1)
unfolding last_run
few-columns {n} A r one top k due =
    let e : max_exponent ≡ last_run r + (r - 1) = omega arith in
    let parts : 2 ^ max_exponent ≡ 2 ^ last_run r * 2 ^ (r - 1) = ap (λ (i : ℕ). 2 ^ i) e ∙ pow-add 2 (last_run r) (r - 1) in
    let less : 2 ^ last_run r * least_rounded n k < 2 ^ max_exponent = omega (arith, finer_floor n due, grain-small A k) in
    lt_of_mul-lt-mul_left (2 ^ last_run r) (rw parts at less)

-- The answer for a plan.
abbrev answer_with : Net → ℕ → List ℤ → List ℕ → List ℕ → RoundsAnswer
answer_with n r table buffer x =
    rounds_answer (rounds_answer_for (record { net = n; run = rounds_run n r (columns n (length table)); plan = x })) (x ++ drop (length x) buffer) (cleared table)

-- What a call has settled that is accepted, for the net n that was read.
record Served (bs : List ℕ) (r : ℕ) (table : List ℤ) (buffer : List ℕ) (n : Net) : Type 0 where
  in_range : (1 ≤ r) × (r ≤ max_rounds)
  some-lent : 0 < columns n (length table)
  plan : List ℕ
  cheapest-is : cheapest_seen n (rounds_run n r (columns n (length table))) ≡ some plan
  answer-is : plan_rounds bs r table buffer ≡ answer_with n r table buffer plan

-- How a call for a net that was read ends: with a refusal, which is 11 only where no plan meets timing, or served.
data Outcome (bs : List ℕ) (r : ℕ) (table : List ℤ) (buffer : List ℕ) (n : Net) : Type 0 where
  stopped : (m : ℕ) → planned_rounds bs r (length table) (length buffer) ≡ refuse m → (m ≡ 11 → ltb 0 (length (meeting_plans n)) ≡ false)
      → Outcome bs r table buffer n
  through : Served bs r table buffer n → Outcome bs r table buffer n

module _ (bs : List ℕ) (r : ℕ) (table : List ℤ) (buffer : List ℕ) where
  refusal_is : {m : ℕ} → planned_rounds bs r (length table) (length buffer) ≡ refuse m → (plan_rounds bs r table buffer).refusal ≡ m
  refusal_is e = ap (λ (a : RoundsAnswer). a.refusal) (rounds-refused bs r table buffer e)

  module _ {n : Net} (h : read bs ≡ accept n) where
    -- Where all tests pass a round is run, so a plan is seen, and the call is served.
    served : within 1 max_rounds r ≡ true → leb (stages n) (length buffer) ≡ true → ltb 0 (length (meeting_plans n)) ≡ true
        → ltb 0 (columns n (length table)) ≡ true → Served bs r table buffer n
    unfolding cheapest_seen
    served t14 t10 t11 t12 =
        let lent : ℕ = columns n (length table) in
        let range = within-true 1 max_rounds r t14 in
        let column = ltb-true 0 lent t12 in
        let (z, c) = chosen-some n (last_run (length (rounds_run n r lent))) t11 in
        let seen = chosen-seen n (rounds_run n r lent) (run-last n r lent (accepted bs n h) range.0 column) c in
        let (x, o) = first-lowest-some (cost n) (seen_plans n (rounds_run n r lent)) seen in
        record {
          in_range = range;
          some-lent = column;
          plan = x;
          cheapest-is = o;
          answer-is = rounds-accepted bs r table buffer (rounds_pass bs r (length table) (length buffer) h t14 t10 t11 t12 o);
        }

    outcome : Outcome bs r table buffer n
    outcome =
        go (within 1 max_rounds r) (leb (stages n) (length buffer)) (ltb 0 (length (meeting_plans n))) (ltb 0 (columns n (length table))) refl refl refl refl
      where
        go : (a b c d : Bool) → within 1 max_rounds r ≡ a → leb (stages n) (length buffer) ≡ b → ltb 0 (length (meeting_plans n)) ≡ c
            → ltb 0 (columns n (length table)) ≡ d → Outcome bs r table buffer n
        go false b c d t14 t10 t11 t12 = stopped 14 (rounds_14 bs r (length table) (length buffer) h t14) (λ z. absurd (omega arith))
        go true false c d t14 t10 t11 t12 = stopped 10 (rounds_10 bs r (length table) (length buffer) h t14 t10) (λ z. absurd (omega arith))
        go true true false d t14 t10 t11 t12 = stopped 11 (rounds_11 bs r (length table) (length buffer) h t14 t10 t11) (λ z. t11)
        go true true true false t14 t10 t11 t12 =
            stopped 12 (rounds_12 bs r (length table) (length buffer) h t14 t10 t11 t12) (λ z. absurd (omega arith))
        go true true true true t14 t10 t11 t12 = through (served t14 t10 t11 t12)

    -- An answer that is no refusal was served, ..
    answered : (plan_rounds bs r table buffer).refusal ≡ 0 → Served bs r table buffer n
    answered z = go outcome
      where
        go : Outcome bs r table buffer n → Served bs r table buffer n
        go (stopped m e late) = absurd (omega (arith, z, refusal_is e, (rounds-numbered bs r (length table) (length buffer)).some m e))
        go (through S) = S

    -- .. and 11 is not answered where a plan meets timing.
    not-all-late : (plan_rounds bs r table buffer).refusal ≡ 11 → Plannable n → ⊥
    not-all-late z some-plan = go outcome
      where
        go : Outcome bs r table buffer n → ⊥
        go (stopped m e late) =
            let t = (some-plan_iff n).1 some-plan in
            let f = late (sym (refusal_is e) ∙ z) in
            let z : ◌≡◌ {A = ℕ} 0 1 = cc in omega arith
        go (through S) = omega (arith, z, ap (λ (a : RoundsAnswer). a.refusal) S.answer-is)

    -- It is answered where none does, with r in its range and the plan buffer in order.
    late-answered : 1 ≤ r → r ≤ max_rounds → stages n ≤ length buffer → (Plannable n → ⊥) → (plan_rounds bs r table buffer).refusal ≡ 11
    late-answered one top room none-meets =
        let t11 = go (ltb 0 (length (meeting_plans n))) refl in
        refusal_is (rounds_11 bs r (length table) (length buffer) h (rounds_in one top) (le-leb (stages n) (length buffer) room) t11)
      where
        go : (b : Bool) → ltb 0 (length (meeting_plans n)) ≡ b → ltb 0 (length (meeting_plans n)) ≡ false
        go true e = absurd (none-meets ((some-plan_iff n).0 e))
        go false e = e

    -- What holds of an answer that was served.
    best-seen : Served bs r table buffer n → BestSeen n r (length table) (plan_rounds bs r table buffer)
    best-seen S =
        rw S.answer-is (record {
          is-plan = rw front plan-is;
          meets_timing_lem = rw front in_time;
          costs = ap (cost n) front;
          below = low;
          below-cost = low S.plan plan-is in_time;
          near = omega (arith, floor-is, close);
          some_round = some_round;
          most-rounds = most;
          ended = run-ended n r lent;
        })
      where
        A : Accepted n
        A = accepted bs n h

        lent : ℕ
        lent = columns n (length table)

        m : ℕ
        m = length (rounds_run n r lent)

        plan-is : is_plan n S.plan ≡ true
        plan-is = (best-meets n (rounds_run n r lent) S.cheapest-is).0

        in_time : meets n S.plan ≡ true
        in_time = (best-meets n (rounds_run n r lent) S.cheapest-is).1

        front : take (stages n) (S.plan ++ drop (length S.plan) buffer) ≡ S.plan
        front = take_at S.plan (drop (length S.plan) buffer) (stages n) (plan-length n S.plan plan-is)

        some_round : 1 ≤ m
        some_round = run-some n r lent A S.in_range.0 S.some-lent

        most : m ≤ r
        most = (run-due n r lent).0

        floor-is : highest_floor n (rounds_run n r lent) ≡ floor n (last_run m)
        floor-is = ap (highest_floor n) (run-due n r lent).1 ∙ highest-last A m some_round (omega (arith, most, S.in_range.1))

        low : (y : List ℕ) → is_plan n y ≡ true → meets n y ≡ true → highest_floor n (rounds_run n r lent) ≤ cost n y
        low y p t = omega (arith, floor-is, grain-below A (last_run m) y p t)

        close : cost n S.plan ≤ floor n (last_run m) + stages n * (2 ^ last_run m - 1)
        close =
            let (z, c) = chosen-some n (last_run m) ((some-plan_iff n).1 (S.plan, plan-is, in_time)) in
            let seen = chosen-seen n (rounds_run n r lent) (run-last n r lent A S.in_range.0 S.some-lent) c in
            omega (arith, best-least n (rounds_run n r lent) S.cheapest-is seen, chosen-near A (last_run m) z c)

    -- With so many columns that each V(k) due is below their count, all r rounds are run.
    all_fit : 1 ≤ r → r ≤ max_rounds → stages n ≤ length buffer → Plannable n → (lent : ℕ) → lent * (stages n + 2) ≤ length table
        → ((k : ℕ) → last_run r ≤ k → least_rounded n k < lent) → ((plan_rounds bs r table buffer).refusal ≡ 0) × ((plan_rounds bs r table buffer).rounds ≡ r)
    unfolding last_run
    all_fit one top room some-plan lent enough fit =
        let have : lent ≤ columns n (length table) = columns-lent n enough in
        let column : 0 < columns n (length table) = omega (arith, have, fit max_exponent (omega arith)) in
        let t12 = lt-ltb 0 (columns n (length table)) column in
        let S = served (rounds_in one top) (le-leb (stages n) (length buffer) room) ((some-plan_iff n).1 some-plan) t12 in
        let run = run_is n r (columns n (length table)) r (omega arith) (λ k a b. omega (arith, have, fit k a)) (λ less. absurd (omega arith)) in (
          ap (λ (a : RoundsAnswer). a.refusal) S.answer-is,
          ap (λ (a : RoundsAnswer). a.rounds) S.answer-is ∙ (ap length run ∙ length-due r),
        )

-- What every answer of planning by rounds promises, whatever is handed in.
pub rounds_promise : (bs : List ℕ) (r : ℕ) (table : List ℤ) (buffer : List ℕ) → RoundsPromise bs r table buffer (plan_rounds bs r table buffer)
rounds_promise bs r table buffer = record {
  late-only = λ n h. not-all-late bs r table buffer h;
  late = λ n h. late-answered bs r table buffer h;
  best = λ n h z. best-seen bs r table buffer h (answered bs r table buffer h z);
  all-run = λ n h one top room enough some-plan.
      all_fit bs r table buffer h one top room some-plan (2 ^ (r - 1)) enough (few-columns (accepted bs n h) r one top);
}

-- What answer b, of a call with a larger r, has beside answer a of the same call with a smaller: the same refusal, no dearer plan, no lower floor and no
-- fewer rounds.
pub record MoreRounds (a b : RoundsAnswer) : Type 0 where
  pub same-refusal : a.refusal ≡ b.refusal
  pub no_dearer : b.cost ≤ a.cost
  pub no_lower : a.floor ≤ b.floor
  pub no_fewer : a.rounds ≤ b.rounds

-- The k's run with the smaller r are run with the larger too: no plan seen and no floor is lost.
served-better : {bs : List ℕ} {r r' : ℕ} {table : List ℤ} {buffer : List ℕ} {n : Net} → r ≤ r' → Served bs r table buffer n → Served bs r' table buffer n
    → MoreRounds (plan_rounds bs r table buffer) (plan_rounds bs r' table buffer)
unfolding highest_floor
served-better {r = r} {r' = r'} {table = table} {n = n} longer S T =
    let lent : ℕ = columns n (length table) in
    let (ks, e) = run_more n r r' lent longer in
    let (k, m, c) = seen-chosen n (rounds_run n r lent) (best-seen-at n (rounds_run n r lent) S.cheapest-is) in
    let m' : Memᴰ k (rounds_run n r' lent) = rw e (mathlib.Core.List.Memᴰ.append_left ks m) in
    rw (S.answer-is, T.answer-is) (record {
      same-refusal = refl;
      no_dearer = best-least n (rounds_run n r' lent) T.cheapest-is (chosen-seen n (rounds_run n r' lent) m' c);
      no_lower = rw e (highest-more (floor n) (rounds_run n r lent) ks);
      no_fewer = rw e (omega (arith, length-append (rounds_run n r lent) ks));
    })

-- Of two calls that differ in r alone, both from 1 to 29, both are refused with the same number or neither is; and the one with the larger r has no dearer
-- plan, no lower floor and no fewer rounds.
pub more-rounds : (bs : List ℕ) (r r' : ℕ) (table : List ℤ) (buffer : List ℕ) → 1 ≤ r → r ≤ r' → r' ≤ max_rounds
    → MoreRounds (plan_rounds bs r table buffer) (plan_rounds bs r' table buffer)
more-rounds bs r r' table buffer one longer top = start (read bs) refl
  where
    entries : ℕ
    entries = length table

    room : ℕ
    room = length buffer

    t14 : within 1 max_rounds r ≡ true
    t14 = rounds_in one (omega arith)

    t14' : within 1 max_rounds r' ≡ true
    t14' = rounds_in (omega arith) top

    alike : {m : ℕ} → planned_rounds bs r entries room ≡ refuse m → planned_rounds bs r' entries room ≡ refuse m
        → MoreRounds (plan_rounds bs r table buffer) (plan_rounds bs r' table buffer)
    alike e e' =
        rw (rounds-refused bs r table buffer e, rounds-refused bs r' table buffer e')
        (record { same-refusal = refl; no_dearer = omega arith; no_lower = omega arith; no_fewer = omega arith })

    start : (a : Answer Net) → read bs ≡ a → MoreRounds (plan_rounds bs r table buffer) (plan_rounds bs r' table buffer)
    start (refuse m) h = alike (rounds-unread bs r entries room h) (rounds-unread bs r' entries room h)
    start (accept n) h = go (leb (stages n) room) (ltb 0 (length (meeting_plans n))) (ltb 0 (columns n entries)) refl refl refl
      where
        go : (b c d : Bool) → leb (stages n) room ≡ b → ltb 0 (length (meeting_plans n)) ≡ c → ltb 0 (columns n entries) ≡ d
            → MoreRounds (plan_rounds bs r table buffer) (plan_rounds bs r' table buffer)
        go false c d t10 t11 t12 = alike (rounds_10 bs r entries room h t14 t10) (rounds_10 bs r' entries room h t14' t10)
        go true false d t10 t11 t12 = alike (rounds_11 bs r entries room h t14 t10 t11) (rounds_11 bs r' entries room h t14' t10 t11)
        go true true false t10 t11 t12 = alike (rounds_12 bs r entries room h t14 t10 t11 t12) (rounds_12 bs r' entries room h t14' t10 t11 t12)
        go true true true t10 t11 t12 = served-better longer (served bs r table buffer h t14 t10 t11 t12) (served bs r' table buffer h t14' t10 t11 t12)

-- After 29 rounds the floor is the cost, so that no plan that meets timing costs less: the plan is the cheapest.
pub all-rounds-exact : (bs : List ℕ) (r : ℕ) (table : List ℤ) (buffer : List ℕ) → (plan_rounds bs r table buffer).rounds ≡ max_rounds
    → (plan_rounds bs r table buffer).floor ≡ (plan_rounds bs r table buffer).cost
unfolding last_run
all-rounds-exact bs r table buffer all-run = start (read bs) refl
  where
    none-refused : {m : ℕ} → planned_rounds bs r (length table) (length buffer) ≡ refuse m → ⊥
    none-refused e = omega (arith, all-run, ap (λ (a : RoundsAnswer). a.rounds) (rounds-refused bs r table buffer e))

    start : (a : Answer Net) → read bs ≡ a → (plan_rounds bs r table buffer).floor ≡ (plan_rounds bs r table buffer).cost
    start (refuse m) h = absurd (none-refused (rounds-unread bs r (length table) (length buffer) h))
    start (accept n) h = go (outcome bs r table buffer h)
      where
        go : Outcome bs r table buffer n → (plan_rounds bs r table buffer).floor ≡ (plan_rounds bs r table buffer).cost
        go (stopped m e late) = absurd (none-refused e)
        go (through S) =
            let B = best-seen bs r table buffer h S in
            let near : (plan_rounds bs r table buffer).cost - (plan_rounds bs r table buffer).floor ≤ stages n * (2 ^ 0 - 1) = rw all-run at B.near in
            omega (arith, near, B.below-cost)

-- A table by the cost of any plan y that meets timing: with cost / 2^(29 − r) + 1 columns all r rounds are run.
pub rounds-by-cost : (bs : List ℕ) (r : ℕ) (table : List ℤ) (buffer : List ℕ) (n : Net) → read bs ≡ accept n → 1 ≤ r → r ≤ max_rounds → stages n ≤ length buffer
    → (y : List ℕ) → is_plan n y ≡ true → meets n y ≡ true → (cost n y / 2 ^ last_run r + 1) * (stages n + 2) ≤ length table
    → ((plan_rounds bs r table buffer).refusal ≡ 0) × ((plan_rounds bs r table buffer).rounds ≡ r)
rounds-by-cost bs r table buffer n h one top room y plan in_time enough =
    all_fit bs r table buffer h one top room (y, plan, in_time) (cost n y / 2 ^ last_run r + 1) enough fit
  where
    fit : (k : ℕ) → last_run r ≤ k → least_rounded n k < cost n y / 2 ^ last_run r + 1
    fit k due =
        let less : least_rounded n k * 2 ^ last_run r ≤ cost n y =
        omega (arith, finer_floor n due, grain-below (accepted bs n h) k y plan in_time) in
        omega (arith, (le-div_iff_mul-le {k = 2 ^ last_run r} (pow_pos (last_run r))).1 less)
