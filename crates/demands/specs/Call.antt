-- From the definition of planning's answer to demand 3 in the words of the call: what an answer says that equals the definition.
use Rattle.std.specs.Prelude.{◌≡◌, Bool, true, false, ◌&&◌, List, ◌++◌, ℕ, ◌+◌, ◌*◌, ◌≤◌, ◌<◌, leb, ltb, eqb, length, take, drop, ℤ, pos, if◌then◌else◌}
use Rattle.std.proofs.Math.Path.{refl}
use Rattle.std.proofs.Common.{ap, sym, ◌∙◌, subst, arith, take_at, le-leb, leb-true, leb-false}
use Rattle.std.proofs.Math.Option.{Option, none, some}
use Rattle.laws.specs.Basic.{within}
use Rattle.laws.specs.Booleans.{and_left, and_right}
use Rattle.rules.specs.declared.Planned.{Planned}
use Rattle.rules.specs.Tree.{Net, stages, is_plan}
use Rattle.rules.specs.Timing.{slack, meets, cost}
use Rattle.rules.specs.Grain.{meeting_plans, floor, grain_exponent, chosen, columns, columns_needed}
use Rattle.rules.specs.Reading.{Answer, accept, refuse, ◌>>=◌, ◌>>◌, ◌unless◌, read}
use Rattle.rules.specs.Planning.{max_share, Choice, taken, planned, PlanAnswer, cleared, plan, plan_answer, enough_columns, Plannable, Demand2, Demand3}
use Rattle.facts.specs.Answers.{not-refused, accept_injective, refuse_injective, then_accepted, unless_accepted}
use Rattle.facts.specs.Accepted.{accepted}
use Rattle.facts.specs.Refusals.{Numbered, accept-numbered, refuse-numbered, then_numbered, unless_numbered, wider-numbered, read-numbered}
use Rattle.demands.specs.Plans.{plan-length, some-plan_iff}
use Rattle.demands.specs.Demand2.{chosen-some, chosen_is}
use Rattle.demands.specs.Demand3.{near-cheapest}
use Rattle.demands.specs.Columns.{columns-enough}

pub taken-numbered : (o : Option (List ℕ)) → Numbered 12 (taken o)
taken-numbered none = refuse-numbered 12 11 (omega arith) (omega arith)
taken-numbered (some x) = accept-numbered 12 x

-- A share in its range passes the test of refusal 9.
pub share_in : (p q : ℕ) → p ≤ max_share → 1 ≤ q → q ≤ max_share → leb p max_share && within 1 max_share q ≡ true
share_in p q p-in q-some q-in = rw (le-leb p 1000 p-in, le-leb 1 q q-some, le-leb q 1000 q-in) refl

-- And only such a share passes it.
pub share_out : (p q : ℕ) → leb p max_share && within 1 max_share q ≡ true → (p ≤ max_share) × (1 ≤ q) × (q ≤ max_share)
share_out p q e =
    let w = and_right (leb p max_share) (within 1 max_share q) e in (
      leb-true p max_share (and_left (leb p max_share) (within 1 max_share q) e),
      leb-true 1 q (and_left (leb 1 q) (leb q max_share) w),
      leb-true q max_share (and_right (leb 1 q) (leb q max_share) w),
    )

taken_is : (o : Option (List ℕ)) {x : List ℕ} → taken o ≡ accept x → o ≡ some x
taken_is none e = not-refused e
taken_is (some y) e = ap some (accept_injective e)

module _ (bs : List ℕ) (p q entries room : ℕ) where
  -- Planning refuses with a number from 1 to 12, never with 0.
  pub planned-numbered : Numbered 12 (planned bs p q entries room)
  unfolding planned
  planned-numbered =
      then_numbered (read bs) _ (wider-numbered 12 (omega arith) (read-numbered bs)) (λ n.
      unless_numbered 9 (leb p max_share && within 1 max_share q) _ (omega arith) (omega arith)
      (unless_numbered 10 (leb (stages n) room) _ (omega arith) (omega arith)
      (unless_numbered 11 (ltb 0 (length (meeting_plans n))) _ (omega arith) (omega arith)
      (unless_numbered 12 (leb (columns_needed n (grain_exponent n p q)) (columns n entries)) _ (omega arith) (omega arith)
      (then_numbered (taken (chosen n (grain_exponent n p q))) _ (taken-numbered (chosen n (grain_exponent n p q))) (λ x. accept-numbered 12 _))))))

  -- A net that cannot be read is refused with the number of its first fault.
  pub unread-refused : {r : ℕ} → read bs ≡ refuse r → planned bs p q entries room ≡ refuse r
  unfolding planned
  unread-refused e = rw (e, planned) refl

  -- What an accepted call settles.
  pub record Settled (c : Choice) : Type 0 where
    pub holds : read bs ≡ accept c.net
    pub share-is : leb p max_share && within 1 max_share q ≡ true
    pub exponent-is : c.k ≡ grain_exponent c.net p q
    pub chosen-here : chosen c.net (grain_exponent c.net p q) ≡ some c.plan

  pub choice-settled : {c : Choice} → planned bs p q entries room ≡ accept c → Settled c
  unfolding planned
  choice-settled {c} e =
      let (n, a, e1) = then_accepted (read bs) _ e in
      let (t9, e2) = unless_accepted 9 (leb p max_share && within 1 max_share q) _ e1 in
      let (t10, e3) = unless_accepted 10 (leb (stages n) room) _ e2 in
      let (t11, e4) = unless_accepted 11 (ltb 0 (length (meeting_plans n))) _ e3 in
      let (t12, e5) = unless_accepted 12 (leb (columns_needed n (grain_exponent n p q)) (columns n entries)) _ e4 in
      let (x, b, e6) = then_accepted (taken (chosen n (grain_exponent n p q))) _ e5 in
      let w : record { net = n; k = grain_exponent n p q; plan = x } ≡ c = accept_injective e6 in
      rw (← w) (record { holds = a; share-is = t9; exponent-is = refl; chosen-here = taken_is (chosen n (grain_exponent n p q)) b })

  -- Where the columns are enough, 12 is not given.
  steps : (a b c d : Bool) (o : Option (List ℕ)) (f : List ℕ → Choice) → d ≡ true
      → ◌>>◌ (9 unless a) (◌>>◌ (10 unless b) (◌>>◌ (11 unless c) (◌>>◌ (12 unless d) (taken o >>= λ x. accept (f x))))) ≡ refuse 12 → ⊥
  steps false b c d o f t e = let z : ◌≡◌ {A = ℕ} 9 12 = refuse_injective e in omega arith
  steps true false c d o f t e = let z : ◌≡◌ {A = ℕ} 10 12 = refuse_injective e in omega arith
  steps true true false d o f t e = let z : ◌≡◌ {A = ℕ} 11 12 = refuse_injective e in omega arith
  steps true true true false o f t e = let z : ◌≡◌ {A = ℕ} 0 1 = cc in omega arith
  steps true true true true none f t e = let z : ◌≡◌ {A = ℕ} 11 12 = refuse_injective e in omega arith
  steps true true true true (some x) f t e = not-refused (sym e)

  late-steps : (a b c d : Bool) (o : Option (List ℕ)) (f : List ℕ → Choice) → c ≡ true → (x : List ℕ) → o ≡ some x
      → ◌>>◌ (9 unless a) (◌>>◌ (10 unless b) (◌>>◌ (11 unless c) (◌>>◌ (12 unless d) (taken o >>= λ x. accept (f x))))) ≡ refuse 11 → ⊥
  late-steps false b c d o f t x i e = let z : ◌≡◌ {A = ℕ} 9 11 = refuse_injective e in omega arith
  late-steps true false c d o f t x i e = let z : ◌≡◌ {A = ℕ} 10 11 = refuse_injective e in omega arith
  late-steps true true false d o f t x i e = let z : ◌≡◌ {A = ℕ} 0 1 = cc in omega arith
  late-steps true true true false o f t x i e = let z : ◌≡◌ {A = ℕ} 12 11 = refuse_injective e in omega arith
  late-steps true true true true none f t x i e = let z : ◌≡◌ {A = ℕ} 0 1 = cc in omega arith
  late-steps true true true true (some y) f t x i e = not-refused (sym e)

  module _ {n : Net} (h : read bs ≡ accept n) where
    pub not_short : leb (columns_needed n (grain_exponent n p q)) (columns n entries) ≡ true → planned bs p q entries room ≡ refuse 12 → ⊥
    unfolding planned
    not_short t e =
        steps (leb p max_share && within 1 max_share q) (leb (stages n) room) (ltb 0 (length (meeting_plans n))) (leb (columns_needed n (grain_exponent n p q)) (columns n entries))
        (chosen n (grain_exponent n p q)) (λ x. record { net = n; k = grain_exponent n p q; plan = x }) t (rw h at e)

    -- 11 is not given where some plan meets timing.
    pub not_late : ltb 0 (length (meeting_plans n)) ≡ true → planned bs p q entries room ≡ refuse 11 → ⊥
    unfolding planned
    not_late t e =
        let (x, o) = chosen-some n (grain_exponent n p q) t in
        late-steps (leb p max_share && within 1 max_share q) (leb (stages n) room) (ltb 0 (length (meeting_plans n))) (leb (columns_needed n (grain_exponent n p q)) (columns n entries))
        (chosen n (grain_exponent n p q)) (λ x. record { net = n; k = grain_exponent n p q; plan = x }) t x o (rw h at e)

    pub all-late : leb p max_share && within 1 max_share q ≡ true → leb (stages n) room ≡ true → ltb 0 (length (meeting_plans n)) ≡ false
        → planned bs p q entries room ≡ refuse 11
    unfolding planned
    all-late t9 t10 t11 = simp (h, t9, t10, t11)

    pub all_pass : {x : List ℕ} → leb p max_share && within 1 max_share q ≡ true → leb (stages n) room ≡ true → ltb 0 (length (meeting_plans n)) ≡ true
        → leb (columns_needed n (grain_exponent n p q)) (columns n entries) ≡ true → chosen n (grain_exponent n p q) ≡ some x
        → planned bs p q entries room ≡ accept (record { net = n; k = grain_exponent n p q; plan = x })
    unfolding planned
    all_pass t9 t10 t11 t12 o = simp (h, t9, t10, t11, t12, o)

-- What is answered for a choice,
abbrev pub answer_for : Choice → Planned
answer_for c = record { refusal = 0; cost = cost c.net c.plan; slack = slack c.net c.plan; k = c.k; floor = floor c.net c.k }

-- and on a refusal: the number and zeros.
abbrev pub refused_with : ℕ → Planned
refused_with r = record { refusal = r; cost = 0; slack = pos 0; k = 0; floor = 0 }

-- The answer of the definition, by what `planned` gives.
module _ (bs : List ℕ) (p q : ℕ) (table : List ℤ) (buffer : List ℕ) where
  pub plan-accepted : {c : Choice} → planned bs p q (length table) (length buffer) ≡ accept c
      → plan bs p q table buffer ≡ plan_answer (answer_for c) (c.plan ++ drop (length c.plan) buffer) (cleared table)
  unfolding plan
  plan-accepted e = rw (e, plan)

  pub plan-refused : {r : ℕ} → planned bs p q (length table) (length buffer) ≡ refuse r
      → plan bs p q table buffer ≡ plan_answer (refused_with r) buffer (if eqb r 12 then cleared table else table)
  unfolding plan
  plan-refused e = rw (e, plan)

  refusal_is : {r : ℕ} → planned bs p q (length table) (length buffer) ≡ refuse r → (plan bs p q table buffer).refusal ≡ r
  refusal_is e = ap (λ (a : PlanAnswer). a.refusal) (plan-refused e)

  -- An answer that is no refusal was settled.
  pub answered-choice : (plan bs p q table buffer).refusal ≡ 0 → (c : Choice) × (planned bs p q (length table) (length buffer) ≡ accept c)
  answered-choice z = go (planned bs p q (length table) (length buffer)) refl
    where
      go : (a : Answer Choice) → planned bs p q (length table) (length buffer) ≡ a → (c : Choice) × (planned bs p q (length table) (length buffer) ≡ accept c)
      go (accept c) e = (c, e)
      go (refuse s) e = absurd (omega (arith, z, refusal_is e, (planned-numbered bs p q (length table) (length buffer)).some s e))

  -- With the share in its range, room for the plan and columns enough, a net is planned if any plan of it meets timing.
  pub plan-served : {n : Net} → read bs ≡ accept n → p ≤ max_share → 1 ≤ q → q ≤ max_share → stages n ≤ length buffer
      → leb (columns_needed n (grain_exponent n p q)) (columns n (length table)) ≡ true → Plannable n → (plan bs p q table buffer).refusal ≡ 0
  plan-served {n} h p-in q-some q-in room t12 some-plan =
      let t11 = (some-plan_iff n).1 some-plan in
      let (x, o) = chosen-some n (grain_exponent n p q) t11 in
      let t9 = share_in p q p-in q-some q-in in
      let a = all_pass bs p q (length table) (length buffer) h t9 (le-leb (stages n) (length buffer) room) t11 t12 o in
      ap (λ (a : PlanAnswer). a.refusal) (plan-accepted a)

  -- Demand 3 for every answer that equals the definition.
  module _ (r : Planned) {after : List ℕ} {cleaned : List ℤ} (same : plan_answer r after cleaned ≡ plan bs p q table buffer) where
    number : r.refusal ≡ (plan bs p q table buffer).refusal
    number = ap (λ (a : PlanAnswer). a.refusal) same

    pub accepted-choice : r.refusal ≡ 0 → (c : Choice) × (planned bs p q (length table) (length buffer) ≡ accept c)
    accepted-choice z = answered-choice (sym number ∙ z)

    pub number-refused : {m : ℕ} → r.refusal ≡ m → 1 ≤ m → planned bs p q (length table) (length buffer) ≡ refuse m
    number-refused {m} z one = go (planned bs p q (length table) (length buffer)) refl
      where
        go : (a : Answer Choice) → planned bs p q (length table) (length buffer) ≡ a → planned bs p q (length table) (length buffer) ≡ refuse m
        go (accept c) e = absurd (omega (arith, number, ap (λ (a : PlanAnswer). a.refusal) (plan-accepted e)))
        go (refuse s) e = e ∙ ap refuse (sym (refusal_is e) ∙ sym number ∙ z)

    enough : {n : Net} → read bs ≡ accept n → 1 ≤ p → enough_columns p q (stages n) * (stages n + 2) ≤ length table
        → leb (columns_needed n (grain_exponent n p q)) (columns n (length table)) ≡ true
    unfolding enough_columns
    enough {n} h one e = columns-enough (accepted bs n h) p q one (length table) e

    -- the plan that an accepted answer leaves at the front of the buffer
    pub plan-taken : (n : Net) → read bs ≡ accept n → (c : Choice) → planned bs p q (length table) (length buffer) ≡ accept c
        → (chosen n (grain_exponent n p q) ≡ some c.plan) × (take (stages n) after ≡ c.plan)
    plan-taken n h c e =
        let S = choice-settled bs p q (length table) (length buffer) e in
        let w : c.net ≡ n = accept_injective (sym S.holds ∙ h) in
        let o : chosen n (grain_exponent n p q) ≡ some c.plan = subst (λ (m : Net). chosen m (grain_exponent m p q) ≡ some c.plan) w S.chosen-here in
        let b : after ≡ c.plan ++ drop (length c.plan) buffer = ap (λ (a : PlanAnswer). a.buffer) (same ∙ plan-accepted e) in
        let l : stages n ≡ length c.plan = sym (plan-length n c.plan (chosen_is n (grain_exponent n p q) c.plan o).is-plan) in
        (o, ap (λ (k : ℕ). take k after) l ∙ ap (take (length c.plan)) b ∙ take_at c.plan (drop (length c.plan) buffer) (length c.plan) refl)

    pub demand_3 : Demand3 bs p q table buffer after r
    demand_3 = record {
      near = λ n h z. nearness n h (accepted-choice z);
      never-short = λ n h one e z. not_short bs p q (length table) (length buffer) h (enough h one e) (number-refused z (omega arith));
      planned = λ n h one p-in q-some q-in room e some-plan. number ∙ plan-served h p-in q-some q-in room (enough h one e) some-plan;
    }
      where
        nearness : (n : Net) → read bs ≡ accept n → (c : Choice) × (planned bs p q (length table) (length buffer) ≡ accept c)
            → (is_plan n (take (stages n) after) ≡ true) × (meets n (take (stages n) after) ≡ true) × (cost n (take (stages n) after) ≡ r.cost)
            × ((y : List ℕ) → is_plan n y ≡ true → meets n y ≡ true → q * cost n (take (stages n) after) ≤ (q + p) * cost n y)
        nearness n h (c, e) =
            let (o, t) = plan-taken n h c e in
            let C = chosen_is n (grain_exponent n p q) c.plan o in
            let S = choice-settled bs p q (length table) (length buffer) e in
            let w : c.net ≡ n = accept_injective (sym S.holds ∙ h) in
            let k : cost c.net c.plan ≡ cost n c.plan = ap (λ (m : Net). cost m c.plan) w in
            rw t (C.is-plan, C.meets_timing_lem, sym k ∙ sym (ap (λ (a : PlanAnswer). a.cost) (same ∙ plan-accepted e)), near-cheapest (accepted bs n h) p q c.plan o)

    -- Demand 2 for every answer that equals the definition.
    pub demand_2 : Demand2 bs p q table buffer after r
    demand_2 = record {
      late-only = λ n h z some-plan. not_late bs p q (length table) (length buffer) h ((some-plan_iff n).1 some-plan) (number-refused z (omega arith));
      late = λ n h p-in q-some q-in room none-meets. number ∙ refusal_is (all-late bs p q (length table) (length buffer) h (share_in p q p-in q-some q-in) (le-leb (stages n) (length buffer) room) (none-late n none-meets));
      short-only = λ n h z. too_few n h (number-refused z (omega arith));
      first = λ n h z. first-plan n h (accepted-choice z);
    }
      where
        none-late : (n : Net) → (Plannable n → ⊥) → ltb 0 (length (meeting_plans n)) ≡ false
        none-late n none-meets = go (ltb 0 (length (meeting_plans n))) refl
          where
            go : (b : Bool) → ltb 0 (length (meeting_plans n)) ≡ b → ltb 0 (length (meeting_plans n)) ≡ false
            go true e = absurd (none-meets ((some-plan_iff n).0 e))
            go false e = e

        too_few : (n : Net) → read bs ≡ accept n → planned bs p q (length table) (length buffer) ≡ refuse 12
            → columns n (length table) < columns_needed n (grain_exponent n p q)
        too_few n h e = go (leb (columns_needed n (grain_exponent n p q)) (columns n (length table))) refl
          where
            go : (b : Bool) → leb (columns_needed n (grain_exponent n p q)) (columns n (length table)) ≡ b → columns n (length table) < columns_needed n (grain_exponent n p q)
            go true t = absurd (not_short bs p q (length table) (length buffer) h t e)
            go false t = leb-false (columns_needed n (grain_exponent n p q)) (columns n (length table)) t

        first-plan : (n : Net) → read bs ≡ accept n → (c : Choice) × (planned bs p q (length table) (length buffer) ≡ accept c)
            → chosen n (grain_exponent n p q) ≡ some (take (stages n) after)
        first-plan n h (c, e) = let (o, t) = plan-taken n h c e in o ∙ ap some (sym t)
