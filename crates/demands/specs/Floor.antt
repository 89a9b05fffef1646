-- The floor of planning (02, wish 6): what its definition, g × V(k), is good for. It keeps the two bounds of 01, it is never above the cost and at share 0 it
-- is the cost; and with cost, slack and k it rests on net and share alone, so that answers of two machines may be compared.
use Rattle.std.specs.Prelude.{◌≡◌, refl, List, ℕ, length, ℤ}
use Rattle.std.proofs.Common.{ap, sym, ◌∙◌, subst, arith}
use Rattle.std.proofs.Math.Option.{some, some-injective}
use Rattle.rules.specs.declared.Planned.{Planned}
use Rattle.rules.specs.Tree.{Net}
use Rattle.rules.specs.Timing.{cost}
use Rattle.rules.specs.Grain.{floor, grain_exponent, chosen}
use Rattle.rules.specs.Reading.{Answer, accept, refuse}
use Rattle.rules.specs.Planning.{Choice, PlanAnswer, planned, plan, IsFloor, FloorPromise}
use Rattle.facts.specs.Answers.{accept_injective}
use Rattle.facts.specs.Accepted.{accepted}
use Rattle.demands.specs.Demand2.{chosen_is}
use Rattle.demands.specs.Demand3.{chosen-floor, within-zero}
use Rattle.demands.specs.Call.{share_out, planned-numbered, Settled, choice-settled, answer_for, plan-accepted, plan-refused, answered-choice}

module _ (bs : List ℕ) (p q : ℕ) where
  -- What every answer of planning promises of its floor.
  pub floor_promise : (table : List ℤ) (buffer : List ℕ) → FloorPromise bs p q (plan bs p q table buffer)
  floor_promise table buffer = go (planned bs p q (length table) (length buffer)) refl
    where
      bounds : (c : Choice) → Settled bs p q (length table) (length buffer) c
          → IsFloor c.net p q (cost c.net c.plan) (floor c.net c.k)
      bounds c S = rw S.exponent-is (chosen-floor (accepted bs c.net S.holds) p q c.plan S.chosen-here)

      go : (a : Answer Choice) → planned bs p q (length table) (length buffer) ≡ a → FloorPromise bs p q (plan bs p q table buffer)
      go (accept c) e =
          let S = choice-settled bs p q (length table) (length buffer) e in
          let F = bounds c S in
          let C = chosen_is c.net (grain_exponent c.net p q) c.plan S.chosen-here in
          let low = F.below c.plan C.is-plan C.meets_timing_lem in
          rw (plan-accepted bs p q table buffer e) (record {
            bounded = λ n h z.
                subst (λ (m : Net). IsFloor m p q (cost c.net c.plan) (floor c.net c.k)) (accept_injective (sym S.holds ∙ h)) F;
            below-cost = low;
            exact = λ z. omega (arith, low, within-zero z (share_out p q S.share-is).1 F.near);
          })
      go (refuse r) e =
          rw (plan-refused bs p q table buffer e) (record {
            bounded = λ n h z. absurd (omega (arith, (planned-numbered bs p q (length table) (length buffer)).some r e));
            below-cost = omega arith;
            exact = λ z. refl;
          })

-- An answer alone, without what it leaves in buffer and table.
abbrev pub answer_of : PlanAnswer → Planned
answer_of a = record { refusal = a.refusal; cost = a.cost; slack = a.slack; k = a.k; floor = a.floor }

-- The choice settled, and so what is answered for it, rests on net bytes and share alone.
choices_alike : {bs : List ℕ} {p q entries room entries' room' : ℕ} {c d : Choice} → Settled bs p q entries room c → Settled bs p q entries' room' d
    → answer_for c ≡ answer_for d
choices_alike {p = p} {q = q} {c = c} {d = d} S R =
    let net-is : c.net ≡ d.net = accept_injective (sym S.holds ∙ R.holds) in
    let same : some c.plan ≡ some d.plan =
    sym S.chosen-here ∙ (ap (λ (n : Net). chosen n (grain_exponent n p q)) net-is ∙ R.chosen-here) in
    let plan-is : c.plan ≡ d.plan = some-injective c.plan d.plan same in
    let k-is : c.k ≡ d.k = S.exponent-is ∙ (ap (λ (n : Net). grain_exponent n p q) net-is ∙ sym R.exponent-is) in
    rw (net-is, plan-is, k-is) refl

-- Two accepted answers for the same net bytes, p and q are the same, whatever table and plan buffer were lent.
pub answers-alike : (bs : List ℕ) (p q : ℕ) (table table' : List ℤ) (buffer buffer' : List ℕ) → (plan bs p q table buffer).refusal ≡ 0
    → (plan bs p q table' buffer').refusal ≡ 0 → answer_of (plan bs p q table buffer) ≡ answer_of (plan bs p q table' buffer')
answers-alike bs p q table table' buffer buffer' z z' =
    let (c, e) = answered-choice bs p q table buffer z in
    let (d, i) = answered-choice bs p q table' buffer' z' in
    let S = choice-settled bs p q (length table) (length buffer) e in
    let R = choice-settled bs p q (length table') (length buffer') i in
    ap answer_of (plan-accepted bs p q table buffer e) ∙ (choices_alike S R ∙ sym (ap answer_of (plan-accepted bs p q table' buffer' i)))
