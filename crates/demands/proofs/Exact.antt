-- The cheapest plan by two calls: `plan-by-cost` (specs/Exact.antt) with the cost that the first call gave.
use Rattle.std.specs.Prelude.{◌≡◌, refl, true, List, ℕ, ◌+◌, ◌*◌, ◌≤◌, length, take, ℤ}
use Rattle.std.proofs.Common.{arith}
use Rattle.rules.specs.Tree.{Net, stages, is_plan}
use Rattle.rules.specs.Timing.{meets, cost}
use Rattle.rules.specs.Reading.{accept, read}
use Rattle.rules.specs.Planning.{max_share, PlanAnswer, plan}
use Rattle.demands.specs.Call.{demand_3}
use Rattle.demands.specs.Floor.{floor_promise, answer_of}
use Rattle.demands.specs.Exact.{plan-by-cost}

-- Two calls for the cheapest plan: the first at any share, the second at share 0 with a table by the cost that the first gave. The second is accepted, and
-- no plan that meets timing costs less than its plan.
pub exact-after : (bs : List ℕ) (p q : ℕ) (table : List ℤ) (buffer : List ℕ) → (plan bs p q table buffer).refusal ≡ 0 → (n : Net) → read bs ≡ accept n
    → (q' : ℕ) (table' : List ℤ) (buffer' : List ℕ) → 1 ≤ q' → q' ≤ max_share → stages n ≤ length buffer'
    → ((plan bs p q table buffer).cost + 1) * (stages n + 2) ≤ length table'
    → ((plan bs 0 q' table' buffer').refusal ≡ 0)
    × ((y : List ℕ) → is_plan n y ≡ true → meets n y ≡ true → (plan bs 0 q' table' buffer').cost ≤ cost n y)
exact-after bs p q table buffer z n h q' table' buffer' q-some q-in room long =
    let a : PlanAnswer = plan bs p q table buffer in
    let D = demand_3 bs p q table buffer (answer_of a) {after = a.buffer} {cleaned = a.table} refl in
    let (is-plan, in_time, costs, near) = D.near n h z in
    let planned =
    plan-by-cost bs 0 q' table' buffer' n h (omega arith) q-some q-in room (take (stages n) a.buffer) is-plan in_time (rw (← costs) at long) in
    let F = floor_promise bs 0 q' table' buffer' in
    (planned, λ y is-plan in_time. omega (arith, F.exact refl, (F.bounded n h planned).below y is-plan in_time))
