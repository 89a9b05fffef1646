-- A table for share 0, and for every other share, by a cost that is known. No plan that meets timing costs less than V(k), whatever k; so where one costs c,
-- c + 1 columns are never too few. A first call, at any share, gives such a c.
use Rattle.std.specs.Prelude.{◌≡◌, true, List, ℕ, ◌+◌, ◌*◌, ◌^◌, ◌≤◌, leb, length, ℤ}
use Rattle.std.proofs.Common.{arith, le-leb}
use Rattle.rules.specs.Tree.{Net, stages, is_plan}
use Rattle.rules.specs.Timing.{meets, cost}
use Rattle.rules.specs.Grain.{least_rounded, floor, grain_exponent, columns, columns_needed}
use Rattle.rules.specs.Reading.{accept, read}
use Rattle.rules.specs.Planning.{max_share, plan}
use Rattle.facts.specs.Accepted.{Accepted, accepted}
use Rattle.demands.specs.Values.{finer_floor, grain-below}
use Rattle.demands.specs.Columns.{columns-lent}
use Rattle.demands.specs.Call.{plan-served}

-- With that many columns a net is planned at every share, if any plan of it meets timing: y is one.
pub plan-by-cost : (bs : List ℕ) (p q : ℕ) (table : List ℤ) (buffer : List ℕ) (n : Net) → read bs ≡ accept n → p ≤ max_share → 1 ≤ q → q ≤ max_share
    → stages n ≤ length buffer → (y : List ℕ) → is_plan n y ≡ true → meets n y ≡ true → (cost n y + 1) * (stages n + 2) ≤ length table
    → (plan bs p q table buffer).refusal ≡ 0
unfolding columns_needed
plan-by-cost bs p q table buffer n h p-in q-some q-in room y is-plan in_time long =
    plan-served bs p q table buffer h p-in q-some q-in room (columns-by-cost (accepted bs n h) (grain_exponent n p q) y is-plan in_time (length table) long)
    (y, is-plan, in_time)
  where
    -- V(k) is at most the cost of every plan that meets timing, so that many columns and one are enough.
    columns-by-cost : {n : Net} → Accepted n → (k : ℕ) (y : List ℕ) → is_plan n y ≡ true → meets n y ≡ true → (entries : ℕ)
        → (cost n y + 1) * (stages n + 2) ≤ entries → leb (columns_needed n k) (columns n entries) ≡ true
    columns-by-cost {n} A k y is-plan in_time entries room =
        let within : 2 ^ 0 * least_rounded n k ≤ floor n k = finer_floor n {j = 0} (omega arith) in
        let have = columns-lent n room in
        le-leb (columns_needed n k) (columns n entries) (omega (arith, within, grain-below A k y is-plan in_time, have))
