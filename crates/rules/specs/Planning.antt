-- 01, 'Planning': what planning answers, and what it leaves in the plan buffer and in the table, for every input.
use Rattle.std.specs.Prelude.{◌≡◌, true, ◌&&◌, List, ◌++◌, ℕ, ◌+◌, ◌*◌, ◌/◌, ◌-◌, ◌≤◌, ◌<◌, leb, ltb, eqb, length, take, drop, replicate, ℤ, pos, if◌then◌else◌}
use Rattle.std.proofs.Math.Option.{Option, none, some}
use Rattle.laws.specs.Basic.{within}
use Rattle.rules.specs.declared.Planned.{Planned}
use Rattle.rules.specs.Tree.{Net, stages, is_plan}
use Rattle.rules.specs.Timing.{slack, meets, cost}
use Rattle.rules.specs.Grain.{meeting_plans, floor, grain_exponent, chosen, columns, columns_needed}
use Rattle.rules.specs.Reading.{Answer, accept, refuse, ◌>>=◌, ◌>>◌, ◌unless◌, read}

-- p is at most 1,000 and q from 1 to 1,000 (refusal 9).
abbrev pub max_share : ℕ
max_share = 1000

-- What an accepted call settles: the net, the k of the grain, and the plan.
pub record Choice : Type 0 where
  pub net : Net
  pub k : ℕ
  pub plan : List ℕ

-- The plan chosen, if there is one.
abbrev pub taken : Option (List ℕ) → Answer (List ℕ)
taken none = refuse 11
taken (some x) = accept x

-- Planning with share p/q, a table of so many entries and a plan buffer of so many bytes. Refusals: 1 to 6; 9, p above 1,000 or q outside 1 to 1,000;
-- 10, plan buffer shorter than s; 11, no plan meets timing; 12, fewer than V(k) + 1 columns. (Past 11 there is a plan to choose.)
unfoldable pub planned : List ℕ → ℕ → ℕ → ℕ → ℕ → Answer Choice
planned bs p q entries room = do
  n ← read bs
  9 unless leb p max_share && within 1 max_share q
  10 unless leb (stages n) room
  11 unless ltb 0 (length (meeting_plans n))
  12 unless leb (columns_needed n (grain_exponent n p q)) (columns n entries)
  x ← taken (chosen n (grain_exponent n p q))
  accept (record { net = n; k = grain_exponent n p q; plan = x })

-- All that a call answers and leaves behind.
pub record PlanAnswer : Type 0 where
  pub refusal : ℕ
  pub cost : ℕ
  pub slack : ℤ
  pub k : ℕ
  pub floor : ℕ
  pub buffer : List ℕ
  pub table : List ℤ

-- A table all zero.
unfoldable pub cleared : List ℤ → List ℤ
cleared table = replicate (length table) (pos 0)

-- What planning answers and leaves. Accepted: cost and slack of the plan, k, and the floor g × V(k) (02, wish 6); the plan's s bytes open the buffer, later
-- bytes keep their values; the table is all zero. Refused: the number and zeros; the buffer is unchanged, and so is the table, which after 12 is all zero.
unfoldable pub plan : List ℕ → ℕ → ℕ → List ℤ → List ℕ → PlanAnswer
plan bs p q table buffer = elim (planned bs p q (length table) (length buffer)) [
  | accept c ↦ record {
    refusal = 0;
    cost = cost c.net c.plan;
    slack = slack c.net c.plan;
    k = c.k;
    floor = floor c.net c.k;
    buffer = c.plan ++ drop (length c.plan) buffer;
    table = cleared table;
  }
  | refuse r ↦ record { refusal = r; cost = 0; slack = pos 0; k = 0; floor = 0; buffer = buffer; table = if eqb r 12 then cleared table else table }
]

-- An answer with what it leaves in buffer and table.
abbrev pub plan_answer : Planned → List ℕ → List ℤ → PlanAnswer
plan_answer r buffer table =
    record { refusal = r.refusal; cost = r.cost; slack = r.slack; k = r.k; floor = r.floor; buffer = buffer; table = table }

-- The two bounds of 01 on a floor: it is at most the cost of every plan of the net that meets timing, and q × cost is at most (q + p) × floor.
pub record IsFloor (n : Net) (p q plan_cost bound : ℕ) : Type 0 where
  pub below : (x : List ℕ) → is_plan n x ≡ true → meets n x ≡ true → bound ≤ cost n x
  pub near : q * plan_cost ≤ (q + p) * bound

-- What the floor of an answer is good for. That it holds of every answer that planning gives is `floor_promise` (crates/demands/specs/Floor.antt).
pub record FloorPromise (bs : List ℕ) (p q : ℕ) (a : PlanAnswer) : Type 0 where
  -- On acceptance the two bounds, for the net that the bytes hold.
  pub bounded : (n : Net) → read bs ≡ accept n → a.refusal ≡ 0 → IsFloor n p q a.cost a.floor
  -- It is never above the cost, so that it may be taken off the cost; at share 0 it is the cost.
  pub below-cost : a.floor ≤ a.cost
  pub exact : p ≡ 0 → a.floor ≡ a.cost

-- s plus 2qs/p rounded up.
unfoldable pub enough_columns : ℕ → ℕ → ℕ → ℕ
enough_columns p q s = s + (2 * q * s + (p - 1)) / p

-- Some plan of the net meets timing.
abbrev pub Plannable : Net → Type 0
Plannable n = (x : List ℕ) × (is_plan n x ≡ true) × (meets n x ≡ true)

-- Demand 2 for planning: 11 exactly if no plan meets timing, 12 only if the columns are too few, else the first plan of least rounded cost at the grain.
pub record Demand2 (bs : List ℕ) (p q : ℕ) (table : List ℤ) (buffer after : List ℕ) (r : Planned) : Type 0 where
  -- 11 only if no plan of the net meets timing; and, with the share in its range and the plan buffer in order, if none does.
  pub late-only : (n : Net) → read bs ≡ accept n → r.refusal ≡ 11 → Plannable n → ⊥
  pub late : (n : Net) → read bs ≡ accept n → p ≤ max_share → 1 ≤ q → q ≤ max_share → stages n ≤ length buffer → (Plannable n → ⊥) → r.refusal ≡ 11
  pub short-only : (n : Net) → read bs ≡ accept n → r.refusal ≡ 12 → columns n (length table) < columns_needed n (grain_exponent n p q)
  -- If planning accepts, the buffer opens with the plan laid down.
  pub first : (n : Net) → read bs ≡ accept n → r.refusal ≡ 0 → chosen n (grain_exponent n p q) ≡ some (take (stages n) after)

-- Demand 3, whole: whatever net bytes, share, table and plan buffer are handed in. `after` is the plan buffer afterwards.
pub record Demand3 (bs : List ℕ) (p q : ℕ) (table : List ℤ) (buffer after : List ℕ) (r : Planned) : Type 0 where
  -- If planning accepts, the first s bytes of the buffer are a plan of the net read from those bytes, it meets timing, it costs what the answer says, and
  -- q × cost is at most (q + p) × the cost of every plan of that net that meets timing.
  pub near : (n : Net) → read bs ≡ accept n → r.refusal ≡ 0
      → (is_plan n (take (stages n) after) ≡ true) × (meets n (take (stages n) after) ≡ true) × (cost n (take (stages n) after) ≡ r.cost)
      × ((y : List ℕ) → is_plan n y ≡ true → meets n y ≡ true → q * cost n (take (stages n) after) ≤ (q + p) * cost n y)
  -- With p at least 1, s plus 2qs/p columns, rounded up, are never too few, whatever stands in the table.
  pub never-short : (n : Net) → read bs ≡ accept n → 1 ≤ p → enough_columns p q (stages n) * (stages n + 2) ≤ length table → r.refusal ≡ 12 → ⊥
  -- With the share in its range and the plan buffer in order the net is then planned, if any plan of it meets timing.
  pub planned : (n : Net) → read bs ≡ accept n → 1 ≤ p → p ≤ max_share → 1 ≤ q → q ≤ max_share → stages n ≤ length buffer
      → enough_columns p q (stages n) * (stages n + 2) ≤ length table → Plannable n → r.refusal ≡ 0
