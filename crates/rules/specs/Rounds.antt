-- 02, wish 7, 'Best plan after some rounds': the k's that are run, the plan of each, the cheapest of them, the floor, and what the call answers and leaves, for
-- every input. Coarse grains first, each round half as coarse as the one before: source 001, section 6.1.
use Rattle.std.specs.Prelude.{◌≡◌, true, List, ◌++◌, map, ℕ, ◌+◌, ◌*◌, ◌-◌, ◌^◌, ◌≤◌, ◌<◌, leb, ltb, eqb, length, take, drop, ℤ, pos, if◌then◌else◌}
use Rattle.std.proofs.Math.Option.{Option}
use Rattle.laws.specs.Basic.{from, leading, somes, within, first_lowest, highest}
use Rattle.rules.specs.declared.RoundsPlanned.{RoundsPlanned}
use Rattle.rules.specs.Tree.{Net, stages, is_plan}
use Rattle.rules.specs.Timing.{slack, meets, cost}
use Rattle.rules.specs.Grain.{max_exponent, meeting_plans, floor, chosen, columns, columns_needed}
use Rattle.rules.specs.Reading.{Answer, accept, refuse, ◌>>=◌, ◌>>◌, ◌unless◌, read}
use Rattle.rules.specs.Planning.{taken, cleared, Plannable}

-- r is 1 to 29, as k is 28 to 0 (refusal 14).
abbrev pub max_rounds : ℕ
max_rounds = 29

-- The k's of r rounds: 28, 27, and down.
unfoldable pub due_rounds : ℕ → List ℕ
due_rounds r = map (λ i. max_exponent - i) (from 0 r)

-- The last k of m rounds.
unfoldable pub last_run : ℕ → ℕ
last_run m = max_rounds - m

-- The k's that are run, r of them at most: 'They end early before a k that needs more columns than lent.'
unfoldable pub rounds_run : Net → ℕ → ℕ → List ℕ
rounds_run n r lent = leading (λ k. leb (columns_needed n k) lent) (due_rounds r)

-- The plans seen: at each k the one that 01 chooses.
unfoldable pub seen_plans : Net → List ℕ → List (List ℕ)
seen_plans n ks = somes (map (chosen n) ks)

-- 'the cheapest plan seen by true cost, the one of the larger k among equals': the first of least cost, for the k's run down.
unfoldable pub cheapest_seen : Net → List ℕ → Option (List ℕ)
cheapest_seen n ks = first_lowest (cost n) (seen_plans n ks)

-- 'the largest g × V(k) seen as floor'. Each is a lower bound on the cost of every plan that meets timing (source 001, section 6.3), and so is the largest.
unfoldable pub highest_floor : Net → List ℕ → ℕ
highest_floor n ks = highest (floor n) ks

-- What an accepted call settles: the net, the k's run, and the plan.
pub record RoundsChoice : Type 0 where
  pub net : Net
  pub run : List ℕ
  pub plan : List ℕ

-- Planning by r rounds, with a table of so many entries and a plan buffer of so many bytes. Refusals: 1 to 6; 14, r outside 1 to 29; 10, plan buffer shorter
-- than s; 11, no plan meets timing; 12, not one column is lent. (Past 12 the round at k = 28 is run, for it needs one column, and there is a plan.)
unfoldable pub planned_rounds : List ℕ → ℕ → ℕ → ℕ → Answer RoundsChoice
planned_rounds bs r entries room = do
  n ← read bs
  14 unless within 1 max_rounds r
  10 unless leb (stages n) room
  11 unless ltb 0 (length (meeting_plans n))
  12 unless ltb 0 (columns n entries)
  x ← taken (cheapest_seen n (rounds_run n r (columns n entries)))
  accept (record { net = n; run = rounds_run n r (columns n entries); plan = x })

-- All that the call answers and leaves behind.
pub record RoundsAnswer : Type 0 where
  pub refusal : ℕ
  pub cost : ℕ
  pub slack : ℤ
  pub floor : ℕ
  pub rounds : ℕ
  pub buffer : List ℕ
  pub table : List ℤ

-- What planning by r rounds answers and leaves. Accepted: cost and slack of the plan, the floor, the rounds run. 'Table and plan buffer are left as in planning':
-- the plan's s bytes open the buffer, later bytes keep their values, the table is all zero. Refused: the number and zeros; the buffer is unchanged, and so is the
-- table, which after 12 is all zero.
unfoldable pub plan_rounds : List ℕ → ℕ → List ℤ → List ℕ → RoundsAnswer
plan_rounds bs r table buffer = elim (planned_rounds bs r (length table) (length buffer)) [
  | accept c ↦ record {
    refusal = 0;
    cost = cost c.net c.plan;
    slack = slack c.net c.plan;
    floor = highest_floor c.net c.run;
    rounds = length c.run;
    buffer = c.plan ++ drop (length c.plan) buffer;
    table = cleared table;
  }
  | refuse m ↦ record { refusal = m; cost = 0; slack = pos 0; floor = 0; rounds = 0; buffer = buffer; table = if eqb m 12 then cleared table else table }
]

-- An answer with what it leaves in buffer and table.
abbrev pub rounds_answer : RoundsPlanned → List ℕ → List ℤ → RoundsAnswer
rounds_answer a buffer table =
    record { refusal = a.refusal; cost = a.cost; slack = a.slack; floor = a.floor; rounds = a.rounds; buffer = buffer; table = table }

-- What holds of an accepted answer, for the net n that the bytes hold.
pub record BestSeen (n : Net) (r entries : ℕ) (a : RoundsAnswer) : Type 0 where
  -- The first s bytes of the buffer are a plan of the net, it meets timing, and it costs what the answer says.
  pub is-plan : is_plan n (take (stages n) a.buffer) ≡ true
  pub meets_timing_lem : meets n (take (stages n) a.buffer) ≡ true
  pub costs : cost n (take (stages n) a.buffer) ≡ a.cost
  -- The floor is at most the cost of every plan that meets timing, ..
  pub below : (y : List ℕ) → is_plan n y ≡ true → meets n y ≡ true → a.floor ≤ cost n y
  -- .. so of this one, and cost minus floor is at most s × (2^k − 1) for the last k run.
  pub below-cost : a.floor ≤ a.cost
  pub near : a.cost - a.floor ≤ stages n * (2 ^ last_run a.rounds - 1)
  -- From 1 to r rounds are run, fewer than r only if the next k needs more columns than lent.
  pub some_round : 1 ≤ a.rounds
  pub most-rounds : a.rounds ≤ r
  pub ended : a.rounds < r → columns n entries < columns_needed n (last_run (a.rounds + 1))

-- What every answer promises, whatever is handed in: `rounds_promise` in crates/demands/specs/Rounds.antt.
pub record RoundsPromise (bs : List ℕ) (r : ℕ) (table : List ℤ) (buffer : List ℕ) (a : RoundsAnswer) : Type 0 where
  -- 11 only if no plan of the net meets timing; and, with r in its range and the plan buffer in order, if none does.
  pub late-only : (n : Net) → read bs ≡ accept n → a.refusal ≡ 11 → Plannable n → ⊥
  pub late : (n : Net) → read bs ≡ accept n → 1 ≤ r → r ≤ max_rounds → stages n ≤ length buffer → (Plannable n → ⊥) → a.refusal ≡ 11
  pub best : (n : Net) → read bs ≡ accept n → a.refusal ≡ 0 → BestSeen n r (length table) a
  -- With r in its range, the plan buffer in order and 2^(r − 1) columns, all r rounds are run, if any plan of the net meets timing.
  pub all-run : (n : Net) → read bs ≡ accept n → 1 ≤ r → r ≤ max_rounds → stages n ≤ length buffer → 2 ^ (r - 1) * (stages n + 2) ≤ length table → Plannable n
      → (a.refusal ≡ 0) × (a.rounds ≡ r)
