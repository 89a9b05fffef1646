-- From the definition of planning by rounds (02, wish 7) to its answer: the refusals in their order, what is answered for a choice and on a refusal, and the
-- k's that are run, their cheapest plan and floor in the words of the search.
use Rattle.std.specs.Prelude.{◌≡◌, Bool, true, false, leb, ltb, eqb, length, drop, ℤ, pos, if◌then◌else◌}
use Rattle.std.proofs.Math.Path.{refl, ap, fun_ext}
use Rattle.std.proofs.Common.{◌∙◌, add-zero, zero-add, suc-add, pow-suc, le-leb}
use Rattle.std.proofs.Math.Option.{Option, some}
use mathlib.Core.List.{List, [], ◌∷◌, ◌++◌, map, append-nil, Memᴰ}
use Prim.Native.Nat.{ℕ, zero, suc, ◌+◌, ◌-◌, ◌^◌, ◌≤◌, ◌<◌}
use native.Mathlib.Omega.{arith}
use Rattle.std.proofs.Math.Nat.{mul-le-mul_left}
use Rattle.std.proofs.lemmas.Bool.{lt-leb}
use Rattle.laws.specs.Basic.{from, leading, somes, within, first_lowest}
use Rattle.laws.specs.Front.{leading-all, highest_ge, highest_le}
use Rattle.rules.specs.declared.RoundsPlanned.{RoundsPlanned}
use Rattle.rules.specs.Tree.{Net, stages}
use Rattle.rules.specs.Timing.{slack, cost}
use Rattle.rules.specs.Grain.{max_exponent, meeting_plans, least_rounded, floor, columns, columns_needed}
use Rattle.rules.specs.Reading.{accept, refuse, read}
use Rattle.rules.specs.Planning.{taken, cleared}
use Rattle.rules.specs.Rounds.{max_rounds, due_rounds, last_run, rounds_run, seen_plans, cheapest_seen, highest_floor}
use Rattle.rules.specs.Rounds.{RoundsChoice, planned_rounds, plan_rounds, rounds_answer}
use Rattle.facts.specs.Accepted.{Accepted}
use Rattle.facts.specs.Refusals.{Numbered, accept-numbered, then_numbered, unless_numbered, wider-numbered, read-numbered}
use Rattle.oracle.specs.Value.{value-halved}
use Rattle.oracle.specs.Rounds.{due-mem, mem-due, tree_seen, tree_best}
use Rattle.demands.specs.StageNumbers.{tree_of}
use Rattle.demands.specs.Same.{cost-same, value_same, first-same}
use Rattle.demands.specs.Values.{either}
use Rattle.demands.specs.Call.{taken-numbered}

-- An r in its range passes the test of refusal 14.
pub rounds_in : {r : ℕ} → 1 ≤ r → r ≤ max_rounds → within 1 max_rounds r ≡ true
rounds_in {r} one top = rw (le-leb 1 r one, le-leb r max_rounds top) refl

module _ (bs : List ℕ) (r entries room : ℕ) where
  -- Planning by rounds refuses with a number from 1 to 14, never with 0.
  pub rounds-numbered : Numbered 14 (planned_rounds bs r entries room)
  unfolding planned_rounds
  rounds-numbered =
      then_numbered (read bs) _ (wider-numbered 14 (omega arith) (read-numbered bs)) (λ n.
      unless_numbered 14 (within 1 max_rounds r) _ (omega arith) (omega arith)
      (unless_numbered 10 (leb (stages n) room) _ (omega arith) (omega arith)
      (unless_numbered 11 (ltb 0 (length (meeting_plans n))) _ (omega arith) (omega arith)
      (unless_numbered 12 (ltb 0 (columns n entries)) _ (omega arith) (omega arith)
      (then_numbered (taken (cheapest_seen n (rounds_run n r (columns n entries)))) _
      (wider-numbered 14 (omega arith) (taken-numbered (cheapest_seen n (rounds_run n r (columns n entries))))) (λ x. accept-numbered 14 _))))))

  -- A net that cannot be read is refused with the number of its first fault.
  pub rounds-unread : {m : ℕ} → read bs ≡ refuse m → planned_rounds bs r entries room ≡ refuse m
  unfolding planned_rounds
  rounds-unread e = rw (e, planned_rounds) refl

  -- For a net that is read, the refusals after it: the first test that fails decides, ..
  module _ {n : Net} (h : read bs ≡ accept n) where
    pub rounds_14 : within 1 max_rounds r ≡ false → planned_rounds bs r entries room ≡ refuse 14
    unfolding planned_rounds
    rounds_14 t14 = simp (h, t14)

    pub rounds_10 : within 1 max_rounds r ≡ true → leb (stages n) room ≡ false → planned_rounds bs r entries room ≡ refuse 10
    unfolding planned_rounds
    rounds_10 t14 t10 = simp (h, t14, t10)

    pub rounds_11 : within 1 max_rounds r ≡ true → leb (stages n) room ≡ true → ltb 0 (length (meeting_plans n)) ≡ false
        → planned_rounds bs r entries room ≡ refuse 11
    unfolding planned_rounds
    rounds_11 t14 t10 t11 = simp (h, t14, t10, t11)

    pub rounds_12 : within 1 max_rounds r ≡ true → leb (stages n) room ≡ true → ltb 0 (length (meeting_plans n)) ≡ true → ltb 0 (columns n entries) ≡ false
        → planned_rounds bs r entries room ≡ refuse 12
    unfolding planned_rounds
    rounds_12 t14 t10 t11 t12 = simp (h, t14, t10, t11, t12)

    -- .. and where all pass, the cheapest plan seen is taken.
    pub rounds_pass : {x : List ℕ} → within 1 max_rounds r ≡ true → leb (stages n) room ≡ true → ltb 0 (length (meeting_plans n)) ≡ true
        → ltb 0 (columns n entries) ≡ true → cheapest_seen n (rounds_run n r (columns n entries)) ≡ some x
        → planned_rounds bs r entries room ≡ accept (record { net = n; run = rounds_run n r (columns n entries); plan = x })
    unfolding planned_rounds
    rounds_pass t14 t10 t11 t12 o = simp (h, t14, t10, t11, t12, o)

-- What is answered for a choice,
abbrev pub rounds_answer_for : RoundsChoice → RoundsPlanned
rounds_answer_for c = record {
  refusal = 0;
  cost = cost c.net c.plan;
  slack = slack c.net c.plan;
  floor = highest_floor c.net c.run;
  rounds = length c.run;
}

-- and on a refusal: the number and zeros.
abbrev pub rounds_refused : ℕ → RoundsPlanned
rounds_refused m = record { refusal = m; cost = 0; slack = pos 0; floor = 0; rounds = 0 }

-- The answer of the definition, by what `planned_rounds` gives.
module _ (bs : List ℕ) (r : ℕ) (table : List ℤ) (buffer : List ℕ) where
  pub rounds-accepted : {c : RoundsChoice} → planned_rounds bs r (length table) (length buffer) ≡ accept c
      → plan_rounds bs r table buffer ≡ rounds_answer (rounds_answer_for c) (c.plan ++ drop (length c.plan) buffer) (cleared table)
  unfolding plan_rounds
  rounds-accepted e = rw (e, plan_rounds)

  pub rounds-refused : {m : ℕ} → planned_rounds bs r (length table) (length buffer) ≡ refuse m
      → plan_rounds bs r table buffer ≡ rounds_answer (rounds_refused m) buffer (if eqb m 12 then cleared table else table)
  unfolding plan_rounds
  rounds-refused e = rw (e, plan_rounds)

-- A run of numbers in two parts.
from_parts : (f : ℕ → ℕ) (i m d : ℕ) → map f (from i (m + d)) ≡ map f (from i m) ++ map f (from (i + m) d)
from_parts f i zero d = rw (zero-add d, add-zero i) refl
from_parts f i (suc m) d =
    let e : suc i + m ≡ i + suc m = omega arith in
    rw (suc-add m d, ← e) (ap (λ (l : List ℕ). f i ∷ l) (from_parts f (suc i) m d))

-- The k's of r rounds are those of m of them and then the others.
pub due-parts : (m r : ℕ) → m ≤ r → due_rounds r ≡ due_rounds m ++ map (λ i. max_exponent - i) (from m (r - m))
unfolding due_rounds
due-parts m r h =
    let e : r ≡ m + (r - m) = omega arith in
    ap due_rounds e ∙ (from_parts (λ i. max_exponent - i) 0 m (r - m) ∙ ap (λ (i : ℕ). due_rounds m ++ map (λ i. max_exponent - i) (from i (r - m))) (zero-add m))

-- The k's run, from what a walk down the k's has found: at each k of m rounds V(k) + 1 columns are lent, and, if that is fewer than r rounds, not at the next.
pub run_is : (n : Net) (r lent m : ℕ) → m ≤ r → ((k : ℕ) → last_run m ≤ k → k ≤ max_exponent → least_rounded n k < lent)
    → (m < r → lent ≤ least_rounded n (last_run (m + 1))) → rounds_run n r lent ≡ due_rounds m
unfolding rounds_run last_run columns_needed
run_is n r lent m low fit end =
    let front = leading-all test (due_rounds m) (map (λ i. max_exponent - i) (from m (r - m))) passing in
    ap (leading test) (due-parts m r low) ∙ (front ∙ (ap (λ (l : List ℕ). due_rounds m ++ l) (behind (r - m) refl) ∙ append-nil (due_rounds m)))
  where
    test : ℕ → Bool
    test k = leb (columns_needed n k) lent

    passing : (k : ℕ) → Memᴰ k (due_rounds m) → test k ≡ true
    passing k d =
        let (a, b) = due-mem m k d in
        le-leb (columns_needed n k) lent (omega (arith, fit k a b))

    behind : (d : ℕ) → r - m ≡ d → leading test (map (λ i. max_exponent - i) (from m d)) ≡ []
    behind zero q = refl
    behind (suc d) q =
        let k : max_exponent - m ≡ last_run (m + 1) = omega arith in
        rw (k, lt-leb (columns_needed n (last_run (m + 1))) lent (omega (arith, end (omega arith)))) refl

module _ {n : Net} (A : Accepted n) where
  -- Half the grain has no lower floor, ..
  floor-halved : (k : ℕ) → floor n (suc k) ≤ floor n k
  unfolding floor
  floor-halved k = either A
      (λ x M. rw (pow-suc, ← value_same A k, ← value_same A (suc k)) (omega (arith, mul-le-mul_left (2 ^ k) (value-halved (tree_of n) k x M))))
      (λ z. rw (z k, z (suc k)) (omega arith))

  floor_finer : (d k : ℕ) → floor n (d + k) ≤ floor n k
  floor_finer zero k = omega (arith, ap (floor n) (zero-add k))
  floor_finer (suc d) k = omega (arith, floor_finer d k, ap (floor n) (suc-add d k), floor-halved (d + k))

  -- .. so 2^k × V(k) never falls on the way down, and the largest is that of the last k run.
  pub highest-last : (m : ℕ) → 1 ≤ m → m ≤ max_rounds → highest_floor n (due_rounds m) ≡ floor n (last_run m)
  unfolding highest_floor last_run
  highest-last m some_round in_range =
      let last = mem-due m (last_run m) (omega arith) (omega arith) in
      omega (arith, highest_ge (floor n) (due_rounds m) last, highest_le (floor n) (floor n (last_run m)) (due_rounds m) lower)
    where
      lower : (k : ℕ) → Memᴰ k (due_rounds m) → floor n k ≤ floor n (last_run m)
      lower k d =
          let (a, b) = due-mem m k d in
          let e : k ≡ k - last_run m + last_run m = omega arith in
          omega (arith, floor_finer (k - last_run m) (last_run m), ap (floor n) e)

  -- By the tree of stages the cheapest plan seen is the same.
  pub best-same : (ks : List ℕ) → tree_best (tree_of n) ks ≡ cheapest_seen n ks
  unfolding cheapest_seen seen_plans
  best-same ks =
      ap (λ (f : List ℕ → ℕ). first_lowest f (tree_seen (tree_of n) ks)) (fun_ext (cost-same A)) ∙
      ap (λ (g : ℕ → Option (List ℕ)). first_lowest (cost n) (somes (map g ks))) (fun_ext (first-same A))
