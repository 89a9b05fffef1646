-- What planning a net by rounds is given and gives: the answer of 02, wish 7, and the buffer and the table it leaves.
use Rattle.std.specs.Prelude.{◌≡◌, refl, true, false, List, ◌++◌, ℕ, ◌-◌, ◌*◌, ◌≤◌, leb, eqb, length, take, drop, replicate, ℤ, pos, Result, Ok, Err}
use Rattle.std.proofs.Common.{ap, sym, ◌∙◌, arith, le-leb}
use Rattle.laws.specs.Basic.{within}
use Rattle.rules.specs.declared.RoundsPlanned.{RoundsPlanned}
use Rattle.rules.specs.declared.Refusal.{Refusal}
use Rattle.rules.specs.Refusals.{number_of}
use Rattle.rules.specs.Tree.{Net, stages}
use Rattle.rules.specs.Timing.{cost, slack}
use Rattle.rules.specs.Reading.{accept, refuse, read}
use Rattle.rules.specs.Planning.{cleared}
use Rattle.rules.specs.Rounds.{max_rounds, last_run, highest_floor, RoundsChoice, planned_rounds, plan_rounds, rounds_answer}
use Rattle.words.specs.Words.{net_in}
use Rattle.words.specs.declared.net.Net as words
use Rattle.words.specs.Held.{Held, held-accepted}
use Rattle.tree.specs.Plans.{Fitting}
use Rattle.demands.specs.StageNumbers.{tree_of}
use Rattle.demands.specs.RoundsCall.{rounds_in, rounds_11, rounds_12, rounds_pass, rounds_refused, rounds-accepted, rounds-refused}
use Rattle.slices.specs.Laid.{Laid}
use Rattle.rounds.specs.Problem.{Numbers}
use Rattle.search.specs.Planned.{IsLate, refusal_of}
use Rattle.search.specs.declared.Unplanned.{Unplanned}
use Rattle.search.specs.declared.Unplanned.TheVariants.{Late, Short}
use Rattle.planning.specs.declared.JudgedPlan.{JudgedPlan}
use Rattle.planning.specs.Outcomes.{numbers_of, none-meets}
use Rattle.planning.specs.Calls.{plan-fitting}
use Rattle.rounds_search.specs.Planned.{NoColumn, IsBest, BestPlanned}
use Rattle.rounds_planning.specs.Outcomes.{columnless, BestServed, best-served}

-- What is known past refusals 1 to 6, 14 and 10: the array holds a net, r is in its range, the plan buffer has room.
pub record RoundsAdmitted (w : List ℕ) (nodes layers s r room : ℕ) : Type 0 where
  pub held : Held w nodes layers
  pub stages-are : s ≡ stages (net_in w)
  pub some_round : 1 ≤ r
  pub most-rounds : r ≤ max_rounds
  pub room-enough : s ≤ room

-- The same of a net as it is lent on, of so many stages.
abbrev pub NetRuns : words.Net → (count r room : ℕ) → Type 0
NetRuns n count r room = RoundsAdmitted n.words.now n.nodes n.layers count r room

-- The numbers that the rounds are given.
pub numbers_in_lem : {w : List ℕ} {nodes layers s r room : ℕ} → RoundsAdmitted w nodes layers s r room → {driver wire : List ℕ} {limit : List ℤ} {costs : List ℕ}
    → Laid (tree_of (net_in w)) driver wire limit costs → {a : ℤ} → a ≡ (net_in w).driver.arrival → Numbers (tree_of (net_in w)) driver wire limit costs s layers a
numbers_in_lem G laid e = numbers_of (held-accepted G.held) laid G.stages-are G.held.layers-are e

-- The answer with what it leaves in table and buffer is that of 02.
abbrev pub PlansRounds : List ℕ → ℕ → List ℤ → List ℤ → List ℕ → List ℕ → RoundsPlanned → Type 0
PlansRounds bs r table tableAfter buffer bufferAfter a = rounds_answer a bufferAfter tableAfter ≡ plan_rounds bs r table buffer

-- The answer: the cheapest plan found with refusal 0 and the rounds run, or the refusal's number and zeros.
abbrev pub rounds_told : Result JudgedPlan Refusal → RoundsPlanned
rounds_told (Ok x) = record { refusal = 0; cost = x.cost; slack = x.slack; floor = x.floor; rounds = max_rounds - x.k }
rounds_told (Err why) = rounds_refused (number_of why)

-- What the rounds found, for the net in an array: the cheapest plan.
module _ {w : List ℕ} {nodes layers s r : ℕ} (table : List ℤ) (buffer : List ℕ) (G : RoundsAdmitted w nodes layers s r (length buffer))
    {k g v : ℕ} {after : List ℤ} {bufferAfter : List ℕ} (I : IsBest (tree_of (net_in w)) (last_run r) s table after buffer bufferAfter k g v) where
  pub best_of_net : BestServed (held-accepted G.held) r (length table) k g v buffer bufferAfter
  best_of_net = best-served (held-accepted G.held) G.some_round G.most-rounds G.stages-are I

  best-plan-here : take s bufferAfter ≡ best_of_net.x
  best-plan-here = ap (λ (i : ℕ). take i bufferAfter) G.stages-are ∙ best_of_net.taken_is

  -- What the plan buffer then opens with is a plan of the net.
  pub best-fits : Fitting (net_in w) (take s bufferAfter)
  best-fits = plan-fitting best_of_net.is-plan best-plan-here

module _ (bs : List ℕ) (r : ℕ) (table : List ℤ) (buffer : List ℕ) where
  -- A refusal other than 12 leaves buffer and table as they were.
  pub rounds-kept : {m : ℕ} → planned_rounds bs r (length table) (length buffer) ≡ refuse m → eqb m 12 ≡ false
      → PlansRounds bs r table table buffer buffer (rounds_refused m)
  rounds-kept e d = sym (rw d at (rounds-refused bs r table buffer e))

  rounds-done : {c : RoundsChoice} {f m : ℕ} {after : List ℤ} {bufferAfter : List ℕ} → planned_rounds bs r (length table) (length buffer) ≡ accept c
      → f ≡ highest_floor c.net c.run → m ≡ length c.run → after ≡ replicate (length table) (pos 0)
      → bufferAfter ≡ c.plan ++ drop (length c.plan) buffer
      → rounds_answer (record { refusal = 0; cost = cost c.net c.plan; slack = slack c.net c.plan; floor = f; rounds = m }) bufferAfter after
      ≡ plan_rounds bs r table buffer
  unfolding cleared
  rounds-done e ef em et eb = rw (ef, em, et, eb) (sym (rounds-accepted bs r table buffer e))

  module _ {w : List ℕ} {nodes layers s : ℕ} (G : RoundsAdmitted w nodes layers s r (length buffer)) (hold : read bs ≡ accept (net_in w)) where
    abbrev n : Net
    n = net_in w

    in_range : within 1 max_rounds r ≡ true
    in_range = rounds_in G.some_round G.most-rounds

    roomy : leb (stages n) (length buffer) ≡ true
    roomy = le-leb (stages n) (length buffer) (omega (arith, G.room-enough, G.stages-are))

    -- The answers, by the outcome of the rounds.
    pub rounds-late : {after : List ℤ} {bufferAfter : List ℕ} → IsLate (tree_of n) table after buffer bufferAfter
        → PlansRounds bs r table after buffer bufferAfter (rounds_refused 11)
    rounds-late I =
        let e = rounds_11 bs r (length table) (length buffer) hold in_range roomy (none-meets (held-accepted G.held) I) in
        rw (I.table_kept, I.plan-kept) (rounds-kept e refl)

    pub rounds-short : {after : List ℤ} {bufferAfter : List ℕ} → NoColumn (tree_of n) (last_run r) s table after buffer bufferAfter
        → PlansRounds bs r table after buffer bufferAfter (rounds_refused 12)
    unfolding cleared
    rounds-short I =
        let C = columnless (held-accepted G.held) G.stages-are I in
        let e = rounds_12 bs r (length table) (length buffer) hold in_range roomy C.some-meets C.no_column in
        rw (I.cleared, I.plan-kept) (sym (rounds-refused bs r table buffer e))

    pub rounds-unplanned : {after : List ℤ} {bufferAfter : List ℕ} (why : Unplanned)
        → BestPlanned (tree_of n) (last_run r) s table after buffer bufferAfter (Err why)
        → PlansRounds bs r table after buffer bufferAfter (rounds_told (Err (refusal_of why)))
    rounds-unplanned Late I = rounds-late I
    rounds-unplanned Short I = rounds-short I

    module _ {k g v : ℕ} {after : List ℤ} {bufferAfter : List ℕ} (I : IsBest (tree_of n) (last_run r) s table after buffer bufferAfter k g v) where
      abbrev B : BestServed (held-accepted G.held) r (length table) k g v buffer bufferAfter
      B = best_of_net table buffer G I

      rounds-found : PlansRounds bs r table after buffer bufferAfter
          (record { refusal = 0; cost = cost n B.x; slack = slack n B.x; floor = g * v; rounds = max_rounds - k })
      rounds-found =
          let a = rounds_pass bs r (length table) (length buffer) hold in_range roomy B.some-meets B.some-column B.cheapest-here in
          rounds-done a B.floor-is B.rounds-are I.cleared B.after_is

      -- The answer with the cost and slack that judging gives.
      pub rounds-judged : {c : ℕ} {t : ℤ} → c ≡ cost n (take s bufferAfter) → t ≡ slack n (take s bufferAfter)
          → PlansRounds bs r table after buffer bufferAfter (record { refusal = 0; cost = c; slack = t; floor = g * v; rounds = max_rounds - k })
      rounds-judged ec et =
          rw (ec ∙ ap (cost n) (best-plan-here table buffer G I), et ∙ ap (slack n) (best-plan-here table buffer G I)) rounds-found

      -- The same of the plan that was found, as it is told.
      pub rounds-found-told : {x : JudgedPlan}
          → x ≡ record { cost = cost n (take s bufferAfter); slack = slack n (take s bufferAfter); k = k; floor = g * v }
          → PlansRounds bs r table after buffer bufferAfter (rounds_told (Ok x))
      rounds-found-told e = rw e (rounds-judged refl refl)
