-- What planning a net is given and gives: the answer of 01, and the buffer and the table it leaves.
use Rattle.std.specs.Prelude.{◌≡◌, refl, true, false, ◌&&◌, List, ◌++◌, ℕ, ◌*◌, ◌≤◌, leb, eqb, length, take, drop, replicate, ℤ, pos, Result, Ok, Err}
use Rattle.std.proofs.Common.{ap, sym, ◌∙◌, arith, le-leb, to_z, of_z, to_z-of_z, FitsSigned}
use Rattle.std.specs.Int.{w64}
use Rattle.laws.specs.Booleans.{and_right}
use Rattle.laws.specs.Basic.{within}
use Rattle.rules.specs.declared.Planned.{Planned}
use Rattle.rules.specs.declared.Judged.{Judged}
use Rattle.rules.specs.declared.Refusal.{Refusal}
use Rattle.rules.specs.Refusals.{number_of}
use Rattle.rules.specs.Tree.{Net, stages, is_plan, are_layers}
use Rattle.rules.specs.Timing.{cost, slack}
use Rattle.rules.specs.Grain.{floor}
use Rattle.rules.specs.Reading.{accept, refuse, read}
use Rattle.rules.specs.Planning.{max_share, Choice, planned, cleared, plan, plan_answer}
use Rattle.facts.specs.Accepted.{Accepted}
use Rattle.facts.specs.Fits.{slack-fits, fits_signed}
use Rattle.words.specs.Words.{net_in}
use Rattle.words.specs.Held.{Held, held-accepted}
use Rattle.tree.specs.Plans.{Fitting, fitting}
use Rattle.demands.specs.StageNumbers.{tree_of}
use Rattle.demands.specs.Plans.{plan-length}
use Rattle.demands.specs.Call.{share_in, all-late, all_pass, refused_with, plan-accepted, plan-refused}
use Rattle.slices.specs.Laid.{Laid}
use Rattle.rounds.specs.Problem.{Problem}
use Rattle.search.specs.Planned.{IsLate, IsShort, IsFound}
use Rattle.search.specs.Planned as search
use Rattle.search.specs.declared.Unplanned.{Unplanned}
use Rattle.search.specs.declared.Unplanned.TheVariants.{Late, Short}
use Rattle.planning.specs.declared.JudgedPlan.{JudgedPlan}
use Rattle.planning.specs.Outcomes.{problem_of, none-meets, too_short, served, Served, TooShort, floor-is}

-- A share in its range (refusal 9).
pub record Share (p q : ℕ) : Type 0 where
  pub most : p ≤ max_share
  pub some-part : 1 ≤ q
  pub parts : q ≤ max_share

-- What is known past refusals 1 to 10: the array holds a net, the share is in its range, the plan buffer has room.
pub record Admitted (w : List ℕ) (nodes layers s p q room : ℕ) : Type 0 where
  pub held : Held w nodes layers
  pub stages-are : s ≡ stages (net_in w)
  pub share : Share p q
  pub room-enough : s ≤ room

-- The search's problem, from the numbers of the net.
pub problem_in : {w : List ℕ} {nodes layers s p q room : ℕ} → Admitted w nodes layers s p q room → {driver wire : List ℕ} {limit : List ℤ} {costs : List ℕ}
    → Laid (tree_of (net_in w)) driver wire limit costs → {a : ℤ} → a ≡ (net_in w).driver.arrival
    → Problem (tree_of (net_in w)) driver wire limit costs s layers a p q
problem_in G laid e =
    problem_of (held-accepted G.held) laid G.stages-are G.held.layers-are e G.share.most G.share.some-part G.share.parts

-- The arrival time as the search has it.
pub arrival-sent : {t a : ℤ} → FitsSigned w64 t → t ≡ a → to_z w64 (of_z w64 t) ≡ a
arrival-sent f e = to_z-of_z f ∙ e

-- The answer with what it leaves in table and buffer is that of 01.
abbrev pub PlansNet : List ℕ → ℕ → ℕ → List ℤ → List ℤ → List ℕ → List ℕ → Planned → Type 0
PlansNet bs p q table tableAfter buffer bufferAfter r = plan_answer r bufferAfter tableAfter ≡ plan bs p q table buffer

-- The answer: the plan found with refusal 0, or the refusal's number and zeros.
abbrev pub told : Result JudgedPlan Refusal → Planned
told (Ok x) = record { refusal = 0; cost = x.cost; slack = x.slack; k = x.k; floor = x.floor }
told (Err why) = refused_with (number_of why)

share-passes : {p q : ℕ} → Share p q → leb p max_share && within 1 max_share q ≡ true
share-passes {p} {q} S = share_in p q S.most S.some-part S.parts

-- What is a plan of the net is one as code holds it, ..
pub plan-fitting : {n : Net} {x y : List ℕ} → is_plan n x ≡ true → y ≡ x → Fitting n y
unfolding is_plan
plan-fitting {n} {x} p e = rw e (fitting x (plan-length n x p) (and_right (eqb (length x) (stages n)) (are_layers n x) p))

-- .. and the slack that judging tells of it is its slack, which fits.
pub slack-told : {n : Net} → Accepted n → (x : List ℕ) {j : Judged} → j ≡ record { refusal = 0; cost = cost n x; slack = slack n x }
    → to_z w64 (of_z w64 j.slack) ≡ slack n x
slack-told {n} A x e = ap (λ (j : Judged). to_z w64 (of_z w64 j.slack)) e ∙ to_z-of_z (fits_signed (slack n x) (slack-fits A x))

-- What the search found, for the net in an array: the plan that 01 chooses.
module _ {w : List ℕ} {nodes layers s p q : ℕ} (table : List ℤ) (buffer : List ℕ) (G : Admitted w nodes layers s p q (length buffer))
    {k g v : ℕ} {after : List ℤ} {bufferAfter : List ℕ} (I : IsFound (tree_of (net_in w)) p q s table after buffer bufferAfter k g v) where
  pub served-net : Served (held-accepted G.held) p q (length table) k g v buffer bufferAfter
  served-net = served (held-accepted G.held) G.stages-are I

  pub plan-here : take s bufferAfter ≡ served-net.x
  plan-here = ap (λ (i : ℕ). take i bufferAfter) G.stages-are ∙ served-net.taken_is

  -- What the plan buffer then opens with is a plan of the net.
  pub plan-fits : Fitting (net_in w) (take s bufferAfter)
  plan-fits = plan-fitting served-net.is-plan plan-here

module _ (bs : List ℕ) (p q : ℕ) (table : List ℤ) (buffer : List ℕ) where
  -- A refusal other than 12 leaves buffer and table as they were.
  pub kept-answer : {r : ℕ} → planned bs p q (length table) (length buffer) ≡ refuse r → eqb r 12 ≡ false
      → PlansNet bs p q table table buffer buffer (refused_with r)
  kept-answer e d = sym (rw d at (plan-refused bs p q table buffer e))

  plan-done : {c : Choice} {k f : ℕ} {after : List ℤ} {bufferAfter : List ℕ} → planned bs p q (length table) (length buffer) ≡ accept c → k ≡ c.k
      → f ≡ floor c.net c.k → after ≡ replicate (length table) (pos 0) → bufferAfter ≡ c.plan ++ drop (length c.plan) buffer
      → plan_answer (record { refusal = 0; cost = cost c.net c.plan; slack = slack c.net c.plan; k = k; floor = f }) bufferAfter after
      ≡ plan bs p q table buffer
  unfolding cleared
  plan-done e ek ef et eb = rw (ek, ef, et, eb) (sym (plan-accepted bs p q table buffer e))

  module _ {w : List ℕ} {nodes layers s : ℕ} (G : Admitted w nodes layers s p q (length buffer)) (hold : read bs ≡ accept (net_in w)) where
    abbrev n : Net
    n = net_in w

    room-passes : leb (stages n) (length buffer) ≡ true
    room-passes = le-leb (stages n) (length buffer) (omega (arith, G.room-enough, G.stages-are))

    planned_12 : TooShort {n = n} (held-accepted G.held) p q (length table) → planned bs p q (length table) (length buffer) ≡ refuse 12
    unfolding planned
    planned_12 S = simp (hold, share-passes G.share, room-passes, S.some-meets, S.few)

    -- The answers, by the outcome of the search.
    pub late-answer : {after : List ℤ} {bufferAfter : List ℕ} → IsLate (tree_of n) table after buffer bufferAfter
        → PlansNet bs p q table after buffer bufferAfter (refused_with 11)
    late-answer I =
        let e = all-late bs p q (length table) (length buffer) hold (share-passes G.share) room-passes (none-meets (held-accepted G.held) I) in
        rw (I.table_kept, I.plan-kept) (kept-answer e refl)

    pub short-answer : {after : List ℤ} {bufferAfter : List ℕ} → IsShort (tree_of n) p q s table after buffer bufferAfter
        → PlansNet bs p q table after buffer bufferAfter (refused_with 12)
    unfolding cleared
    short-answer I =
        let e = planned_12 (too_short (held-accepted G.held) G.stages-are I) in
        rw (I.cleared, I.plan-kept) (sym (plan-refused bs p q table buffer e))

    pub unplanned-answer : {after : List ℤ} {bufferAfter : List ℕ} (why : Unplanned) → search.Planned (tree_of n) p q s table after buffer bufferAfter (Err why)
        → PlansNet bs p q table after buffer bufferAfter (told (Err (search.refusal_of why)))
    unplanned-answer Late I = late-answer I
    unplanned-answer Short I = short-answer I

    module _ {k g v : ℕ} {after : List ℤ} {bufferAfter : List ℕ} (I : IsFound (tree_of n) p q s table after buffer bufferAfter k g v) where
      abbrev pub F : Served (held-accepted G.held) p q (length table) k g v buffer bufferAfter
      F = served-net table buffer G I

      pub found-answer : PlansNet bs p q table after buffer bufferAfter
          (record { refusal = 0; cost = cost n F.x; slack = slack n F.x; k = k; floor = g * v })
      found-answer =
          let a = all_pass bs p q (length table) (length buffer) hold (share-passes G.share) room-passes F.some-meets F.enough F.chosen-here in
          plan-done a F.exponent-is (floor-is (held-accepted G.held) F) I.cleared F.after_is

      -- The answer with the cost and slack that judging gives.
      pub found-judged : {c : ℕ} {t : ℤ} → c ≡ cost n (take s bufferAfter) → t ≡ slack n (take s bufferAfter)
          → PlansNet bs p q table after buffer bufferAfter (record { refusal = 0; cost = c; slack = t; k = k; floor = g * v })
      found-judged ec et = rw (ec ∙ ap (cost n) (plan-here table buffer G I), et ∙ ap (slack n) (plan-here table buffer G I)) found-answer

      -- The same of the plan that was found, as it is told.
      pub found-told : {x : JudgedPlan}
          → x ≡ record { cost = cost n (take s bufferAfter); slack = slack n (take s bufferAfter); k = k; floor = g * v }
          → PlansNet bs p q table after buffer bufferAfter (told (Ok x))
      found-told e = rw e (found-judged refl refl)
