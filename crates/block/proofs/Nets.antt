-- What a net of the block adds, by what reading and planning answered for it.
use mathlib.Core.Path.{◌≡◌, ap, sym, ◌∙◌, subst}
use mathlib.Core.Bool.{Bool, true}
use mathlib.Core.List.{List}
use Prim.Native.Nat.{ℕ, ◌≤◌, ◌<◌}
use native.Mathlib.Omega.{arith}
use lib.Dec.{eqb}
use lib.ListN.{length, take}
use lib.IntN.{ℤ}
use Rattle.laws.specs.Booleans.{and_right}
use Rattle.rules.specs.declared.Planned.{Planned}
use Rattle.rules.specs.Tree.{Net, stages, is_plan, are_layers}
use Rattle.rules.specs.Timing.{cost}
use Rattle.rules.specs.Grain.{grain_exponent}
use Rattle.rules.specs.Reading.{accept, refuse, read}
use Rattle.rules.specs.Program.{program_table, program_room, program_planned}
use Rattle.rules.specs.Block.{net_numbers}
use Rattle.facts.specs.Answers.{accept_injective, turned_refused}
use Rattle.facts.specs.Refusals.{read-numbered}
use Rattle.demands.specs.Plans.{plan-length}
use Rattle.demands.specs.Demand2.{chosen_is}
use Rattle.demands.specs.Call.{planned-numbered, unread-refused}
use Rattle.demands.specs.Program.{program_refused, ProgramChoice, program_accepted}
use Rattle.reader.specs.Net.{counts_of, counts, NetRead}
use Rattle.std.specs.Prelude.{Ok, Err}
use Rattle.rules.specs.declared.Refusal.{Refusal}
use Rattle.rules.specs.Refusals.{number_of}
use Rattle.reader.specs.declared.NetCounts.{NetCounts}
use Rattle.reader.specs.Kept.{Kept, held-read}
use Rattle.words.specs.Words.{word_count, net_in}
use Rattle.words.specs.Net.{held}
use Rattle.words.specs.declared.net.Net as words
use Rattle.tree.specs.Plans.{Fitting, fitting}
use Rattle.planning.specs.Calls.{Admitted, PlansNet}

-- a refused net, with its number
pub record Refused (bs : List ℕ) (r : ℕ) : Type 0 where
  pub number_is : program_planned bs ≡ refuse r
  pub number-low : r < net_numbers

-- one that reading refuses
pub unread : {bs w : List ℕ} {keep : Bool} {why : Refusal} → NetRead bs keep (Err why) w → Refused bs (number_of why)
unfolding counts
unread {bs} {why = why} R =
    let e = turned_refused (read bs) counts_of R.answer in
    record { number_is = unread-refused bs 1 4 program_table program_room e; number-low = omega (arith, (read-numbered bs).low (number_of why) e) }

-- what reading leaves of one that is read, as the struct made of its array has it
pub kept-net : {bs w : List ℕ} {n : NetCounts} (net : words.Net) → NetRead bs true (Ok n) w → length w ≡ word_count → net.words.now ≡ w
    → Kept bs net.words.now net.nodes n.stages net.layers
kept-net net R long e =
    let K = held-read R long in
    record { holds = rw e K.holds; held = held net.held; stages-are = rw e K.stages-are }

-- one that is read may be planned as the program plans
pub admitted-net : {bs w : List ℕ} {nodes s layers : ℕ} → Kept bs w nodes s layers → Admitted w nodes layers s 1 4 program_room
admitted-net K = record {
  held = K.held;
  stages-are = K.stages-are;
  share = record { most = omega arith; some-part = omega arith; parts = omega arith };
  room-enough = omega (arith, K.stages-are, K.held.accepted.few-stages);
}

-- its plan is no longer than the buffer
pub inside-buffer : {bs w : List ℕ} {nodes s layers room : ℕ} → Kept bs w nodes s layers → room ≡ program_room → s ≤ room
inside-buffer K e = omega (arith, K.stages-are, K.held.accepted.few-stages)

module _ (bs : List ℕ) (table : List ℤ) (buffer : List ℕ) (long : length table ≡ program_table) (room : length buffer ≡ program_room)
    (r : Planned) {after : List ℕ} {cleaned : List ℤ} (P : PlansNet bs 1 4 table cleaned buffer after r) where
  -- one that planning refuses
  pub not-planned : 1 ≤ r.refusal → Refused bs r.refusal
  not-planned h =
      let e = program_refused bs table buffer long room r P h in
      record { number_is = e; number-low = omega (arith, (planned-numbered bs 1 4 program_table program_room).low r.refusal e) }

  -- a planned net n, with plan x
  pub record PlannedNet (n : Net) (x : List ℕ) : Type 0 where
    pub k : ℕ
    pub choice-is : program_planned bs ≡ accept (record { net = n; k = k; plan = x })
    pub fits : Fitting n x
    pub cost-is : r.cost ≡ cost n x

  -- the choice that was settled is such a net
  chosen-net : (C : ProgramChoice bs table buffer long room r P) → PlannedNet C.choice.net C.choice.plan
  unfolding is_plan
  chosen-net C =
      let n = C.choice.net in
      let x = C.choice.plan in
      let is = (chosen_is n (grain_exponent n 1 4) x C.settled.chosen-here).is-plan in
      record {
        k = C.choice.k;
        choice-is = C.choice-is;
        fits = fitting x (plan-length n x is) (and_right (eqb (length x) (stages n)) (are_layers n x) is);
        cost-is = C.cost-is;
      }

  -- one that is planned: the net that was read, with the plan at the front of the buffer
  pub is-planned : {w : List ℕ} {nodes s layers : ℕ} → Kept bs w nodes s layers → r.refusal ≡ 0 → PlannedNet (net_in w) (take s after)
  is-planned {w} {s = s} K z =
      let C = program_accepted bs table buffer long room r P z in
      let e : C.choice.net ≡ net_in w = accept_injective (sym C.settled.holds ∙ K.holds) in
      let h : C.choice.plan ≡ take s after = sym C.plan-here ∙ ap (λ (m : ℕ). take m after) (ap stages e ∙ sym K.stages-are) in
      subst (λ (n : Net). PlannedNet n (take s after)) e (subst (PlannedNet C.choice.net) h (chosen-net C))
