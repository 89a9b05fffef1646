-- An answer of planning with the program's share, table and plan buffer (01, Program), in terms of `program_planned`: for the program's line, and for the
-- report over a block.
use Rattle.std.specs.Prelude.{◌≡◌, refl, List, ℕ, ◌+◌, ◌*◌, ◌≤◌, length, take, ℤ}
use Rattle.std.proofs.Common.{ap, ◌∙◌, arith, mul-le-mul}
use Rattle.rules.specs.declared.Planned.{Planned}
use Rattle.rules.specs.Tree.{Net, stages}
use Rattle.rules.specs.Timing.{cost, slack}
use Rattle.rules.specs.Reading.{accept, refuse, read}
use Rattle.rules.specs.Planning.{Choice, PlanAnswer, planned, plan, plan_answer}
use Rattle.rules.specs.Program.{program_table, program_room, program_planned}
use Rattle.facts.specs.Accepted.{accepted}
use Rattle.oracle.specs.Rounding.{divided_up}
use Rattle.demands.specs.Columns.{columns-enough}
use Rattle.demands.specs.Call.{Settled, choice-settled, not_short, accepted-choice, number-refused, plan-accepted, plan-taken}

-- How large a net the program's table always serves: with at most 29 stages it is not refused with 12, because 9 × 29 columns of 31 entries are 8,091.
pub program_never-short : (bs : List ℕ) (n : Net) → read bs ≡ accept n → stages n ≤ 29 → program_planned bs ≡ refuse 12 → ⊥
program_never-short bs n h few =
    let wide : stages n + divided_up (2 * 4 * stages n) 1 ≤ 261 = omega arith in
    let tall : stages n + 2 ≤ 31 = omega arith in
    let long : (stages n + divided_up (2 * 4 * stages n) 1) * (stages n + 2) ≤ 261 * 31 = mul-le-mul wide tall in
    not_short bs 1 4 program_table program_room h (columns-enough (accepted bs n h) 1 4 (omega arith) program_table (omega (arith, long)))

module _ (bs : List ℕ) (table : List ℤ) (buffer : List ℕ) (long : length table ≡ program_table) (room : length buffer ≡ program_room)
    (r : Planned) {after : List ℕ} {cleaned : List ℤ} (same : plan_answer r after cleaned ≡ plan bs 1 4 table buffer) where
  -- A refusal is that of the definition.
  pub program_refused : 1 ≤ r.refusal → program_planned bs ≡ refuse r.refusal
  program_refused h = rw (long, room) at (number-refused bs 1 4 table buffer r same refl h)

  -- An accepted answer: the choice that was settled, in the answer's numbers, with its plan at the front of the buffer.
  pub record ProgramChoice : Type 0 where
    pub choice : Choice
    pub choice-is : program_planned bs ≡ accept choice
    pub settled : Settled bs 1 4 (length table) (length buffer) choice
    pub cost-is : r.cost ≡ cost choice.net choice.plan
    pub slack-is : r.slack ≡ slack choice.net choice.plan
    pub k-is : r.k ≡ choice.k
    pub plan-here : take (stages choice.net) after ≡ choice.plan

  taken : (c : Choice) → planned bs 1 4 (length table) (length buffer) ≡ accept c → ProgramChoice
  taken c e =
      let S = choice-settled bs 1 4 (length table) (length buffer) e in
      let a = same ∙ plan-accepted bs 1 4 table buffer e in
      record {
        choice = c;
        choice-is = rw (long, room) at e;
        settled = S;
        cost-is = ap (λ (x : PlanAnswer). x.cost) a;
        slack-is = ap (λ (x : PlanAnswer). x.slack) a;
        k-is = ap (λ (x : PlanAnswer). x.k) a;
        plan-here = (plan-taken bs 1 4 table buffer r same c.net S.holds c e).1;
      }

  pub program_accepted : r.refusal ≡ 0 → ProgramChoice
  program_accepted z = let (c, e) = accepted-choice bs 1 4 table buffer r same z in taken c e
