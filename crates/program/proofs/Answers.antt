-- The program's line, by what planning and checking answer.
use mathlib.Core.Path.{◌≡◌, ap, ◌∙◌}
use mathlib.Core.List.{List}
use Prim.Native.Nat.{ℕ, ◌≤◌, ◌^◌}
use native.Mathlib.Omega.{arith}
use lib.ListN.{length, take}
use lib.IntN.{ℤ}
use Rattle.rules.specs.declared.Planned.{Planned}
use Rattle.rules.specs.declared.Checked.{Checked}
use Rattle.rules.specs.Bytes.{max_stages}
use Rattle.rules.specs.Tree.{Net, stages}
use Rattle.rules.specs.Grain.{max_exponent}
use Rattle.rules.specs.Reading.{accept, read, check}
use Rattle.rules.specs.Planning.{plan, plan_answer}
use Rattle.rules.specs.Program.{plan_line, refused_line, program_table, program_room, program_line}
use Rattle.facts.specs.Accepted.{accepted}
use Rattle.demands.specs.Values.{grain_in}
use Rattle.demands.specs.Program.{program_refused, ProgramChoice, program_accepted}

checked_stages : (bs : List ℕ) (n : Net) → read bs ≡ accept n → (check bs).stages ≡ stages n
unfolding check
checked_stages bs n e = cc

module _ (bs : List ℕ) (table : List ℤ) (buffer : List ℕ) (long : length table ≡ program_table) (room : length buffer ≡ program_room)
    (r : Planned) {after : List ℕ} {cleaned : List ℤ} (same : plan_answer r after cleaned ≡ plan bs 1 4 table buffer) where
  pub refused_program : 1 ≤ r.refusal → program_line bs ≡ refused_line r.refusal
  unfolding program_line
  refused_program one = let e = program_refused bs table buffer long room r same one in cc

  -- an accepted answer: the line of the choice that was settled, in the answer's numbers
  pub record Line : Type 0 where
    pub net : Net
    pub holds : read bs ≡ accept net
    pub k_in : r.k ≤ max_exponent
    pub plan-is : List ℕ
    pub taken_is : take (stages net) after ≡ plan-is
    pub line-is : program_line bs ≡ plan_line r.cost (2 ^ r.k) r.slack plan-is

  accepted-line : ProgramChoice bs table buffer long room r same → Line
  unfolding program_line
  accepted-line C = record {
    net = C.choice.net;
    holds = C.settled.holds;
    k_in = omega (arith, C.k-is, C.settled.exponent-is, grain_in (accepted bs C.choice.net C.settled.holds) 1 4 (omega arith));
    plan-is = C.choice.plan;
    taken_is = C.plan-here;
    line-is = cc (C.choice-is, C.cost-is, C.slack-is, C.k-is);
  }

  pub line_of : r.refusal ≡ 0 → Line
  line_of z = accepted-line (program_accepted bs table buffer long room r same z)

  module _ (L : Line) {counts : Checked} (told : counts ≡ check bs) where
    -- the stages that checking counts are those of the net
    pub stages-told : counts.stages ≡ stages L.net
    stages-told = ap (λ (x : Checked). x.stages) told ∙ checked_stages bs L.net L.holds

    pub stages-few : counts.stages ≤ max_stages
    stages-few = omega (arith, stages-told, (accepted bs L.net L.holds).few-stages)

    pub line-told : {g : ℕ} {t : ℤ} → g ≡ 2 ^ r.k → t ≡ r.slack → program_line bs ≡ plan_line r.cost g t (take counts.stages after)
    line-told eg et =
        let ex : take counts.stages after ≡ L.plan-is = ap (λ (s : ℕ). take s after) stages-told ∙ L.taken_is in
        rw (eg, et, ex) L.line-is
