-- What judging answers, by the refusals in their order, from what the reader gave.
use mathlib.Core.Path.{◌≡◌, refl, sym, ◌∙◌}
use mathlib.Core.Bool.{Bool, true, false}
use mathlib.Core.List.{List}
use Prim.Native.Nat.{ℕ}
use lib.ListN.{length}
use lib.IntN.{pos}
use borrow.Author.Tests.{eq-eqb, ne_eqb}
use Rattle.std.specs.Prelude.{Ok, Err}
use Rattle.rules.specs.declared.Refusal.{Refusal}
use Rattle.rules.specs.declared.Refusal.TheVariants as refusal
use Rattle.rules.specs.Tree.{Net, stages, are_layers}
use Rattle.rules.specs.Timing.{cost, slack}
use Rattle.rules.specs.Reading.{accept, refuse, read}
use Rattle.rules.specs.Judging.{judged, judge}
use Rattle.rules.specs.Refusals.{number_of}
use Rattle.facts.specs.Answers.{turned_refused}
use Rattle.reader.specs.Net.{counts_of, counts, NetRead}
use Rattle.reader.specs.declared.NetCounts.{NetCounts}
use Rattle.reader.specs.Kept.{Kept}
use Rattle.words.specs.Words.{net_in}
use Rattle.tree.specs.Plans.{fitting}
use Rattle.judging.specs.Plans.{PlanOfNet}

module _ (bs x : List ℕ) {w : List ℕ} where
  plan-refused : {why : Refusal} → judged bs x ≡ refuse (number_of why) → PlanOfNet bs x (Err why) w
  plan-refused e = record { answer = sym e; held = tt; fits = tt }

  pub judging-unread : {why : Refusal} {keep : Bool} → NetRead bs keep (Err why) w → PlanOfNet bs x (Err why) w
  unfolding judged counts
  judging-unread R = let e = turned_refused (read bs) counts_of R.answer in plan-refused (rw e refl)

  module _ {n : NetCounts} (K : Kept bs w n.nodes n.stages n.layers) where
    pub plan_7 : (length x ≡ n.stages → ⊥) → PlanOfNet bs x (Err refusal.WrongStages) w
    unfolding judged
    plan_7 d = plan-refused (simp (K.holds, ne_eqb (length x) (stages (net_in w)) (λ e. d (e ∙ sym K.stages-are))))

    module _ (e : length x ≡ n.stages) {b : Bool} (told : b ≡ are_layers (net_in w) x) where
      pub plan_8 : b ≡ false → PlanOfNet bs x (Err refusal.WrongLayer) w
      unfolding judged
      plan_8 a = plan-refused (simp (K.holds, eq-eqb (length x) (stages (net_in w)) (e ∙ K.stages-are), sym told ∙ a))

      pub plan-there : b ≡ true → PlanOfNet bs x (Ok n) w
      unfolding judged
      plan-there a = record {
        answer = sym (simp (K.holds, eq-eqb (length x) (stages (net_in w)) (e ∙ K.stages-are), sym told ∙ a));
        held = K.held;
        fits = fitting x (e ∙ K.stages-are) (sym told ∙ a);
      }

-- what judging answers for it
module _ (bs x : List ℕ) where
  pub judge-refused : {r : ℕ} → refuse r ≡ judged bs x → record { refusal = r; cost = 0; slack = pos 0 } ≡ judge bs x
  unfolding judge
  judge-refused e = rw (← e, judge) refl

  pub judge-done : {n : Net} → accept n ≡ judged bs x → record { refusal = 0; cost = cost n x; slack = slack n x } ≡ judge bs x
  unfolding judge
  judge-done e = rw (← e, judge) refl
