-- `answer_line` is right: a refusal prints its number, and an accepted answer is the choice of the definition, whose numbers the line takes.
use borrow.Author.Rules.{rules}
use mathlib.Core.Path.{◌≡◌, refl, sym}
use native.Mathlib.Omega.{arith}
use lib.ListN.{length}
use lib.Seq.{length-take-le}
use mir.Syntax.{w64}
use mir.Val.{SFits}
use mir.Facts.{to_z-of_z}
use Rattle.program.proofs.Answers.{refused_program, line_of, stages-few, line-told}
use Rattle.program.proofs.answer_line.Goals as goal

pub returns-then-answer-ne0 : goal.returns-then-answer-ne0
returns-then-answer-ne0 c =
    let line = c.refused_line.ensures in
    rw (refused_program _ _ _ refl refl c.plan-answer.result c.plan-answer.ensures.equation (omega arith))
    (record { value = line.value; out_after = line.out_after; prefix_len = line.prefix_len })

pub grain-g-requires : goal.grain-g-requires
grain-g-requires c = (line_of _ _ _ refl refl c.plan-answer.result c.plan-answer.ensures.equation (omega arith)).k_in

pub slice_bounds-plan-end-3 : goal.slice_bounds-plan-end-3
slice_bounds-plan-end-3 c =
    let same = c.plan-answer.ensures.equation in
    let few = stages-few _ _ _ refl refl c.plan-answer.result same (line_of _ _ _ refl refl c.plan-answer.result same (omega arith)) c.check-counts.ensures in
    let long : length c.plan-answer.new.buffer ≡ 64 = c.plan-answer.auto.buffer in
    omega (arith, few)

pub slice_bounds-plan_line-end : goal.slice_bounds-plan_line-end
slice_bounds-plan_line-end c =
    let same = c.plan-answer.ensures.equation in
    let few = stages-few _ _ _ refl refl c.plan-answer.result same (line_of _ _ _ refl refl c.plan-answer.result same (omega arith)) c.check-counts.ensures in
    let long : length c.plan-answer.new.buffer ≡ 64 = c.plan-answer.auto.buffer in
    sym (length-take-le _ _ (omega (arith, few)))

pub returns : goal.returns
returns c =
    let same = c.plan-answer.ensures.equation in
    let chosen = line_of _ _ _ refl refl c.plan-answer.result same (omega arith) in
    let line = c.plan_line.ensures in
    let fits : SFits w64 c.plan-answer.result.slack = search rules in
    rw (line-told _ _ _ refl refl c.plan-answer.result same chosen c.check-counts.ensures c.grain-g.ensures (to_z-of_z fits))
    (record { value = line.value; out_after = line.out_after; prefix_len = line.prefix_len })
