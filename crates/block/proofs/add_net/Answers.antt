-- `add_net` is right: reading and planning answer for the net as the definition does, and their answer is added.
use mathlib.Core.Path.{ap, sym, ◌∙◌}
use native.Mathlib.Omega.{arith}
use lib.Seq.{length-take-le}
use Prim.Native.Nat.{ℕ}
use Rattle.rules.specs.Reading.{refuse}
use Rattle.demands.specs.Totals.{plus}
use Rattle.reader.specs.Kept.{held-read}
use Rattle.block.proofs.Nets.{unread, kept-net, admitted-net, inside-buffer, not-planned, is-planned}
use Rattle.block.proofs.add_net.Goals as goal

pub add_refused-requires : goal.add_refused-requires
add_refused-requires c = (c.requires.0, rw c.from.ensures (unread c.in-Err.ensures).number-low)

pub returns-in-Err : goal.returns-in-Err
returns-in-Err c =
    c.add_refused.ensures ∙ ap (λ (r : ℕ). plus c.args.sums (refuse r)) c.from.ensures ∙ ap (plus c.args.sums) (sym (unread c.in-Err.ensures).number_is)

pub of-net-requires : goal.of-net-requires
of-net-requires c = (_, _, (held-read c.in-Ok.ensures (c.read.auto.words ∙ c.requires.1)).held)

pub plan_net-answer-requires : goal.plan_net-answer-requires
plan_net-answer-requires c = rw c.requires.3 (admitted-net (kept-net c.of-net.result c.in-Ok.ensures (c.read.auto.words ∙ c.requires.1) c.of-net.ensures.0))

pub add_refused-requires-then-answer-ne0 : goal.add_refused-requires-then-answer-ne0
add_refused-requires-then-answer-ne0 c =
    let K = kept-net c.of-net.result c.in-Ok.ensures (c.read.auto.words ∙ c.requires.1) c.of-net.ensures.0 in (
      c.requires.0,
      (not-planned _ _ _ c.requires.2 c.requires.3 c.plan_net-answer.result (c.plan_net-answer.ensures _ K.holds) (omega arith)).number-low,
    )

pub returns-then-answer-ne0 : goal.returns-then-answer-ne0
returns-then-answer-ne0 c =
    let K = kept-net c.of-net.result c.in-Ok.ensures (c.read.auto.words ∙ c.requires.1) c.of-net.ensures.0 in
    let R = not-planned _ _ _ c.requires.2 c.requires.3 c.plan_net-answer.result (c.plan_net-answer.ensures _ K.holds) (omega arith) in
    c.add_refused-then-answer-ne0.ensures ∙ ap (plus c.args.sums) (sym R.number_is)

pub slice_bounds-add_planned-end : goal.slice_bounds-add_planned-end
slice_bounds-add_planned-end c =
    inside-buffer (held-read c.in-Ok.ensures (c.read.auto.words ∙ c.requires.1)) (c.plan_net-answer.auto.plan ∙ c.requires.3)

pub slice_bounds-add_planned-end-2 : goal.slice_bounds-add_planned-end-2
slice_bounds-add_planned-end-2 c =
    sym (length-take-le _ _
    (inside-buffer (held-read c.in-Ok.ensures (c.read.auto.words ∙ c.requires.1)) (c.plan_net-answer.auto.plan ∙ c.requires.3)))

pub add_planned-requires : goal.add_planned-requires
add_planned-requires c =
    let K = kept-net c.of-net.result c.in-Ok.ensures (c.read.auto.words ∙ c.requires.1) c.of-net.ensures.0 in
    let T = is-planned _ _ _ c.requires.2 c.requires.3 c.plan_net-answer.result (c.plan_net-answer.ensures _ K.holds) K (omega arith) in
    (c.requires.0, T.fits, T.cost-is)

pub returns : goal.returns
returns c =
    let K = kept-net c.of-net.result c.in-Ok.ensures (c.read.auto.words ∙ c.requires.1) c.of-net.ensures.0 in
    let T = is-planned _ _ _ c.requires.2 c.requires.3 c.plan_net-answer.result (c.plan_net-answer.ensures _ K.holds) K (omega arith) in
    c.add_planned.ensures T.k ∙ ap (plus c.args.sums) (sym T.choice-is)
