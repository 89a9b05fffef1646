-- `read_plan` is right: what is read so far and what the definition reads from the times now are the whole plan.
use borrow.Author.Rules.{rules}
use mathlib.Core.Path.{◌≡◌}
use lib.ListN.{length-set}
use mir.Syntax.{w64}
use mir.Val.{to_z, of_z}
use Rattle.slices.specs.Laid.{time_at}
use Rattle.readoff.proofs.Plan.{reading-start, reading-near, push_in, reading-more}
use Rattle.readoff.proofs.read_plan.Goals as goal

pub loop-i-init : goal.loop-i-init
loop-i-init c =
    let a = c.args.tree.now.arrival in
    let same : to_z w64 (of_z w64 a) ≡ a = search rules in
    rw same (reading-start c.args.times.now c.requires.tree c.requires.sized c.requires.times_long)

pub layer_for-l-requires : goal.layer_for-l-requires
layer_for-l-requires c =
    let P = c.requires in
    let h = c.loop-i-test.true in
    let t = time_at c.loop-i.times c.loop-i.i in
    let same : to_z w64 (of_z w64 t) ≡ t = search rules in
    ((P.tree, P.sized, P.layers-are), h, rw same (reading-near c.loop-i.invariant h P.tree P.sized P.layers-are P.arrival-is))

pub push-requires : goal.push-requires
push-requires c =
    let P = c.requires in
    push_in c.loop-i.invariant c.loop-i-test.true P.tree P.sized P.layers-are P.arrival-is (simp length-set P.times_long) c.layer_for-l.ensures.most

pub loop-i-preserved : goal.loop-i-preserved
loop-i-preserved c =
    let t = time_at c.loop-i.times c.loop-i.i in
    let same : to_z w64 (of_z w64 t) ≡ t = search rules in
    reading-more c.loop-i.invariant c.loop-i-test.true (rw same at c.layer_for-l.ensures) c.push.ensures c.requires.plan-long c.push.auto.times
