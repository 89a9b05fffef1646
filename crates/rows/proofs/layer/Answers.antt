-- `layer` is right: a layer that can be paid and has a limit to keep is merged and spent at its rounded cost; any other is charged more than every budget.
use Rattle.std.proofs.Common.{to_z-of_z}
use Rattle.branches.proofs.Joins.{own_is}
use Rattle.rows.proofs.Layers.{branches_in, layer_dear, layer-late, spend_in, layer_spent}
use Rattle.rows.proofs.layer.Goals as goal

pub returns-then-width-c : goal.returns-then-width-c
returns-then-width-c c = layer_dear c.requires c.if-width-c.true

pub returns-then-own-early : goal.returns-then-own-early
returns-then-own-early c =
    let I = c.requires in
    layer-late I (own_is (branches_in I c.if-width-c.false)) (to_z-of_z c.ranges.early) c.if-own-early.true

pub branches-part-requires : goal.branches-part-requires
branches-part-requires c = branches_in c.requires c.if-width-c.false

pub spend-requires : goal.spend-requires
spend-requires c =
    spend_in c.requires c.if-width-c.false c.branches-part.ensures c.widen-wide.ensures

pub returns : goal.returns
returns c =
    let J = rw (to_z-of_z c.ranges.late) at c.branches-part.ensures in
    layer_spent c.requires c.if-width-c.false J c.widen-wide.ensures c.spend.ensures
