-- `stage_row` is right: the row is the best of the layers before l; raised and cut it is the band of the stage.
use Rattle.std.proofs.Common.{refl, arith, to_z-of_z}
use Rattle.rows.proofs.Stages.{layer-asks, layer-more, layer_end}
use Rattle.rows.proofs.stage_row.Goals as goal

pub layer-top-requires : goal.layer-top-requires
layer-top-requires c = layer-asks c.loop-l.invariant (omega arith)

pub loop-l-preserved : goal.loop-l-preserved
loop-l-preserved c = layer-more c.loop-l.invariant (omega arith) refl refl c.layer-top.ensures

pub returns : goal.returns
returns c =
    let early = to_z-of_z c.ranges.early in
    let late = to_z-of_z c.ranges.late in
    layer_end (rw (early, late) at c.loop-l.invariant) early late (omega arith) c.raise.ensures c.cut.ensures
