-- `put_layers` is right: before layer l the array has the layers below l, and they are in their ranges.
use Rattle.words.proofs.Layers.{layering_start, layering_no, layering_more, layering_end}
use Rattle.words.proofs.put_layers.Goals as goal

pub loop-l-init : goal.loop-l-init
loop-l-init c = layering_start _ _ _ _ _

pub returns-then-not-put_layer : goal.returns-then-not-put_layer
returns-then-not-put_layer c =
    layering_no c.loop-l.invariant c.loop-l-test.true c.layer_size-each.ensures c.put_layer.ensures c.if-not-put_layer.true

pub loop-l-preserved : goal.loop-l-preserved
loop-l-preserved c =
    layering_more c.loop-l.invariant c.loop-l-test.true c.layer_size-each.ensures c.put_layer.ensures c.requires.0
    c.put_layer.auto.words c.if-not-put_layer.false

pub returns : goal.returns
returns c = layering_end c.loop-l.invariant c.loop-l-test.false
