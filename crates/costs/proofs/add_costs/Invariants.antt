-- `add_costs` is right: before layer l the table has the edge's costs on the layers below l added to those of its stage.
use Rattle.rules.specs.Bytes.{max_layers}
use Rattle.words.specs.Words.{net_in}
use Rattle.slices.specs.Rows.{Setting}
use Rattle.costs.specs.Adding.{cost_with}
use Rattle.costs.proofs.add_costs.Given as goal

abbrev pub invariant-loop-l : goal.invariant-loop-l
invariant-loop-l l = Setting 0 max_layers l.initial.costs l.costs l.t l.net.layers l.l (cost_with (net_in l.net.words.now) l.j l.t l.initial.costs)
