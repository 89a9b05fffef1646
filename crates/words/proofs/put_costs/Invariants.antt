-- `put_costs` is right: before layer l the row has the costs on the layers below l, and they are in their range.
use Rattle.words.proofs.Cells.{Costing}
use Rattle.words.proofs.put_costs.Given as goal

abbrev pub invariant-loop-l : goal.invariant-loop-l
invariant-loop-l l = Costing l.net l.layers l.at l.initial.words l.words l.j l.l
