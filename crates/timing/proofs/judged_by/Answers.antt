-- `judged_by` is right: the delays under the plan, its cost and its slack are those of the rules; each is found by the table that it needs.
use Rattle.tree.specs.Staged.{with_edges, with_wires}
use Rattle.timing.proofs.judged_by.Goals as goal

pub invariant_of-wires : goal.invariant_of-wires
invariant_of-wires c = record { staged = with_wires c.args.staged.now.staged }

pub invariant_of-edges : goal.invariant_of-edges
invariant_of-edges c = record { staged = with_edges c.args.staged.now.staged }
