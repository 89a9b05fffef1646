-- `numbers` is right: delays, drivers, limits and costs are those of the tree of stages; each is found by the tables that it needs.
use Rattle.tree.specs.Staged.{with_edges, with_wires}
use Rattle.planning.proofs.numbers.Goals as goal

pub invariant_of-wires : goal.invariant_of-wires
invariant_of-wires c = record { staged = with_wires c.args.staged.now.staged }

pub invariant_of-edges : goal.invariant_of-edges
invariant_of-edges c = record { staged = with_edges c.args.staged.now.staged }
