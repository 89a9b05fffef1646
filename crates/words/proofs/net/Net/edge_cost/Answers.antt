-- `edge_cost` is right: it is the function over the array, for an array that holds a net.
use Rattle.words.specs.Net.{held}
use Rattle.words.proofs.net.Net.edge_cost.Goals as goal

pub edge_cost-requires : goal.edge_cost-requires
edge_cost-requires c = (_, _, held c.args.self.now.held, c.requires.0, c.requires.1, c.requires.2)
