-- `node` is right: it is the function over the array, for an array that holds a net.
use Rattle.words.specs.Net.{held}
use Rattle.words.proofs.net.Net.node.Goals as goal

pub node_at-requires : goal.node_at-requires
node_at-requires c = (_, _, held c.args.self.now.held, c.requires.0, c.requires.1)
