-- `arrival` is right: it is the function over the array, for an array that holds a net.
use Rattle.words.specs.Net.{held}
use Rattle.words.proofs.net.Net.arrival.Goals as goal

pub arrival-requires : goal.arrival-requires
arrival-requires c = (_, _, held c.args.self.now.held)
