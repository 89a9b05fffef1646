-- `print_net` is right: a net that was read is held whole.
use Rattle.reader.specs.Kept.{held-read}
use Rattle.try_loads.proofs.print_net.Goals as goal

pub of-net-requires : goal.of-net-requires
of-net-requires g c = (_, _, (held-read c.in-Ok.ensures c.read.auto.words).held)
