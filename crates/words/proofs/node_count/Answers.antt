-- `node_count` is right: the count of nodes stands in row 0.
use mathlib.Core.Path.{sym}
use Rattle.words.specs.Held.{count-is}
use Rattle.words.proofs.node_count.Goals as goal

pub returns : goal.returns
returns c = sym (count-is _)
