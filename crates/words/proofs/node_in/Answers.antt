-- `node_in` is right: it takes the numbers that the definition names from the row.
use mathlib.Core.Path.{refl}
use Rattle.words.proofs.Cells.{record_of}
use Rattle.words.proofs.node_in.Goals as goal

pub returns : goal.returns
returns c = record_of _ _ refl c.from-len.ensures c.kind_of-kind.ensures
