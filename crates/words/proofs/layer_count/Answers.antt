-- `layer_count` is right: the count of layers stands in row 0.
use mathlib.Core.Path.{sym}
use Rattle.words.specs.Held.{layers-is}
use Rattle.words.proofs.layer_count.Goals as goal

pub returns : goal.returns
returns c = sym (layers-is _)
