-- `node_at` is right: row j is node j.
use mathlib.Core.Path.{◌∙◌}
use Rattle.words.specs.Held.{row_in}
use Rattle.words.proofs.node_at.Goals as goal

pub returns : goal.returns
returns c = let s = c.requires in c.node_in.ensures ∙ (row_in s.2 s.3 s.4).is
