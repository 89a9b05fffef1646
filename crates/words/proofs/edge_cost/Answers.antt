-- `edge_cost` is right: its number stands at its place in the array.
use mathlib.Core.Path.{sym, ◌∙◌}
use Rattle.words.specs.Held.{row_in}
use Rattle.words.proofs.edge_cost.Goals as goal

pub returns : goal.returns
returns c = c.from.ensures ∙ sym ((row_in c.requires.2 c.requires.3 c.requires.4).cost-is _ c.requires.5)
