-- `unit_cap` is right: its number stands at its place in the array.
use mathlib.Core.Path.{◌∙◌}
use Rattle.words.specs.Held.{layer-read}
use Rattle.words.proofs.unit_cap.Goals as goal

pub returns : goal.returns
returns c = c.from.ensures ∙ (layer-read c.requires.2 c.requires.3).cap_is
