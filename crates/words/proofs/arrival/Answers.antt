-- `arrival` is right: the halves of the arrival time stand in row 0.
use mathlib.Core.Path.{◌∙◌, sym}
use borrow.Author.Rules.{sfits_of}
use mir.Facts.{to_z-of_z}
use mir.Syntax.{w64}
use Rattle.words.specs.Held.{arrival-is}
use Rattle.words.proofs.arrival.Goals as goal

pub returns : goal.returns
returns c = to_z-of_z (sfits_of {w = w64} c.time_of.type_inv) ∙ c.time_of.ensures ∙ sym (arrival-is _)
