-- `kind_of` is right: by the tag it takes the words that the definition takes.
use mathlib.Core.Path.{◌∙◌}
use borrow.Author.Rules.{sfits_of}
use mir.Syntax.{w64}
use mir.Facts.{to_z-of_z}
use native.Mathlib.Omega.{arith}
use Rattle.words.proofs.Cells.{kind_steiner, kind-buffer, kind-sink}
use Rattle.words.proofs.kind_of.Goals as goal

pub returns-in-3 : goal.returns-in-3
returns-in-3 c = kind_steiner _ _ _ _ c.in-3.is

pub returns-in-4 : goal.returns-in-4
returns-in-4 c = rw (c.from-input_cap.ensures, c.from.ensures, c.from-in-4.ensures) (kind-buffer _ _ _ _ c.in-4.is)

pub returns-in_default : goal.returns-in_default
returns-in_default c = rw c.from-input_cap.ensures
    (kind-sink _ _ _ _ (λ e. omega arith) (λ e. omega arith) (to_z-of_z (sfits_of {w = w64} c.time_of.type_inv) ∙ c.time_of.ensures))
