-- `lowered_limit` is right: the difference fits 64 bits, and the least of the two is that of the definitions.
use mathlib.Core.Path.{◌∙◌}
use lib.IntN.{pos, ◌-ℤ◌}
use mir.Facts.{to_z-of_z}
use borrow.Author.Rules.{sfits_of}
use mir.Syntax.{w64}
use Rattle.delays.specs.Earlier.{earlier-is}
use Rattle.stage_numbers.proofs.Times.{sink-asks-fits, sink-asks-is}
use Rattle.stage_numbers.proofs.lowered_limit.Goals as goal

pub overflow_sub-asked : goal.overflow_sub-asked
overflow_sub-asked c =
    rw (sink-asks-is c.args.required c.args.delay c.requires.1 c.ranges.required) (sink-asks-fits c.args.required c.args.delay c.requires.1 c.requires.0)

pub returns : goal.returns
returns c =
    let asked = c.args.required -ℤ pos c.args.delay in
    let is = sink-asks-is c.args.required c.args.delay c.requires.1 c.ranges.required in
    let fits = sink-asks-fits c.args.required c.args.delay c.requires.1 c.requires.0 in
    to_z-of_z {w = w64} (sfits_of c.min.type_inv) ∙ (c.min.ensures.value ∙ rw (is, to_z-of_z fits, to_z-of_z c.ranges.limit) (earlier-is c.args.limit asked))
