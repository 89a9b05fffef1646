-- `report` is right: the first walk says whether the bytes are a block, and only then the second plans.
use mathlib.Core.Path.{sym, ◌∙◌}
use Rattle.block.specs.Walks.{no_block}
use Rattle.block.proofs.report.Goals as goal

pub returns-then-not-is_block : goal.returns-then-not-is_block
returns-then-not-is_block c = c.no_totals.ensures ∙ rw c.from.ensures (sym (no_block _ (sym c.if-not-is_block.ensures)))
