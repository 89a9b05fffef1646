-- `report` is right: the answer is that of the definition, and what it says in words follows for every answer that is.
use mathlib.Core.Path.{sym, subst}
use Rattle.rules.specs.Block.{BlockPromise}
use Rattle.demands.specs.Block.{block_promise}
use Rattle.vorphiel.proofs.report.Goals as goal

pub returns : goal.returns
returns c = record { value = c.report.ensures; block_promise = subst (BlockPromise c.args.block.now) (sym c.report.ensures) (block_promise _) }
