-- `fill` is right: what stands before and behind the columns filled is as it was.
use borrow.Author.Rules.{rules}
use Rattle.bands.proofs.Columns.{filled}
use Rattle.bands.proofs.fill.Goals as goal

pub returns-then-start-end : goal.returns-then-start-end
returns-then-start-end c = filled c.if-start-end.true c.requires (search rules)
