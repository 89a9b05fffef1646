-- `open_value` is right: it tests the length first, as the definition does, and hands on what checking gives.
use borrow.Author.Tests.{leb-true}
use mathlib.Core.Path.{refl}
use lib.ListN.{length}
use Rattle.rules.specs.Desk.{max_desk_net}
use Rattle.desk.specs.OnDesk.{open_on}
use Rattle.desk.proofs.open_value.Goals as goal

pub returns-then-not-takes : goal.returns-then-not-takes
unfolding open_on
returns-then-not-takes c = rw (← c.takes.ensures, c.if-not-takes.true, c.from.ensures) refl

-- Past the test a desk takes so many bytes.
pub open_with-requires : goal.open_with-requires
open_with-requires c = leb-true (length c.args.bytes.now) max_desk_net (rw (← c.takes.ensures) c.if-not-takes.false)

pub returns : goal.returns
unfolding open_on
returns c = rw (← c.takes.ensures, c.if-not-takes.false, ← c.check-found.ensures) c.open_with.ensures
