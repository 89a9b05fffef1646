-- `is_run` is right: before each field it is known that whether the bytes from here on are nets is whether all are.
use native.Mathlib.Omega.{arith}
use mathlib.Core.Path.{sym}
use Rattle.rules.specs.Bytes.{next}
use Rattle.rules.specs.Block.{due_net}
use Rattle.facts.specs.Fields.{field-there}
use Rattle.block.specs.Walks.{checking-start, checked_end, checked_none, checked_more, next-later}
use Rattle.block.proofs.is_run.Goals as goal

pub loop-at-init : goal.loop-at-init
loop-at-init c = checking-start _

pub returns-in_default : goal.returns-in_default
returns-in_default c = sym (checked_none _ c.loop-at.invariant c.loop-at-test.true (sym c.in_default.ensures))

pub overflow_add-at : goal.overflow_add-at
unfolding next
overflow_add-at c = omega (arith, (field-there due_net _ _ (sym c.in-Ok.ensures)).whole)

pub loop-at-smaller : goal.loop-at-smaller
unfolding next
loop-at-smaller c = let F = field-there due_net _ _ (sym c.in-Ok.ensures) in omega (arith, F.whole, next-later _ F)

pub loop-at-preserved : goal.loop-at-preserved
unfolding next
loop-at-preserved c = checked_more _ c.loop-at.invariant c.loop-at-test.true (sym c.in-Ok.ensures)

pub returns : goal.returns
returns c = sym (checked_end _ c.loop-at.invariant c.loop-at-test.false)
