-- `plan_at` is right: V(k) is what is taken off and what the rows say is spent above it; it is no more than the known plan's rounded cost, so a row that
-- ends before it ends at the table's columns.
use borrow.Author.Rules.{rules}
use mathlib.Core.Path.{refl}
use native.Mathlib.Omega.{arith}
use Rattle.rounds.proofs.Grains.{numbers-kept, taken_off, bound_small, left, none_left, base-within, round_in, all_spent, reading, plan-at, sum-small}
use Rattle.rounds.proofs.plan_at.Goals as goal

pub returns-then-columns-base : goal.returns-then-columns-base
returns-then-columns-base c = λ T k N e K. none_left N K (taken_off N e c.excess_costs-base.ensures) c.args.known.now (omega arith)

pub overflow_add-bound : goal.overflow_add-bound
overflow_add-bound c = let P = c.requires in omega (arith, bound_small P.numbers P.plan)

pub overflow_sub-width : goal.overflow_sub-width
overflow_sub-width c =
    let P = c.requires in
    omega (arith, c.min.ensures, base-within P.numbers P.plan (taken_off P.numbers P.grain-is c.excess_costs-base.ensures))

pub value_at-requires : goal.value_at-requires
value_at-requires c =
    let P = c.requires in
    let N = numbers-kept (search rules) P.numbers in
    let X = taken_off P.numbers P.grain-is c.excess_costs-base.ensures in
    round_in N P.plan X (omega arith) c.min.ensures _ P.sized refl refl

pub returns-in_err-spent : goal.returns-in_err-spent
returns-in_err-spent c = λ T k N e K.
    let M = numbers-kept (search rules) N in
    let X = taken_off M e c.excess_costs-base.ensures in
    rw c.from_residual.ensures (all_spent M K X (omega (arith, c.if-columns-base.false)) c.min.ensures _
    (omega (arith, c.requires.sized, c.value_at.auto.table)) c.args.known.now (c.in_err-spent.ensures _ 0 (left M K X) refl))

pub read_plan-requires : goal.read_plan-requires
read_plan-requires c =
    let P = c.requires in
    let M = numbers-kept (search rules) P.numbers in
    let X = taken_off M P.grain-is c.excess_costs-base.ensures in
    reading M P.plan X (omega (arith, c.if-columns-base.false)) c.min.ensures _ (search rules) (c.in_ok-spent.ensures _ 0 (left M P.plan X) refl)
    c.args.ready.now.prepared.linked refl P.long

pub overflow_add-result : goal.overflow_add-result
overflow_add-result c =
    let P = c.requires in
    let M = numbers-kept (search rules) P.numbers in
    let X = taken_off M P.grain-is c.excess_costs-base.ensures in
    omega (
      arith,
      bound_small P.numbers P.plan,
      sum-small M P.plan X (omega (arith, c.if-columns-base.false)) c.min.ensures _ (omega (arith, P.sized, c.value_at.auto.table))
          (c.in_ok-spent.ensures _ 0 (left M P.plan X) refl),
    )

pub returns : goal.returns
returns c = λ T k N e K.
    let M = numbers-kept (search rules) N in
    let X = taken_off M e c.excess_costs-base.ensures in
    plan-at M K X (omega (arith, c.if-columns-base.false)) c.min.ensures _ (omega (arith, c.requires.sized, c.value_at.auto.table))
    (c.in_ok-spent.ensures _ 0 (left M K X) refl) c.args.ready.now.prepared.linked c.read_plan.ensures
