-- `read_node` is right: it makes the definition's tests in their order, 4, 3, 5; where there is room, the node has a row.
use mathlib.Core.Path.{sym}
use native.Mathlib.Omega.{arith}
use Rattle.std.proofs.lemmas.Result.{err_from_is_err_and}
use Rattle.fields.proofs.Laws.{field-inside}
use Rattle.nodes.proofs.Steps.{row-fits, room-count, node-ends, step-none, step_4, step_3, step_5, step-put}
use Rattle.nodes.proofs.read_node.Goals as goal

pub returns-in_err-field : goal.returns-in_err-field
returns-in_err-field c =
    let p = err_from_is_err_and c.from_residual.result c.from_residual.ensures.1 in
    rw (p.1, p.2) (step-none _ _ _ _ _ _ _ _ _ (sym c.in_err-field.ensures))

pub returns-then-not-has_room : goal.returns-then-not-has_room
returns-then-not-has_room c = step_4 _ _ _ _ _ _ _ _ _ (sym c.in_ok-field.ensures) (sym c.if-not-has_room.ensures)

pub row_for-row-requires : goal.row_for-row-requires
row_for-row-requires c = room-count _ _ _ (sym c.if-not-has_room.ensures)

pub put_node-costs-requires : goal.put_node-costs-requires
put_node-costs-requires c = (
  c.requires.0,
  node-ends _ _ _ (sym c.in_ok-field.ensures),
  row-fits _ _ _ c.args.keep c.requires.3 (sym c.if-not-has_room.ensures) c.row_for-row.ensures,
)

pub node_in-node-requires : goal.node_in-node-requires
node_in-node-requires c = omega (
  arith,
  row-fits _ _ _ c.args.keep c.requires.3 (sym c.if-not-has_room.ensures) c.row_for-row.ensures,
  c.put_node-costs.auto.words,
)

pub returns-then-not-in_ranges : goal.returns-then-not-in_ranges
returns-then-not-in_ranges c =
    step_3 _ _ _ _ _ _ _ _ _ (sym c.in_ok-field.ensures) (sym c.if-not-has_room.ensures) c.row_for-row.ensures
    c.put_node-costs.ensures c.node_in-node.ensures c.in_ranges.ensures c.if-not-in_ranges.true

pub may_have_child-requires : goal.may_have_child-requires
may_have_child-requires c = (omega (arith, room-count _ _ _ (sym c.if-not-has_room.ensures)), c.requires.2)

pub returns-then-not-may_have_child : goal.returns-then-not-may_have_child
returns-then-not-may_have_child c =
    step_5 _ _ _ _ _ _ _ _ _ (sym c.in_ok-field.ensures) (sym c.if-not-has_room.ensures) c.row_for-row.ensures
    c.put_node-costs.ensures c.node_in-node.ensures c.in_ranges.ensures c.may_have_child.ensures c.if-not-in_ranges.false
    c.if-not-may_have_child.true

pub overflow_add-result : goal.overflow_add-result
overflow_add-result c = let h = field-inside _ _ _ (sym c.in_ok-field.ensures) in omega arith

pub returns : goal.returns
returns c =
    step-put _ _ _ _ _ _ _ _ _ (sym c.in_ok-field.ensures) (sym c.if-not-has_room.ensures) c.row_for-row.ensures
    c.put_node-costs.ensures c.node_in-node.ensures c.in_ranges.ensures c.may_have_child.ensures c.if-not-in_ranges.false
    c.if-not-may_have_child.false
