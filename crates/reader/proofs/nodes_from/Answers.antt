-- `nodes_from` is right: at each turn the arrays stand for the nodes read so far, and the definition from here on gives the answer of the whole.
use native.Mathlib.Omega.{arith}
use lib.ListN.{length-set}
use Rattle.std.proofs.lemmas.Result.{err_from_is_err_and}
use Rattle.laws.specs.Booleans.{bit_le}
use Rattle.rules.specs.Tree.{is_sink}
use Rattle.reader.proofs.Loop.{read-start, read_took, read_no, nodes-refused, nodes-read}
use Rattle.reader.proofs.nodes_from.Goals as goal

pub loop-at-init : goal.loop-at-init
loop-at-init c = read-start _ _ _ c.requires.1 c.requires.2 c.requires.0 c.requires.3

pub returns-in_err-step : goal.returns-in_err-step
returns-in_err-step c =
    let p = err_from_is_err_and c.from_residual.result c.from_residual.ensures.1 in
    rw (p.1, p.2) (nodes-refused _ _ _ _ _ _ _ (read_no c.loop-at.invariant c.loop-at-test.true c.in_err-step.ensures.answer))

pub offset_bounds-kids-step : goal.offset_bounds-kids-step
offset_bounds-kids-step c =
    let t = read_took c.loop-at.invariant c.loop-at-test.true c.in_ok-step.ensures c.read_node.auto.words in omega arith

pub bounds-kids-step : goal.bounds-kids-step
bounds-kids-step c =
    let t = read_took c.loop-at.invariant c.loop-at-test.true c.in_ok-step.ensures c.read_node.auto.words in omega arith

pub overflow_add-kids : goal.overflow_add-kids
overflow_add-kids c =
    let t = read_took c.loop-at.invariant c.loop-at-test.true c.in_ok-step.ensures c.read_node.auto.words in omega arith

pub bounds-kids-step-in-loop-at : goal.bounds-kids-step-in-loop-at
bounds-kids-step-in-loop-at c =
    let t = read_took c.loop-at.invariant c.loop-at-test.true c.in_ok-step.ensures c.read_node.auto.words in omega arith

pub bounds-kids-so_far : goal.bounds-kids-so_far
bounds-kids-so_far c =
    let t = read_took c.loop-at.invariant c.loop-at-test.true c.in_ok-step.ensures c.read_node.auto.words in simp length-set (omega arith)

pub overflow_add-kids-in-loop-at : goal.overflow_add-kids-in-loop-at
overflow_add-kids-in-loop-at c =
    let t = read_took c.loop-at.invariant c.loop-at-test.true c.in_ok-step.ensures c.read_node.auto.words in
    omega (arith, bit_le (is_sink c.in_ok-step.step.node.kind))

pub bounds-kids-so_far-in-loop-at : goal.bounds-kids-so_far-in-loop-at
bounds-kids-so_far-in-loop-at c =
    let t = read_took c.loop-at.invariant c.loop-at-test.true c.in_ok-step.ensures c.read_node.auto.words in simp length-set (omega arith)

pub loop-at-smaller : goal.loop-at-smaller
loop-at-smaller c =
    let t = read_took c.loop-at.invariant c.loop-at-test.true c.in_ok-step.ensures c.read_node.auto.words in omega arith

pub loop-at-preserved : goal.loop-at-preserved
loop-at-preserved c =
    rw (c.sink_places.ensures, c.buffer_bit.ensures)
    (read_took c.loop-at.invariant c.loop-at-test.true c.in_ok-step.ensures c.read_node.auto.words).onward

pub returns : goal.returns
returns c = nodes-read _ _ _ _ _ _ _ c.loop-at.invariant c.loop-at-test.false
