-- `add_edges` is right: before node j each layer has the lengths of the edges before it whose stage is on that layer added to what stood there.
use native.Mathlib.Omega.{arith}
use Rattle.words.specs.Net.{held}
use Rattle.tree.specs.Staged.{staged_of}
use Rattle.lengths.specs.Adding.{lengths_start, lengths_end}
use Rattle.lengths.proofs.Turns.{length-turn}
use Rattle.lengths.proofs.add_edges.Goals as goal

pub loop-j-init : goal.loop-j-init
loop-j-init c = lengths_start _ _ _

pub bounds-plan-staged : goal.bounds-plan-staged
bounds-plan-staged c =
    let s = c.requires in
    let t = length-turn (held c.args.staged.now.net.held) (staged_of c.args.staged.now.staged) s.0 s.1 s.2 c.loop-j.invariant (omega arith) in
    rw c.node-node.ensures (t.stage_in _ (omega arith))

pub bounds-lengths-l : goal.bounds-lengths-l
bounds-lengths-l c =
    let s = c.requires in
    rw (c.from-l.ensures, c.node-node.ensures) (length-turn (held c.args.staged.now.net.held) (staged_of c.args.staged.now.staged) s.0 s.1 s.2 c.loop-j.invariant (omega arith)).layer_in_lem

pub overflow_add-lengths : goal.overflow_add-lengths
overflow_add-lengths c =
    let s = c.requires in
    let t = length-turn (held c.args.staged.now.net.held) (staged_of c.args.staged.now.staged) s.0 s.1 s.2 c.loop-j.invariant (omega arith) in
    rw (c.from-l.ensures, c.node-node.ensures) (omega (arith, t.sum_low))

pub bounds-lengths-l-in-loop-j : goal.bounds-lengths-l-in-loop-j
bounds-lengths-l-in-loop-j c =
    let s = c.requires in
    rw (c.from-l.ensures, c.node-node.ensures) (length-turn (held c.args.staged.now.net.held) (staged_of c.args.staged.now.staged) s.0 s.1 s.2 c.loop-j.invariant (omega arith)).layer_in_lem

pub loop-j-preserved : goal.loop-j-preserved
loop-j-preserved c =
    let s = c.requires in
    rw (c.from-l.ensures, c.node-node.ensures) (length-turn (held c.args.staged.now.net.held) (staged_of c.args.staged.now.staged) s.0 s.1 s.2 c.loop-j.invariant (omega arith)).onward

pub returns : goal.returns
returns c =
    let s = c.requires in
    lengths_end c.loop-j.invariant s.1 (omega (arith, (held c.args.staged.now.net.held).nodes-are, c.loop-j-test.false))

pub returns-2 : goal.returns-2
returns-2 c =
    let s = c.requires in
    rw (c.from-l.ensures, c.node-node.ensures)
    (lengths_end (length-turn (held c.args.staged.now.net.held) (staged_of c.args.staged.now.staged) s.0 s.1 s.2 c.loop-j.invariant (omega arith)).onward s.1 (omega (arith, (held c.args.staged.now.net.held).nodes-are)))
