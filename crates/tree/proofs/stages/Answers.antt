-- `stages` is right: before node j the tables hold the stages of all edges before it, and the count is the number of buffers among the nodes before it.
use mathlib.Core.List.{List}
use Prim.Native.Nat.{ℕ, ◌+◌, ◌≤◌}
use native.Mathlib.Omega.{arith}
use Rattle.words.specs.Words.{net_in}
use Rattle.words.specs.Held.{Held, held-accepted}
use Rattle.words.specs.Net.{held}
use Rattle.tree.specs.Staged.{Passing, StageTurn, stage-turn, passing-start, passing_end}
use Rattle.tree.proofs.stages.Goals as goal

pub loop-j-init : goal.loop-j-init
loop-j-init c = passing-start _ c.args.stage.now c.args.below.now c.requires.0 c.requires.1

-- A turn at a node of the net that is held.
turn : {w : List ℕ} {nodes layers : ℕ} {stage below : List ℕ} {j count : ℕ} → Held w nodes layers → Passing (net_in w) stage below j count → j ≤ nodes
    → StageTurn (net_in w) stage below j count
turn H P h = stage-turn (held-accepted H) P (omega (arith, H.nodes-are))

pub overflow_add-count : goal.overflow_add-count
overflow_add-count c =
    let t = turn (held c.args.net.now.held) c.loop-j.invariant (omega arith) in
    rw (c.buffer_bit-count.ensures, c.node-node.ensures) (omega arith)

pub loop-j-preserved : goal.loop-j-preserved
loop-j-preserved c =
    rw (c.stage_below.ensures, c.buffer_bit-count.ensures, c.node-node.ensures) (turn (held c.args.net.now.held) c.loop-j.invariant (omega arith)).onward

pub returns : goal.returns
returns c = passing_end c.loop-j.invariant (omega (arith, (held c.args.net.now.held).nodes-are, c.loop-j-test.false))

pub returns-2 : goal.returns-2
returns-2 c =
    passing_end {j = c.loop-j.j + 1} {count = c.loop-j.count + c.buffer_bit-count.result}
    (rw (c.stage_below.ensures, c.buffer_bit-count.ensures, c.node-node.ensures) (turn (held c.args.net.now.held) c.loop-j.invariant (omega arith)).onward)
    (omega (arith, (held c.args.net.now.held).nodes-are))
