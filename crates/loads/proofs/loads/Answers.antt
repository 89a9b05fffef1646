-- `loads` is right: before node j is taken each entry is what the children after j add, so j adds its whole load, and each count is that of the stage's edges
-- after j, to which the edge to j is one more; in the end all children have added, and all edges are counted.
use mathlib.Core.Path.{◌≡◌, refl, ap, sym, ◌∙◌}
use mathlib.Core.Bool.{Bool, true, false}
use mathlib.Core.List.{List}
use Prim.Native.Nat.{ℕ, ◌≤◌}
use native.Mathlib.Omega.{arith}
use lib.ListN.{get_or}
use mir.Val.{bool_byte}
use Rattle.rules.specs.Tree.{at}
use Rattle.words.specs.declared.Node.{Node}
use Rattle.words.specs.Words.{net_in}
use Rattle.words.specs.Held.{Held, record_of, held-accepted}
use Rattle.words.specs.Net.{held}
use Rattle.tree.specs.Staged.{Staged, wires_staged}
use Rattle.loads.specs.Columns.{Columns, Staging, staging}
use Rattle.loads.specs.Loaded.{Loading, LoadTurn, load-turn, loading_start, loading_end}
use Rattle.loads.specs.Counted.{count_fits, counting_start, counting_more, counted-each, counted-total}
use Rattle.loads.proofs.loads.Goals as goal

pub loop-j-init : goal.loop-j-init
loop-j-init c =
    let H = held c.args.wires.now.net.held in
    (loading_start _ _ H.nodes-are c.requires.1, refl, counting_start _ H.nodes-are)

-- The parent of a node that was looked up is the net's.
parent-is : (w : List ℕ) (j : ℕ) {node : Node} → node ≡ record_of (at (net_in w) j) → node.parent ≡ (at (net_in w) j).parent
parent-is w j q = ap (λ (r : Node). r.parent) q

-- The stages that a turn at node j looks up,
turn : {w stage below first load : List ℕ} {nodes layers columns j : ℕ} → Held w nodes layers → Staged (net_in w) stage below
    → Columns (net_in w) first columns → Loading (net_in w) first columns load j → 1 ≤ j → Staging (net_in w) below first columns j
turn H S C G h = staging (held-accepted H) S C h G.inside

-- and what it does to the loads, by the layer that it has looked up.
load-here : {w stage below first load : List ℕ} {nodes layers columns j layer : ℕ} → Held w nodes layers → Staged (net_in w) stage below
    → Columns (net_in w) first columns → Loading (net_in w) first columns load j → 1 ≤ j
    → layer ≡ get_or first (get_or below (at (net_in w) j).parent 0) 0 → LoadTurn (net_in w) first columns load layer j
load-here H S C G h e = load-turn (held-accepted H) G h ((turn H S C G h).layer-is e)

pub bounds-first-stage : goal.bounds-first-stage
bounds-first-stage c =
    let s = c.requires in
    let t = turn (held c.args.wires.now.net.held) (wires_staged c.args.wires.now.net.held c.args.wires.now.staged) s.0 c.loop-j.invariant.0 c.loop-j-test.true in
    rw c.node-node.ensures (t.first_in _ (omega arith))

pub add_loads-requires : goal.add_loads-requires
add_loads-requires c =
    let s = c.requires in
    let e = rw c.node-node.ensures at c.from-layer.ensures in
    let t = turn (held c.args.wires.now.net.held) (wires_staged c.args.wires.now.net.held c.args.wires.now.staged) s.0 c.loop-j.invariant.0 c.loop-j-test.true in
    let l = load-here (held c.args.wires.now.net.held) (wires_staged c.args.wires.now.net.held c.args.wires.now.staged) s.0 c.loop-j.invariant.0 c.loop-j-test.true e in
    rw c.node-node.ensures (omega (arith, (held c.args.wires.now.net.held).layers-are, t.layer_in_lem e), l.edge, l.parent_row, l.parent-lower)

-- What the counts are looked up by is in bounds as the stage of the wire below the parent, and below j itself: a wrong program that counts to the second
-- (must-fail/) is then refused for its count and not for its index.
pub offset_bounds-edges-stage : goal.offset_bounds-edges-stage
offset_bounds-edges-stage c =
    let s = c.requires in
    let t = turn (held c.args.wires.now.net.held) (wires_staged c.args.wires.now.net.held c.args.wires.now.staged) s.0 c.loop-j.invariant.0 c.loop-j-test.true in
    let e = parent-is c.args.wires.now.net.words.now c.loop-j.j c.node-node.ensures in
    omega (arith, t.each_in c.node-node.result.parent (omega (arith, e, t.parent-lower)), t.each_in c.loop-j.j (omega arith))

pub bounds-edges-stage : goal.bounds-edges-stage
bounds-edges-stage c =
    let s = c.requires in
    let t = turn (held c.args.wires.now.net.held) (wires_staged c.args.wires.now.net.held c.args.wires.now.staged) s.0 c.loop-j.invariant.0 c.loop-j-test.true in
    let e = parent-is c.args.wires.now.net.words.now c.loop-j.j c.node-node.ensures in
    omega (arith, t.each_in c.node-node.result.parent (omega (arith, e, t.parent-lower)), t.each_in c.loop-j.j (omega arith))

-- A flag as a number is 1 at most. The walk itself adds 1; wrong programs that add a flag (must-fail/) are then refused for their count and not for its room.
flag-low : (b : Bool) → bool_byte b ≤ 1
flag-low true = omega arith
flag-low false = omega arith

pub overflow_add-edges : goal.overflow_add-edges
overflow_add-edges c = count_fits c.loop-j.invariant.2 (held-accepted (held c.args.wires.now.net.held)) _ (omega (arith, flag-low))

pub bounds-edges-stage-in-loop-j : goal.bounds-edges-stage-in-loop-j
bounds-edges-stage-in-loop-j c =
    let s = c.requires in
    let t = turn (held c.args.wires.now.net.held) (wires_staged c.args.wires.now.net.held c.args.wires.now.staged) s.0 c.loop-j.invariant.0 c.loop-j-test.true in
    let e = parent-is c.args.wires.now.net.words.now c.loop-j.j c.node-node.ensures in
    omega (arith, t.each_in c.node-node.result.parent (omega (arith, e, t.parent-lower)), t.each_in c.loop-j.j (omega arith))

pub loop-j-preserved : goal.loop-j-preserved
loop-j-preserved c =
    let s = c.requires in
    let e = rw c.node-node.ensures at c.from-layer.ensures in
    let t = turn (held c.args.wires.now.net.held) (wires_staged c.args.wires.now.net.held c.args.wires.now.staged) s.0 c.loop-j.invariant.0 c.loop-j-test.true in
    let l = load-here (held c.args.wires.now.net.held) (wires_staged c.args.wires.now.net.held c.args.wires.now.staged) s.0 c.loop-j.invariant.0 c.loop-j-test.true e in
    let F = rw c.node-node.ensures at c.add_loads.ensures in
    let p = parent-is c.args.wires.now.net.words.now c.loop-j.j c.node-node.ensures in
    let stage = ap (λ (i : ℕ). get_or c.args.wires.now.below.now i 0) p ∙ t.stage_is in (
      l.onward F,
      F.long ∙ c.loop-j.invariant.1,
      counting_more c.loop-j.invariant.2 c.loop-j-test.true c.loop-j.invariant.0.inside stage (t.each_in _ (omega (arith, p, t.parent-lower))),
    )

pub returns : goal.returns
returns c =
    let H = held c.args.wires.now.net.held in
    let A = held-accepted H in
    let e : c.loop-j.j ≡ 0 = omega (arith, c.loop-j-test.false) in (
      loading_end A c.loop-j.invariant.0 e,
      counted-each c.loop-j.invariant.2 e,
      counted-total c.loop-j.invariant.2 A e ∙ sym H.nodes-are,
    )
