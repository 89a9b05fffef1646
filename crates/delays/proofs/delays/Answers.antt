-- `delays` is right: before node j the rows of all nodes before it hold their delays, so the delay to j's upper end is known; its edge adds its own, and the
-- pin at j its via.
use mathlib.Core.Path.{◌≡◌, ◌∙◌}
use mathlib.Core.List.{List}
use Prim.Native.Nat.{ℕ, ◌+◌, ◌≤◌, ◌<◌}
use native.Mathlib.Omega.{arith}
use lib.ListN.{get_or, length}
use Rattle.rules.specs.Tree.{at}
use Rattle.words.specs.Words.{net_in}
use Rattle.words.specs.declared.Node.{Node}
use Rattle.words.specs.Held.{Held, record_of, held-accepted}
use Rattle.words.specs.Net.{held}
use Rattle.tree.specs.declared.Gate.{Gate}
use Rattle.tree.specs.Gates.{gate_of}
use Rattle.tree.specs.Staged.{Staged, wires_staged}
use Rattle.loads.specs.Columns.{Columns, Staging, staging}
use Rattle.loads.specs.Loaded.{Loaded}
use Rattle.delays.specs.Delayed.{Delaying, DelayTurn, delay-turn, delaying_end, paid-is, none-paid}
use Rattle.delays.proofs.delays.Goals as goal
use Rattle.delays.proofs.delays.Goals.{then-pin-gt0, else-pin-gt0}

-- The stages that a turn at node j looks up,
turn : {w stage below first delay : List ℕ} {nodes layers columns j : ℕ} → Held w nodes layers → Staged (net_in w) stage below
    → Columns (net_in w) first columns → Delaying (net_in w) first columns delay j → j ≤ nodes → Staging (net_in w) below first columns j
turn H S C D h = staging (held-accepted H) S C D.some (omega (arith, H.nodes-are))

-- and what it does to the delays, by the node, the layer and the gate that it has looked up.
delay-here : {w stage below first load delay : List ℕ} {nodes layers columns j layer : ℕ} {node : Node} {gate : Gate} → Held w nodes layers
    → Staged (net_in w) stage below → Columns (net_in w) first columns → Loaded (net_in w) first columns load
    → Delaying (net_in w) first columns delay j → j ≤ nodes → node ≡ record_of (at (net_in w) j)
    → layer ≡ get_or first (get_or below node.parent 0) 0 → gate ≡ gate_of (net_in w) node.parent
    → DelayTurn (net_in w) first columns load delay gate layer j
delay-here H S C T D h q e g =
    let t = turn H S C D h in
    delay-turn (held-accepted H) T t D (omega (arith, H.nodes-are)) (t.layer-is (rw q at e)) (rw q at g)

pub set_delays-requires : goal.set_delays-requires
set_delays-requires c =
    let s = c.requires in
    let H = held c.args.wires.now.net.held in
    let e = rw c.node-node.ensures at c.first_layer-layer.ensures in
    let t = turn H (wires_staged c.args.wires.now.net.held c.args.wires.now.staged) s.0 c.loop-j.invariant.0 (omega arith) in
    let d = delay-here H (wires_staged c.args.wires.now.net.held c.args.wires.now.staged) s.0 s.1 c.loop-j.invariant.0 (omega arith) c.node-node.ensures c.first_layer-layer.ensures c.gate_at-gate.ensures in
    rw c.node-node.ensures
    (omega (arith, H.layers-are, t.layer_in_lem e), d.gate_in, d.parent_row, d.upper-row, d.parent-lower, d.own_row, d.edge)

-- The columns stand for layers that there are from the layer of the stage above j on, and from that of the stage of the wire below j: a wrong program that
-- takes the second (must-fail/) is then refused for the delay that it gives and not for this.
pub add_vias-requires : goal.add_vias-requires
add_vias-requires c =
    let s = c.requires in
    let H = held c.args.wires.now.net.held in
    let t = turn H (wires_staged c.args.wires.now.net.held c.args.wires.now.staged) s.0 c.loop-j.invariant.0 (omega arith) in
    let d = delay-here H (wires_staged c.args.wires.now.net.held c.args.wires.now.staged) s.0 s.1 c.loop-j.invariant.0 (omega arith)
    c.node-node.ensures c.first_layer-layer.ensures c.gate_at-gate.ensures in
    let pin = rw c.node-node.ensures at c.paid_cap-pin.ensures in
    let v = d.via (rw c.node-node.ensures at c.set_delays.ensures) (paid-is c.has_vias-vias.result pin c.if-pin-gt0.true) in
    record { pin_in = v.pin_in; row = v.row; columns_in = omega (arith, v.columns_in, t.columns_in c.loop-j.j (omega arith)) }

pub loop-j-preserved : goal.loop-j-preserved
loop-j-preserved c =
    let s = c.requires in
    let d = delay-here (held c.args.wires.now.net.held) (wires_staged c.args.wires.now.net.held c.args.wires.now.staged) s.0 s.1 c.loop-j.invariant.0 (omega arith)
    c.node-node.ensures c.first_layer-layer.ensures c.gate_at-gate.ensures in
    let F = rw c.node-node.ensures at c.set_delays.ensures in
    let vias = c.has_vias-vias.result in
    let pin = rw c.node-node.ensures at c.paid_cap-pin.ensures in
    let long = F.long ∙ c.loop-j.invariant.1 in
    elim c.if-pin-gt0.branch [
      | then-pin-gt0 w ↦ rw w.delay-is (d.onward F (paid-is vias pin w.if-pin-gt0.true) w.add_vias.ensures, w.add_vias.ensures.long ∙ long)
      | else-pin-gt0 w ↦ rw w.delay-is (d.onward_bare F (λ m. none-paid _ _ _ vias pin w.if-pin-gt0.false c.has_vias-vias.ensures), long)
    ]

pub returns : goal.returns
returns c = delaying_end c.loop-j.invariant.0 (omega (arith, (held c.args.wires.now.net.held).nodes-are, c.loop-j-test.false))

pub returns-after-pin-gt0 : goal.returns-after-pin-gt0
returns-after-pin-gt0 c =
    let s = c.requires in
    let d = delay-here (held c.args.wires.now.net.held) (wires_staged c.args.wires.now.net.held c.args.wires.now.staged) s.0 s.1 c.loop-j.invariant.0 (omega arith)
    c.node-node.ensures c.first_layer-layer.ensures c.gate_at-gate.ensures in
    let F = rw c.node-node.ensures at c.set_delays.ensures in
    let vias = c.has_vias-vias.result in
    let pin = rw c.node-node.ensures at c.paid_cap-pin.ensures in
    let last : length (net_in c.args.wires.now.net.words.now).nodes < c.loop-j.j + 1 = omega (arith, (held c.args.wires.now.net.held).nodes-are) in
    elim c.if-pin-gt0.branch [
      | then-pin-gt0 w ↦ rw w.delay-is (delaying_end (d.onward F (paid-is vias pin w.if-pin-gt0.true) w.add_vias.ensures) last)
      | else-pin-gt0 w ↦ rw w.delay-is (delaying_end (d.onward_bare F (λ m. none-paid _ _ _ vias pin w.if-pin-gt0.false c.has_vias-vias.ensures)) last)
    ]
