-- `stage_costs` is right: before node j the table holds the costs of the edges before it, stage by stage.
use Prim.Native.Nat.{◌+◌}
use native.Mathlib.Omega.{arith}
use Rattle.words.specs.Held.{held-accepted}
use Rattle.words.specs.Net.{held}
use Rattle.tree.specs.Staged.{edges_staged}
use Rattle.costs.specs.Pricing.{pricing_start, pricing_end}
use Rattle.costs.proofs.Turns.{room-here, more-here}
use Rattle.costs.proofs.stage_costs.Goals as goal

pub loop-j-init : goal.loop-j-init
loop-j-init c = pricing_start (held-accepted (held c.args.edges.now.net.held)) c.requires

pub add_costs-requires : goal.add_costs-requires
add_costs-requires c =
    let P = c.loop-j.invariant in
    (P.some, omega arith, room-here (held c.args.edges.now.net.held) (edges_staged c.args.edges.now.net.held c.args.edges.now.staged) P (omega arith))

pub loop-j-preserved : goal.loop-j-preserved
loop-j-preserved c = more-here (held c.args.edges.now.net.held) (edges_staged c.args.edges.now.net.held c.args.edges.now.staged) c.loop-j.invariant (omega arith) c.add_costs.ensures

pub returns : goal.returns
returns c = pricing_end (held-accepted (held c.args.edges.now.net.held)) c.loop-j.invariant (omega (arith, (held c.args.edges.now.net.held).nodes-are, c.loop-j-test.false))

pub returns-2 : goal.returns-2
returns-2 c =
    pricing_end (held-accepted (held c.args.edges.now.net.held)) {j = c.loop-j.j + 1} (more-here (held c.args.edges.now.net.held) (edges_staged c.args.edges.now.net.held c.args.edges.now.staged) c.loop-j.invariant (omega arith) c.add_costs.ensures)
    (omega (arith, (held c.args.edges.now.net.held).nodes-are))
