-- `first_layer` is right: the wire below a node is of a stage of the net, which has an entry in an array as long as the stages are many.
use Prim.Native.Nat.{◌≤◌}
use native.Mathlib.Omega.{arith}
use lib.ListN.{length}
use Rattle.words.specs.Words.{net_in}
use Rattle.words.specs.Net.{held}
use Rattle.tree.specs.Staged.{wires_staged, wire-below}
use Rattle.delays.proofs.first_layer.Goals as goal

pub bounds-first-wires : goal.bounds-first-wires
bounds-first-wires c =
    let s = c.args.wires.now in
    let H = held s.net.held in
    let a : c.args.i ≤ length (net_in s.net.words.now).nodes = omega (arith, H.nodes-are) in
    omega (arith, (wires_staged s.net.held s.staged).below-is c.args.i a, wire-below H.accepted c.args.i a)
