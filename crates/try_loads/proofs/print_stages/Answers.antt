-- `print_stages` is right: a node of the net has a row in the table of loads, and the stage below it is one of the net's.
use Rattle.std.proofs.Common.{ℕ, ◌+◌, ◌*◌, ◌≤◌, ◌<◌, List, length, get_or, arith}
use Rattle.std.proofs.Math.Nat.{mul-le-mul}
use Rattle.rules.specs.Bytes.{max_layers, max_nodes, max_stages}
use Rattle.words.specs.Words.{net_in}
use Rattle.words.specs.Held.{Held}
use Rattle.words.specs.Net.{held}
use Rattle.tree.specs.Staged.{Staged, staged_of, wire-below}
use Rattle.try_loads.proofs.print_stages.Goals as goal

module _ {w : List ℕ} {nodes layers : ℕ} (H : Held w nodes layers) (i : ℕ) (h : i ≤ nodes) where
  row-inside : i * layers + layers ≤ (max_nodes + 1) * max_layers
  row-inside =
      let few : i + 1 ≤ max_nodes + 1 = omega (arith, H.accepted.few-nodes, H.nodes-are) in
      let few-layers : layers ≤ max_layers = omega (arith, H.accepted.few-layers, H.layers-are) in
      omega (arith, mul-le-mul few few-layers)

  one-of-stages : {stage below : List ℕ} → Staged (net_in w) stage below → get_or below i 0 < max_stages
  one-of-stages S =
      let c : i ≤ length (net_in w).nodes = omega (arith, H.nodes-are) in
      omega (arith, S.below-is i c, wire-below H.accepted i c, H.accepted.few-stages)

pub overflow_mul-row : goal.overflow_mul-row
overflow_mul-row g c = omega (arith, row-inside (held c.args.staged.now.net.held) c.loop-i.i (omega arith))

pub offset_bounds-edges-t : goal.offset_bounds-edges-t
offset_bounds-edges-t g c = omega (arith, one-of-stages (held c.args.staged.now.net.held) c.loop-i.i (omega arith) (staged_of c.args.staged.now.staged))

pub bounds-edges-t : goal.bounds-edges-t
bounds-edges-t g c = omega (arith, one-of-stages (held c.args.staged.now.net.held) c.loop-i.i (omega arith) (staged_of c.args.staged.now.staged))

pub overflow_add-row : goal.overflow_add-row
overflow_add-row g c = omega (arith, row-inside (held c.args.staged.now.net.held) c.loop-i.i (omega arith))

pub offset_bounds-load-row : goal.offset_bounds-load-row
offset_bounds-load-row g c = omega (arith, row-inside (held c.args.staged.now.net.held) c.loop-i.i (omega arith))

pub slice_bounds-print_stage-end : goal.slice_bounds-print_stage-end
slice_bounds-print_stage-end g c = omega (arith, row-inside (held c.args.staged.now.net.held) c.loop-i.i (omega arith))
