-- `link_terminals` is right: the terminals after node j are linked, and a terminal j comes in front of those of its stage.
use mathlib.Core.Path.{ap, sym, ◌∙◌}
use native.Mathlib.Omega.{arith}
use Prim.Native.Nat.{◌<◌}
use Rattle.rules.specs.Tree.{is_terminal}
use Rattle.words.specs.declared.Node.{Node}
use Rattle.words.specs.Held.{held-accepted}
use Rattle.words.specs.Net.{held}
use Rattle.tree.specs.Staged.{edges_staged}
use Rattle.required.proofs.Linking.{links-start, stage_in, links-skip, links-take}
use Rattle.required.proofs.link_terminals.Goals as goal
use Rattle.required.proofs.link_terminals.Goals.{then-is_terminal, else-is_terminal}

pub loop-j-init : goal.loop-j-init
loop-j-init c =
    let H = held c.args.edges.now.net.held in
    links-start (held-accepted H) H.nodes-are c.requires.0 c.requires.1

pub offset_bounds-first-t : goal.offset_bounds-first-t
offset_bounds-first-t c = let own = stage_in c.args.edges.now.net.held (edges_staged c.args.edges.now.net.held c.args.edges.now.staged) c.loop-j.invariant (omega arith) in omega arith

pub bounds-first-t : goal.bounds-first-t
bounds-first-t c = let own = stage_in c.args.edges.now.net.held (edges_staged c.args.edges.now.net.held c.args.edges.now.staged) c.loop-j.invariant (omega arith) in omega arith

pub offset_bounds-first-t-then-is_terminal : goal.offset_bounds-first-t-then-is_terminal
offset_bounds-first-t-then-is_terminal c = let own = stage_in c.args.edges.now.net.held (edges_staged c.args.edges.now.net.held c.args.edges.now.staged) c.loop-j.invariant (omega arith) in omega arith

pub bounds-first-t-then-is_terminal : goal.bounds-first-t-then-is_terminal
bounds-first-t-then-is_terminal c = let own = stage_in c.args.edges.now.net.held (edges_staged c.args.edges.now.net.held c.args.edges.now.staged) c.loop-j.invariant (omega arith) in omega arith

pub loop-j-preserved : goal.loop-j-preserved
loop-j-preserved c =
    let A = held-accepted (held c.args.edges.now.net.held) in
    let S = edges_staged c.args.edges.now.net.held c.args.edges.now.staged in
    let L = c.loop-j.invariant in
    let h : 0 < c.loop-j.j = omega arith in
    let k = c.is_terminal.ensures ∙ ap (λ (r : Node). is_terminal r.kind) c.node.ensures in
    elim c.if-is_terminal.branch [
      | then-is_terminal w ↦ rw (w.first-is, w.next-is) (links-take A S L h (sym k ∙ w.if-is_terminal.true))
      | else-is_terminal w ↦ rw (w.first-is, w.next-is) (links-skip A S L h (sym k ∙ w.if-is_terminal.false))
    ]
