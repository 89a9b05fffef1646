-- `stage_numbers` is right: before node j the tables hold what the nodes before it give, and at the end all have given theirs.
use native.Mathlib.Omega.{arith}
use mathlib.Core.Path.{ap}
use Rattle.words.specs.declared.Node.{Node}
use Rattle.words.specs.Held.{held-accepted}
use Rattle.words.specs.Net.{held}
use Rattle.tree.specs.Staged.{staged_of}
use Rattle.stage_numbers.specs.Numbered.{numbering_start}
use Rattle.stage_numbers.specs.Whole.{numbering_end}
use Rattle.stage_numbers.proofs.Times.{turn}
use Rattle.stage_numbers.proofs.stage_numbers.Goals as goal

pub loop-j-init : goal.loop-j-init
loop-j-init c = let p = c.requires in numbering_start (held-accepted (held c.args.staged.now.net.held)) p.1 p.2 p.3

pub note_node-requires : goal.note_node-requires
note_node-requires c =
    let p = c.requires in
    rw (ap (λ (m : Node). m.kind) c.node-kind.ensures) (turn (held c.args.staged.now.net.held) (staged_of c.args.staged.now.staged) p.0 c.loop-j.invariant c.loop-j-test.true).note_in

pub loop-j-preserved : goal.loop-j-preserved
loop-j-preserved c =
    let p = c.requires in
    (turn (held c.args.staged.now.net.held) (staged_of c.args.staged.now.staged) p.0 c.loop-j.invariant c.loop-j-test.true).onward
    (rw (ap (λ (m : Node). m.kind) c.node-kind.ensures) at c.note_node.ensures)

pub returns : goal.returns
returns c =
    let H = held c.args.staged.now.net.held in
    λ cost P. numbering_end (held-accepted H) c.loop-j.invariant (omega (arith, H.nodes-are, c.loop-j-test.false)) P

pub returns-2 : goal.returns-2
returns-2 c =
    let p = c.requires in
    let H = held c.args.staged.now.net.held in
    λ cost P. numbering_end (held-accepted H) ((turn H (staged_of c.args.staged.now.staged) p.0 c.loop-j.invariant c.loop-j-test.true).onward
    (rw (ap (λ (m : Node). m.kind) c.node-kind.ensures) at c.note_node.ensures)) (omega (arith, H.nodes-are)) P
