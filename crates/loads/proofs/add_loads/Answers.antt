-- `add_loads` is right: in each column the load at the upper end takes the edge's wire and the load at its lower end, which the loop leaves as it was.
use mathlib.Core.Path.{ap, ◌∙◌}
use Rattle.words.specs.Net.{held}
use Rattle.loads.specs.Tables.{columns-few}
use Rattle.loads.specs.Edges.{lower_of}
use Rattle.loads.proofs.Rows.{load-added}
use Rattle.loads.proofs.add_loads.Goals as goal

pub loop-c-preserved : goal.loop-c-preserved
loop-c-preserved c =
    let s = c.requires in
    rw c.from-in-loop-c.ensures
    (load-added (columns-few c.args.layer c.args.columns (held c.args.net.now.held) s.0) s.1 s.2 s.3 c.loop-c.invariant c.loop-c-test.true
    c.unit_cap.ensures (c.lower_load-lower.ensures ∙ ap (lower_of c.args.node.kind) c.from.ensures))
