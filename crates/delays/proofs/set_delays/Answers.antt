-- `set_delays` is right: in each column the delay to the node, but for the via at it, is the delay to the upper end of its edge and the edge delay; the loop
-- leaves the rows of its parent as they were.
use native.Mathlib.Omega.{arith}
use Rattle.words.specs.Net.{held}
use Rattle.delays.proofs.Rows.{delay-set}
use Rattle.delays.proofs.set_delays.Goals as goal

pub start_of-start-requires : goal.start_of-start-requires
start_of-start-requires c =
    let s = c.requires in
    let t = delay-set (held c.args.net.now.held) s.0 s.1 s.2 s.3 s.4 s.5 s.6 c.loop-c.invariant c.loop-c-test.true in
    rw (c.via_res.ensures, c.from.ensures) (s.1, t.via_in, t.load_in)

pub overflow_add-delay : goal.overflow_add-delay
overflow_add-delay c =
    let s = c.requires in
    let t = delay-set (held c.args.net.now.held) s.0 s.1 s.2 s.3 s.4 s.5 s.6 c.loop-c.invariant c.loop-c-test.true in
    rw (c.start_of-start.ensures, c.edge_delay.ensures, c.lower_load-lower.ensures, c.via_res.ensures, c.unit_res.ensures, c.unit_cap.ensures)
    (rw (c.from.ensures, c.from-in-loop-c.ensures)
    (record { fits = omega (arith, t.sum_in) }))

pub loop-c-preserved : goal.loop-c-preserved
loop-c-preserved c =
    let s = c.requires in
    let t = delay-set (held c.args.net.now.held) s.0 s.1 s.2 s.3 s.4 s.5 s.6 c.loop-c.invariant c.loop-c-test.true in
    rw (c.start_of-start.ensures, c.edge_delay.ensures, c.lower_load-lower.ensures, c.via_res.ensures, c.unit_res.ensures, c.unit_cap.ensures)
    (rw (c.from.ensures, c.from-in-loop-c.ensures)
    t.onward)
