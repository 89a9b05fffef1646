-- `add_vias` is right: in each column the via of the layer that the column stands for is added to the delay to the node, and nothing else changes.
use native.Mathlib.Omega.{arith}
use Rattle.words.specs.Net.{held}
use Rattle.delays.proofs.Rows.{via-paid}
use Rattle.delays.proofs.add_vias.Goals as goal

pub overflow_mul-delay : goal.overflow_mul-delay
overflow_mul-delay c =
    let t = via-paid (held c.args.net.now.held) c.requires c.loop-c.invariant c.loop-c-test.true in
    rw c.via_res.ensures (record { fits = omega (arith, t.via_in) })

pub overflow_mul-delay-in-loop-c : goal.overflow_mul-delay-in-loop-c
overflow_mul-delay-in-loop-c c =
    let t = via-paid (held c.args.net.now.held) c.requires c.loop-c.invariant c.loop-c-test.true in
    rw c.via_res.ensures (record { fits = omega (arith, t.product_in) })

pub overflow_add-delay-in-loop-c : goal.overflow_add-delay-in-loop-c
overflow_add-delay-in-loop-c c =
    let t = via-paid (held c.args.net.now.held) c.requires c.loop-c.invariant c.loop-c-test.true in
    rw c.via_res.ensures (record { fits = omega (arith, t.sum_in) })

pub loop-c-preserved : goal.loop-c-preserved
loop-c-preserved c =
    let t = via-paid (held c.args.net.now.held) c.requires c.loop-c.invariant c.loop-c-test.true in
    rw c.via_res.ensures t.onward
