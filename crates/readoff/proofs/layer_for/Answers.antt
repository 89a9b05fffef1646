-- `layer_for` is right: it takes the first layer whose need is within the least; the last attains it if no other does.
use mathlib.Core.Path.{◌≡◌}
use Prim.Native.Nat.{◌-◌}
use native.Mathlib.Omega.{arith}
use mir.Facts.{to_z-of_z}
use Rattle.readoff.proofs.Layers.{trying_more, trying_found, trying_end}
use Rattle.readoff.proofs.layer_for.Goals as goal

pub returns-then-need_on-least : goal.returns-then-need_on-least
returns-then-need_on-least c =
    rw (to_z-of_z c.ranges.t) at
    (trying_found c.loop-l.invariant c.requires.1 c.least_column-least.ensures c.need_on.ensures (omega arith))

pub loop-l-preserved : goal.loop-l-preserved
loop-l-preserved c =
    trying_more c.loop-l.invariant c.requires.1 c.least_column-least.ensures c.need_on.ensures (omega arith)
    (omega arith)

pub returns : goal.returns
returns c =
    let last : c.loop-l.l ≡ c.args.tree.now.layers - 1 = omega arith in
    rw (last, to_z-of_z c.ranges.t) at (trying_end c.loop-l.invariant c.requires.1 (omega arith))
