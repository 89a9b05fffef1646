-- `totals` is right: before each field the sums are the totals of the nets so far, and the nets from here on are those still to come.
use mathlib.Core.Path.{refl, ap, ◌∙◌}
use mathlib.Core.List.{List}
use Prim.Native.Nat.{ℕ}
use native.Mathlib.Omega.{arith}
use Rattle.rules.specs.Bytes.{next, field_at}
use Rattle.rules.specs.Program.{program_planned}
use Rattle.demands.specs.Totals.{plus}
use Rattle.block.specs.Walks.{payload-at}
use Rattle.block.specs.Sums.{sums_start, sums_small, sums_end, Turn, sums_turn}
use Rattle.block.proofs.totals.Goals as goal

pub loop-at-init : goal.loop-at-init
loop-at-init c = (rw c.no_totals-sums.ensures (sums_start _ c.requires), refl, refl, refl)

-- the block
abbrev bytes : goal.In-loop-at → List ℕ
bytes c = c.args.block.now

-- the field that is there
turn : (c : goal.In-loop-at) → Turn (bytes c) c.loop-at.invariant.0 (field_at (bytes c) c.loop-at.at)
turn c = sums_turn _ c.loop-at.invariant.0 c.loop-at-test.true

pub number-requires : goal.number-requires
number-requires c = (omega arith, omega (arith, (turn c).there.head))

pub slice_bounds-add_net-end : goal.slice_bounds-add_net-end
unfolding next field_at
slice_bounds-add_net-end c =
    let t : Turn c.args.block.now c.loop-at.invariant.0 (field_at c.args.block.now c.loop-at.at) = sums_turn _ c.loop-at.invariant.0 c.loop-at-test.true in
    omega (arith, t.there.whole, c.number.ensures)

pub add_net-sums-requires : goal.add_net-sums-requires
add_net-sums-requires c =
    let inv = c.loop-at.invariant in
    (sums_small _ inv.0, inv.1, inv.2, inv.3)

-- the block
abbrev bytes_2 : goal.After-plan-in-loop-at-1 → List ℕ
bytes_2 c = c.args.block.now

-- the field that is there
turn_2 : (c : goal.After-plan-in-loop-at-1) → Turn (bytes_2 c) c.loop-at.invariant.0 (field_at (bytes_2 c) c.loop-at.at)
turn_2 c = sums_turn _ c.loop-at.invariant.0 c.loop-at-test.true

pub loop-at-preserved : goal.loop-at-preserved
unfolding next field_at
loop-at-preserved c =
    let told = c.number.ensures in
    let inv = c.loop-at.invariant in
    let added = c.add_net-sums.ensures ∙ ap (λ (net : List ℕ). plus c.loop-at.sums (program_planned net)) (payload-at _ _ _ told) in (
      rw told ((turn_2 c).onward _ added),
      c.add_net-sums.auto.words ∙ inv.1,
      c.add_net-sums.auto.table ∙ inv.2,
      c.add_net-sums.auto.plan ∙ inv.3,
    )

pub returns : goal.returns
returns c = sums_end _ c.loop-at.invariant.0 c.loop-at-test.false
