-- `read_value` is right: past its test the bytes and the plan have their places, and judging answers for every net and plan.
use borrow.Author.Rules.{rules}
use mathlib.Core.Path.{◌≡◌, sym, ◌∙◌}
use mathlib.Core.Bool.{Bool, true}
use Prim.Native.Nat.{ℕ, ◌≤◌}
use native.Mathlib.Omega.{arith}
use lib.ListN.{length}
use lib.Seq.{length-take-le}
use Rattle.rules.specs.Bytes.{max_stages}
use Rattle.rules.specs.Desk.{max_desk_net}
use Rattle.desk_record.specs.OnRecord.{is_readable, readable_places}
use Rattle.desk.specs.OnDesk.{read_on}
use Rattle.desk.proofs.read_value.Goals as goal

pub returns-then-not-is_readable : goal.returns-then-not-is_readable
unfolding read_on
returns-then-not-is_readable c = rw (← c.is_readable.ensures, c.if-not-is_readable.true, ← c.from.ensures) c.judging_refused.ensures

-- Past the test, b, the net and the plan have their places.
places : (used stages : ℕ) {b : Bool} → b ≡ is_readable used stages → b ≡ true → (used ≤ max_desk_net) × (stages ≤ max_stages)
places used stages e t = readable_places used stages (sym e ∙ t)

pub slice_bounds-net-end : goal.slice_bounds-net-end
slice_bounds-net-end c =
    let e : length c.args.v.net ≡ 4096 = search rules in
    omega (arith, e, (places _ _ c.is_readable.ensures c.if-not-is_readable.false).0)

pub slice_bounds-bytes-end : goal.slice_bounds-bytes-end
slice_bounds-bytes-end c =
    let e : length c.args.v.net ≡ 4096 = search rules in
    let h = (places _ _ c.is_readable.ensures c.if-not-is_readable.false).0 in
    sym (length-take-le c.args.v.used c.args.v.net (omega (arith, e, h)))

pub slice_bounds-plan-end : goal.slice_bounds-plan-end
slice_bounds-plan-end c =
    let e : length c.args.v.plan ≡ 64 = search rules in
    omega (arith, e, (places _ _ c.is_readable.ensures c.if-not-is_readable.false).1)

pub slice_bounds-layers-end : goal.slice_bounds-layers-end
slice_bounds-layers-end c =
    let e : length c.args.v.plan ≡ 64 = search rules in
    let h = (places _ _ c.is_readable.ensures c.if-not-is_readable.false).1 in
    sym (length-take-le c.args.v.stages c.args.v.plan (omega (arith, e, h)))

pub returns : goal.returns
unfolding read_on
returns c = rw (← c.is_readable.ensures, c.if-not-is_readable.false) c.judge.ensures
