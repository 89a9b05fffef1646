-- The two functions are right together: a stage takes the least that its terminals ask, a terminal's time is given or is that of the stage it drives. The
-- links lead to every terminal of the stage, for they pass over none. Each call goes to a later node, so the nodes that remain fall.
use mathlib.Core.Path.{◌≡◌, ap, ◌∙◌}
use native.Mathlib.Omega.{arith}
use lib.IntN.{ℤ, pos, ◌-ℤ◌}
use lib.ListN.{get_or}
use mir.Facts.{to_z-of_z}
use mir.Syntax.{w64}
use mir.Val.{to_z, of_z}
use borrow.Author.Rules.{sfits_of}
use Rattle.words.specs.declared.Node.{Node}
use Rattle.delays.specs.Earlier.{earlier-is}
use Rattle.required.proofs.Loop.{sizes, entered, required-start, required_end, after-root, onward, required-take, asked_fine}
use Rattle.required.proofs.+stage_required_terminal_required.Goals as goal

pub stage_required-offset_bounds-tables-tables : goal.stage_required-offset_bounds-tables-tables
stage_required-offset_bounds-tables-tables t c =
    let z = sizes c.args.net.now.held c.requires.0.1 in
    let e = entered c.args.net.now.held c.requires.0.1 c.requires.1 c.requires.2 in
    omega arith

pub stage_required-bounds-tables-tables : goal.stage_required-bounds-tables-tables
stage_required-bounds-tables-tables t c =
    let z = sizes c.args.net.now.held c.requires.0.1 in
    let e = entered c.args.net.now.held c.requires.0.1 c.requires.1 c.requires.2 in
    omega arith

pub stage_required-loop-j-init : goal.stage_required-loop-j-init
stage_required-loop-j-init t c = λ plan T. required-start c.args.net.now.held T c.requires.1 c.requires.2

pub stage_required-node-kind-requires : goal.stage_required-node-kind-requires
stage_required-node-kind-requires t c =
    let (plan, T) = c.requires.0 in
    ((c.loop-j.invariant plan T).some, c.loop-j-test.true)

pub stage_required-terminal_required-time-requires :
    goal.stage_required-terminal_required-time-requires
stage_required-terminal_required-time-requires t c =
    let (plan, T) = c.requires.0 in
    let g = c.loop-j.invariant plan T in
    let b = c.loop-j-test.true in
    let l = after-root c.args.net.now.held T c.requires.1 c.requires.2 g b in
    (omega (arith, c.decreases), ((plan, T), g.some, b, ap (λ (r : Node). r.kind) c.node-kind.ensures))

pub stage_required-less-asked-requires : goal.stage_required-less-asked-requires
stage_required-less-asked-requires t c =
    let (plan, T) = c.requires.0 in
    let b = c.terminal_required-time in
    let eb : to_z w64 (of_z w64 b.result) ≡ b.result = to_z-of_z {w = w64} {z = b.result} (sfits_of b.type_inv) in
    rw eb (asked_fine c.args.net.now.held T c.requires.1 c.requires.2 (c.loop-j.invariant plan T) c.loop-j-test.true (b.ensures plan T))

pub stage_required-loop-j-smaller : goal.stage_required-loop-j-smaller
stage_required-loop-j-smaller t c =
    let (plan, T) = c.requires.0 in
    let l = onward c.args.net.now.held T c.requires.1 c.requires.2 (c.loop-j.invariant plan T) c.loop-j-test.true in
    omega arith

pub stage_required-loop-j-preserved : goal.stage_required-loop-j-preserved
stage_required-loop-j-preserved t c =
    let terminal = c.terminal_required-time in
    let taken = c.less-asked in
    let least = c.min-least in
    λ plan T. rw (to_z-of_z (sfits_of least.type_inv)) (rw (least.ensures.value, earlier-is _ _)
    (rw (to_z-of_z {w = w64} {z = taken.result} (sfits_of taken.type_inv) ∙ taken.ensures ∙
    ap (λ (z : ℤ). z -ℤ pos (get_or c.args.tables.now.delay.now c.loop-j.j 0)) (to_z-of_z {w = w64} {z = terminal.result} (sfits_of terminal.type_inv)))
    (required-take c.args.net.now.held T c.requires.1 c.requires.2 (c.loop-j.invariant plan T) c.loop-j-test.true (terminal.ensures plan T))))

pub stage_required-returns : goal.stage_required-returns
stage_required-returns t c = λ plan T. required_end c.args.net.now.held T c.requires.1 c.requires.2 (c.loop-j.invariant plan T) c.loop-j-test.false
