-- `slack_by` is right: the links hold the terminals of each stage, so the driver's required time is that of stage 0, and slack is that minus the arrival time.
use borrow.Author.Rules.{sfits_of}
use mathlib.Core.Path.{◌≡◌, refl, ap, ◌∙◌}
use native.Mathlib.Omega.{arith}
use mathlib.Core.List.{List}
use Prim.Native.Nat.{ℕ}
use mir.Syntax.{w64}
use mir.Facts.{to_z-of_z}
use Rattle.rules.specs.Tree.{Net}
use Rattle.rules.specs.Timing.{required}
use Rattle.words.specs.Held.{held-accepted}
use Rattle.words.specs.Net.{held, net_of}
use Rattle.tree.specs.Staged.{Staged, staged_of, with_edges}
use Rattle.tree.specs.Plans.{Fitting}
use Rattle.delays.specs.Delayed.{PlanDelays}
use Rattle.required.specs.Links.{TerminalsLinked}
use Rattle.required.specs.Timed.{Timed}
use Rattle.timing.specs.Slack.{slack-is, slack_difference, drives-zero}
use Rattle.timing.proofs.slack_by.Goals as goal

-- What the required times rest on, for a plan with these delays.
timed : {n : Net} {stage below first next delay plan : List ℕ} → Staged n stage below → TerminalsLinked n first next → PlanDelays n plan delay
    → Fitting n plan → Timed n below first next delay plan
timed {stage = s} S L D F = record { stage = s; staged = S; linked = L; delayed = D; fits = F }

-- The driver's required time under such a plan.
time-is : (c : goal.After-arrival-arrives) (plan : List ℕ) → Fitting (net_of c.args.staged.now.net) plan
    → PlanDelays (net_of c.args.staged.now.net) plan c.args.delay.now
    → c.stage_required-required.result ≡ required (net_of c.args.staged.now.net) plan 0
time-is c plan F D =
    c.stage_required-required.ensures plan (timed (staged_of c.args.staged.now.staged) c.link_terminals.ensures D F) ∙ ap (required _ plan) (drives-zero _)

pub stage_required-required-requires : goal.stage_required-required-requires
stage_required-required-requires c =
    let (plan, F, D) = c.requires in
    ((plan, timed (staged_of c.args.staged.now.staged) c.link_terminals.ensures D F), omega arith, refl)

pub overflow_sub-result : goal.overflow_sub-result
overflow_sub-result c =
    let (plan, F, D) = c.requires in
    rw (to_z-of_z (sfits_of {w = w64} c.stage_required-required.type_inv), to_z-of_z (sfits_of {w = w64} c.arrival-arrives.type_inv))
    (slack_difference (held-accepted (held c.args.staged.now.net.held)) plan (time-is c plan F D) c.arrival-arrives.ensures)

pub returns : goal.returns
returns c = λ plan F D.
    to_z-of_z (overflow_sub-result c) ∙
    rw (to_z-of_z (sfits_of {w = w64} c.stage_required-required.type_inv), to_z-of_z (sfits_of {w = w64} c.arrival-arrives.type_inv))
    (slack-is _ plan (time-is c plan F D) c.arrival-arrives.ensures)

pub invariant_of-edges : goal.invariant_of-edges
invariant_of-edges c = record { staged = with_edges c.args.staged.now.staged }
