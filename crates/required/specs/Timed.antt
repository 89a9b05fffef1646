-- A net and a plan as the code of required times holds them: the stage below each node, the terminals of each stage as links, and the delay to each node under
-- the plan.
use Rattle.std.specs.Prelude.{List, ℕ}
use Rattle.rules.specs.Tree.{Net}
use Rattle.tree.specs.Staged.{Staged}
use Rattle.tree.specs.Plans.{Fitting}
use Rattle.delays.specs.Delayed.{PlanDelays}
use Rattle.required.specs.Links.{TerminalsLinked}
use Rattle.required.specs.declared.Tables.{Tables}

-- What the code of required times rests on.
pub record Timed (n : Net) (below first next delay plan : List ℕ) : Type 0 where
  pub stage : List ℕ
  pub staged : Staged n stage below
  pub linked : TerminalsLinked n first next
  pub delayed : PlanDelays n plan delay
  pub fits : Fitting n plan

-- The same of the tables together.
abbrev pub TimedBy : Net → Tables → List ℕ → Type 0
TimedBy n tables plan = Timed n tables.below.now tables.first.now tables.next.now tables.delay.now plan
