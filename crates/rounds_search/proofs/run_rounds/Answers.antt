-- `run_rounds` is right: the plan known is the one that 01 chooses at k and the best is the cheapest seen so far; each round keeps that at the next k, and a round
-- that does not fit, or the last that is due, ends it.
use borrow.Author.Rules.{rules}
use mathlib.Core.Path.{refl}
use native.Mathlib.Omega.{arith}
use Rattle.rounds_search.specs.Clauses.{run_room}
use Rattle.rounds_search.proofs.Rounds.{priced-first, running_start, running_end, next_round_in, running_short, priced-next, running_more}
use Rattle.rounds_search.proofs.run_rounds.Goals as goal

pub rounded_cost-least-requires : goal.rounded_cost-least-requires
rounded_cost-least-requires c = priced-first c.requires (omega arith)

pub loop-k-init : goal.loop-k-init
loop-k-init c =
    (refl, running_start (run_room (search rules) c.requires) _ refl c.copy_plan.ensures c.rounded_cost-least.ensures)

pub next_round-next-requires : goal.next_round-next-requires
next_round-next-requires c = next_round_in c.loop-k.invariant.1 (omega arith) (run_room (search rules) c.requires)

pub returns-in_default : goal.returns-in_default
returns-in_default c = λ T N f. rw c.loop-k.invariant.0 (running_short c.loop-k.invariant.1 (omega arith) c.in_default.ensures T N f)

pub keep_cheaper-least-requires : goal.keep_cheaper-least-requires
keep_cheaper-least-requires c =
    priced-next c.loop-k.invariant.1 (omega arith) c.in-Some.ensures (run_room (search rules) c.requires) (search rules)

pub loop-k-preserved : goal.loop-k-preserved
loop-k-preserved c = (
  refl,
  running_more c.loop-k.invariant.1 (omega arith) c.in-Some.ensures c.loop-k-test.true
      (search rules) (search rules) (search rules) c.keep_cheaper-least.ensures,
)

pub returns : goal.returns
returns c = λ T N f.
    rw c.loop-k.invariant.0 (running_end c.loop-k.invariant.1 (omega arith) T N f)
