-- `run_rounds` is right: the plan known is the one that 01 chooses at k and the best is the cheapest seen so far; each round keeps that at the next k, and a round
-- that does not fit, or the last that is due, ends it.
use mathlib.Core.Path.{◌≡◌}
use Rattle.rounds_search.proofs.Rounds.{Running}
use Rattle.rounds_search.proofs.run_rounds.Given as goal

abbrev pub invariant-loop-k : goal.invariant-loop-k
invariant-loop-k l =
    let t = l.ready.tree in
    (l.found.k ≡ l.k) ×
    Running l.initial.table t.driver.now t.delay.now t.limit.now t.cost.now t.stages t.layers t.arrival l.last
    l.initial.known l.initial.best l.columns l.table l.known l.best l.k l.found.g l.found.value l.least
