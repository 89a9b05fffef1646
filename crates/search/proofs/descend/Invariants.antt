-- `descend` is right: none of the k above has qualified, so the first that does is the grain's, and a V(k) that does not fit settles that the grain's
-- does not.
use Rattle.search.proofs.Descent.{Descending}
use Rattle.search.proofs.descend.Given as goal

abbrev pub invariant-loop-k : goal.invariant-loop-k
invariant-loop-k l =
    let t = l.ready.tree in
    Descending l.initial.table t.driver.now t.delay.now t.limit.now t.cost.now t.stages t.layers t.arrival
    l.share.p l.share.q l.initial.known l.columns l.table l.known l.k l.g
