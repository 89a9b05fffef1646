-- `search_rounds` is right: the test of timing is the round at the largest k, so where some plan meets timing and there is a column the rounds go on from it; where
-- no plan does, the table has not been handed on.
use mathlib.Core.Path.{refl}
use native.Mathlib.Omega.{arith}
use Rattle.rounds.specs.Clauses.{feasible_meets}
use Rattle.rounds_search.proofs.Outcomes.{run_in, rounds-explored}
use borrow.Author.Rules.{rules}
use Rattle.rounds_search.proofs.search_rounds.Goals as goal

pub returns-then-not-feasible : goal.returns-then-not-feasible
returns-then-not-feasible c = λ T N.
    ((c.feasible.ensures T N).none c.if-not-feasible.true, refl)

pub returns-then-table-tree : goal.returns-then-table-tree
returns-then-table-tree c = λ T N.
    let F = c.feasible.ensures T N in
    ((_, feasible_meets F c.if-not-feasible.false), omega arith, refl)

pub run_rounds-requires : goal.run_rounds-requires
run_rounds-requires c = run_in c.requires (omega arith) (search rules) c.feasible.ensures c.if-not-feasible.false

pub returns : goal.returns
returns c = λ T N.
    let chosen = (c.feasible.ensures T N).chosen c.if-not-feasible.false in
    rounds-explored _ _ _ _ _ _ _ (c.run_rounds.ensures T N chosen) (search rules)
