-- `search_tree` is right: where some plan meets timing, one is known, and the descent from it finds the grain and the plan that 01 chooses, or too few columns;
-- where none does, the table has not been handed on.
use mathlib.Core.Path.{refl}
use Rattle.rounds.specs.Clauses.{feasible_meets}
use Rattle.search.proofs.Outcomes.{descend_in, explored}
use borrow.Author.Rules.{rules}
use Rattle.search.proofs.search_tree.Goals as goal

pub returns-then-not-feasible : goal.returns-then-not-feasible
returns-then-not-feasible c = λ T P. ((c.feasible.ensures T P.numbers).none c.if-not-feasible.true, refl)

pub descend-requires : goal.descend-requires
descend-requires c = descend_in c.requires (search rules) c.feasible.ensures c.if-not-feasible.false

pub returns : goal.returns
returns c = λ T P.
    let M = feasible_meets (c.feasible.ensures T P.numbers) c.if-not-feasible.false in
    explored _ _ _ _ _ _ _ _ _ M (c.descend.ensures T P M) (search rules)
