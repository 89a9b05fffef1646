-- `plan_tree` is right: what the search finds is the outcome, and what is left behind is what 01 says of that outcome.
use Rattle.search.proofs.Outcomes.{tree-planned}
use Rattle.search.proofs.plan_tree.Goals as goal

pub returns : goal.returns
returns c = λ T P.
    tree-planned _ _ _ _ _ _ _ _ _ _ _ (c.search_tree-outcome.ensures T P) c.leave.ensures
