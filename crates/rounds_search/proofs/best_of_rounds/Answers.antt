-- `best_of_rounds` is right: what the rounds find is the outcome, and what is left behind is what 02 says of that outcome.
use Rattle.rounds_search.proofs.Outcomes.{best-planned}
use Rattle.rounds_search.proofs.best_of_rounds.Goals as goal

pub returns : goal.returns
returns c = λ T N.
    best-planned _ _ _ _ _ _ _ _ _ _ (c.search_rounds-outcome.ensures T N) c.leave.ensures
