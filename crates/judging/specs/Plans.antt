-- What reading a net with a plan for it leaves to judging.
use Rattle.std.specs.Prelude.{◌≡◌, List, ℕ, Result, IfOk}
use Rattle.rules.specs.declared.Refusal.{Refusal}
use Rattle.rules.specs.Judging.{judged}
use Rattle.rules.specs.Refusals.{answered}
use Rattle.words.specs.Words.{net_in}
use Rattle.words.specs.Held.{Held}
use Rattle.tree.specs.Plans.{Fitting}
use Rattle.reader.specs.declared.NetCounts.{NetCounts}

-- the net that is judged, or the first fault; where there is none, the array holds the net, and the plan is one of it
pub record PlanOfNet (bs x : List ℕ) (r : Result NetCounts Refusal) (words : List ℕ) : Type 0 where
  pub answer : answered (λ n. net_in words) r ≡ judged bs x
  pub held : IfOk r (λ n. Held words n.nodes n.layers)
  pub fits : IfOk r (λ n. Fitting (net_in words) x)
