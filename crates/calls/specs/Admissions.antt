-- What is known before planning begins: a net that may be planned, or a refusal that leaves table and plan buffer as they were.
use Rattle.std.specs.Prelude.{◌≡◌, List, ℕ, ℤ, length, Result, MatchResult}
use Rattle.rules.specs.declared.Refusal.{Refusal}
use Rattle.rules.specs.Reading.{accept, read}
use Rattle.rules.specs.Refusals.{number_of}
use Rattle.demands.specs.Call.{refused_with}
use Rattle.demands.specs.RoundsCall.{rounds_refused}
use Rattle.words.specs.Words.{net_in}
use Rattle.reader.specs.declared.NetCounts.{NetCounts}
use Rattle.planning.specs.Calls.{Admitted, PlansNet}
use Rattle.rounds_planning.specs.Calls.{RoundsAdmitted, PlansRounds}

-- planning refuses with this number, whatever the table and the buffer of this length hold
pub record EarlyRefused (bs : List ℕ) (p q room r : ℕ) : Type 0 where
  pub kept : (table : List ℤ) (buffer : List ℕ) → length buffer ≡ room → PlansNet bs p q table table buffer buffer (refused_with r)

-- the net that may be planned with share p/q, or the refusal
abbrev pub MayPlan : List ℕ → ℕ → ℕ → ℕ → Result NetCounts Refusal → List ℕ → Type 0
MayPlan bs p q room r words =
    MatchResult r (λ n. (read bs ≡ accept (net_in words)) × Admitted words n.nodes n.layers n.stages p q room) (λ why. EarlyRefused bs p q room (number_of why))

-- the same of planning by rounds
pub record EarlyRoundsRefused (bs : List ℕ) (r room m : ℕ) : Type 0 where
  pub kept : (table : List ℤ) (buffer : List ℕ) → length buffer ≡ room → PlansRounds bs r table table buffer buffer (rounds_refused m)

abbrev pub MayRun : List ℕ → ℕ → ℕ → Result NetCounts Refusal → List ℕ → Type 0
MayRun bs r room found words =
    MatchResult found (λ n. (read bs ≡ accept (net_in words)) × RoundsAdmitted words n.nodes n.layers n.stages r room)
    (λ why. EarlyRoundsRefused bs r room (number_of why))
