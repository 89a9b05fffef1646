-- 01, 'Judging': takes net bytes and a plan, gives exact cost and slack.
use Rattle.std.specs.Prelude.{List, ℕ, eqb, length, pos}
use Rattle.rules.specs.declared.Judged.{Judged}
use Rattle.rules.specs.Tree.{Net, stages, are_layers}
use Rattle.rules.specs.Timing.{slack, cost}
use Rattle.rules.specs.Reading.{Answer, accept, refuse, ◌>>=◌, ◌>>◌, ◌unless◌, read}

-- The net that is judged with plan x. Refusals, in this order: 1 to 6 of the net; 7, plan length is not s; 8, a layer number not below the layer count.
unfoldable pub judged : List ℕ → List ℕ → Answer Net
judged bs x = do
  n ← read bs
  7 unless eqb (length x) (stages n)
  8 unless are_layers n x
  accept n

-- What judging answers. Accepted: cost and slack, also where slack is negative. Refused: the number, and zeros.
unfoldable pub judge : List ℕ → List ℕ → Judged
judge bs x = elim (judged bs x) [
  | accept n ↦ record { refusal = 0; cost = cost n x; slack = slack n x }
  | refuse r ↦ record { refusal = r; cost = 0; slack = pos 0 }
]
