-- The laws that the programs rest on: they hold no more than the front of their input, and the line is the one for the whole input.
use Rattle.std.specs.Prelude.{◌≡◌, List, ℕ, ◌≤◌, take}
use Rattle.rules.specs.Reading.{check}
use Rattle.rules.specs.Planning.{planned}
use Rattle.rules.specs.Program.{program_line}
use Rattle.longest.specs.Longest.{front, read-front}

module _ (M : ℕ) (enough : front ≤ M) (bs : List ℕ) where
  planned-front : (p q entries room : ℕ) → planned (take M bs) p q entries room ≡ planned bs p q entries room
  unfolding planned
  planned-front p q entries room = let e = read-front M enough bs in cc

  pub line-front : program_line (take M bs) ≡ program_line bs
  unfolding program_line
  line-front = let e = planned-front 1 4 8192 64 in cc

  -- What checking answers, and with it the line that is made of it alone.
  pub check-front : check (take M bs) ≡ check bs
  unfolding check
  check-front = let e = read-front M enough bs in cc
