-- What is found once for each call: what the links ask of the slices.
use mathlib.Core.List.{List}
use Prim.Native.Nat.{ℕ, zero, suc, ◌<◌}
use native.Mathlib.Omega.{arith}
use lib.ListN.{get_or}
use lib.IntN.{ℤ}
use Rattle.fanout.specs.Clauses.{LinkIn}
use Rattle.rounds.specs.Clauses.{PrepareIn}

module _ {driver delay first next : List ℕ} {early late : List ℤ} {stages layers : ℕ} {arrival : ℤ}
    (I : PrepareIn driver delay first next early late stages layers arrival) where
  pub link_in : LinkIn driver first next stages
  link_in = record {
    owners = omega (arith, I.windows.laid.driver-long, I.windows.stages-are);
    firsts = I.firsts;
    nexts = I.nexts;
    lower = lower;
  }
    where
      lower : (j : ℕ) → 0 < j → j < stages → get_or driver j 0 < j
      lower zero a b = absurd (omega arith)
      lower (suc j) a b = let W = I.windows in omega (arith, W.laid.driver-at (suc j) a (omega (arith, W.stages-are)), W.lower j)
