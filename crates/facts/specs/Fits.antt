-- Loads and delays fit unsigned and times fit signed 64 bits, with room left: all stay within 2^62 of 0. So the sum of two loads or delays, or the
-- difference of two times, fits as well.
use Rattle.std.specs.Prelude.{List, ℕ, ◌+◌, ◌^◌, ◌≤◌, ◌<◌, ℤ, pos, negsuc}
use Rattle.std.proofs.Common.{arith, SFits}
use Rattle.std.specs.Int.{w64}
use Rattle.laws.specs.Integers.{up, down}
use Rattle.rules.specs.Tree.{Net}
use Rattle.rules.specs.Bytes.{max_nodes}
use Rattle.rules.specs.Timing.{gate_delay, wire_delay, slack}
use Rattle.facts.specs.Accepted.{Accepted}
use Rattle.facts.specs.Stages.{EdgeOf}
use Rattle.facts.specs.Bounds.{RequiredIn, delay_in, slack_in}

-- Half of what signed 64 bits hold on each side of 0, and a quarter of what unsigned 64 bits hold.
abbrev pub half_range : ℕ
half_range = 2 ^ 62

-- A time that is less than that away from 0.
abbrev pub TimeFits : ℤ → Type 0
TimeFits z = (up z < half_range) × (down z < half_range)

pub fits_signed : (z : ℤ) → TimeFits z → SFits w64 z
unfolding up down
fits_signed (pos x) h = record { sfits = omega arith }
fits_signed (negsuc x) h = record { sfits = omega arith }

-- A required time within its bounds fits, at any node.
pub bounded-fits : {nodes i : ℕ} {z : ℤ} → nodes ≤ max_nodes → RequiredIn nodes i z → TimeFits z
bounded-fits few h = (omega (arith, h.high), omega (arith, h.low))

module _ {n : Net} (A : Accepted n) where
  -- The whole delay of a stage up to the lower end of an edge, and so each part of it.
  pub delay-fits : (l : ℕ) {t j : ℕ} → EdgeOf n t j → gate_delay n l t + wire_delay n l j < half_range
  delay-fits l {t} e = omega (arith, delay_in A l e, e.inside, A.few-nodes)

  pub slack-fits : (x : List ℕ) → TimeFits (slack n x)
  slack-fits x = let (high, low) = slack_in A x in (omega arith, omega arith)
