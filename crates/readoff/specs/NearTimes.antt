-- How far from 0 times lie: one delay can be added to a time that is not far from 0.
use Rattle.std.specs.Prelude.{◌≡◌, ℕ, ◌+◌, ◌≤◌, ℤ, pos, ◌+ℤ◌}
use Rattle.std.proofs.Common.{arith, to_z-of_z, SFits, to_z, of_z}
use Rattle.std.proofs.Math.Facts.{to_z_pos}
use Rattle.std.specs.Int.{w64}
use Rattle.laws.specs.Integers.{up, down, fits-parts, plus-up, plus-down}
use Rattle.rules.specs.Bytes.{max_time}
use Rattle.slices.specs.Laid.{max_delay}
use Rattle.readoff.specs.Clauses.{Near}

-- How far from 0 a time can lie after delays that add up to at most d.
abbrev pub Bounded : ℕ → ℤ → Type 0
Bounded d t = (up t ≤ max_time + d) × (down t ≤ max_time)

module _ (t : ℤ) (d : ℕ) where
  pub near_fits : Near t → d ≤ max_delay → SFits w64 (t +ℤ pos d)
  near_fits near h = fits-parts (t +ℤ pos d) (omega (arith, plus-up t d)) (omega (arith, plus-down t d))

  pub near-sum : SFits w64 t → d ≤ max_delay → to_z w64 (of_z w64 t) +ℤ to_z w64 d ≡ t +ℤ pos d
  near-sum fit h = rw (to_z-of_z fit, to_z_pos w64 {n = d} (omega arith))
