-- How much of 64 bits the largest times take with lengths up to 4,000 (02, wish 3) and with vias (02, wish 5). Every bound is computed from the ranges of 01
-- and 02, so that this theorem fails where a range or a bound grows too far.
use Rattle.std.specs.Prelude.{◌≡◌, refl, ℕ, ◌+◌, ◌*◌, ◌-◌, ◌^◌, ◌<◌}
use Rattle.std.proofs.Common.{arith}
use Rattle.rules.specs.Bytes.{max_via_res, max_nodes}
use Rattle.facts.specs.Loads.{max_load}
use Rattle.facts.specs.Bounds.{max_terminal_via, max_way_delay, max_slack}
use Rattle.facts.specs.Fits.{half_range}

-- The most that vias can add for one node on the way: that at the root of a stage, and that at a terminal.
abbrev pub max_node_vias : ℕ
max_node_vias = 2 * max_via_res * max_load + max_terminal_via

-- What the largest load, delay and slack are, and their shares of what there is room for: 2^32 for a load, which is kept in 32 bits; 2^61 for the delays along
-- a way, which planning adds to times (`max_delay`, slices/specs/Laid.antt); 2^62 for a time. What vias take of the delay, and what is left below 2^61.
pub record TimesTake : Type 0 where
  pub load_is : max_load ≡ 1045500000
  pub load-share : 100 * max_load < 25 * 2 ^ 32
  pub way_is : max_way_delay ≡ 2190754011000000000
  pub way_share : 1000 * max_way_delay < 951 * 2 ^ 61
  pub vias-are : max_nodes * max_node_vias ≡ 533256000000000
  pub way_left : 2 ^ 61 - max_way_delay ≡ 115088998213693952
  pub slack-is : max_slack ≡ 2192754011000000000
  pub slack-share : 100 * max_slack < 48 * half_range

pub times_take : TimesTake
times_take = record {
  load_is = refl;
  load-share = omega arith;
  way_is = refl;
  way_share = omega arith;
  vias-are = refl;
  way_left = refl;
  slack-is = refl;
  slack-share = omega arith;
}
