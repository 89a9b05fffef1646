-- The table of limits: what a sink does to a row of it.
use Rattle.std.specs.Prelude.{List, ℕ, ℤ, pos, ◌-ℤ◌}
use Rattle.laws.specs.Basic.{min_z}
use Rattle.slices.specs.Rows.{entry}
use Rattle.slices.specs.Laid.{limit_on}

-- The limit of stage t on layer l after sink j with this required time: the lesser of what it was and the required time minus the delay to the sink,
-- which the table of delays, with a column for each of `layers` layers, gives.
unfoldable pub lowered : ℕ → List ℤ → List ℕ → ℕ → ℤ → ℕ → ℕ → ℤ
lowered layers limit delay j required t l = min_z (limit_on limit t l) (required -ℤ pos (entry layers delay j l))
