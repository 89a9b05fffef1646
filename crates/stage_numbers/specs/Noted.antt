-- What one node gives to the numbers of the stages: a buffer the driver of the stage that it drives and the delay to that stage, a sink a limit for its own
-- stage, a Steiner point nothing.
use Rattle.std.specs.Prelude.{◌≡◌, List, ℕ, ◌≤◌, length, set, ℤ, pos}
use Rattle.rules.specs.declared.Kind.{Kind}
use Rattle.rules.specs.declared.Kind.TheVariants.{Steiner, Buffer, Sink}
use Rattle.rules.specs.Bytes.{max_layers, max_stages}
use Rattle.facts.specs.Ranges.{KindInRange}
use Rattle.facts.specs.Fits.{half_range}
use Rattle.slices.specs.Rows.{entry, RowOf, RowSet}
use Rattle.loads.specs.Tables.{RowMost}
use Rattle.stage_numbers.specs.LimitRows.{lowered}

-- What noting node j asks: the row of its delays, a place for each of the stages above and below it, and a required time in its range.
pub record NoteIn (kind : Kind) (layers : ℕ) (delay : List ℕ) (j above own : ℕ) (driver wire : List ℕ) (limit : List ℤ) : Type 0 where
  pub few : layers ≤ max_layers
  pub delays : RowMost layers delay j half_range
  pub driver-long : length driver ≡ max_stages
  pub wire-row : RowOf max_stages max_layers wire own
  pub limit_row : RowOf max_stages max_layers limit above
  pub kind_in_lem : KindInRange kind

-- The tables after node j, which ends an edge of the stage `above`; the wire below it belongs to `own`.
abbrev pub Noted : Kind → ℕ → List ℕ → ℕ → ℕ → ℕ → List ℕ → List ℕ → List ℤ → List ℕ → List ℕ → List ℤ → Type 0
Noted Steiner layers delay j above own driver wire limit driver' wire' limit' = (driver' ≡ driver) × (wire' ≡ wire) × (limit' ≡ limit)
Noted (Buffer c r d) layers delay j above own driver wire limit driver' wire' limit' =
    (driver' ≡ set driver own above) × RowSet 0 max_layers wire wire' own layers (entry layers delay j) × (limit' ≡ limit)
Noted (Sink c r) layers delay j above own driver wire limit driver' wire' limit' =
    (driver' ≡ driver) × (wire' ≡ wire) × RowSet (pos 0) max_layers limit limit' above layers (lowered layers limit delay j r above)
