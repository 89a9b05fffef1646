-- Tables of numbers by node: a row of w columns for the driver and for each of at most max_nodes nodes.
use Rattle.std.specs.Prelude.{◌≡◌, List, ℕ, ◌+◌, ◌*◌, ◌≤◌, ◌<◌, length}
use Rattle.std.proofs.Common.{arith}
use Rattle.rules.specs.Bytes.{max_layers, max_nodes}
use Rattle.words.specs.Held.{Held, held-accepted}
use Rattle.slices.specs.Rows.{entry, RowOf, row_before, place_in}

-- The row of node i.
abbrev pub NodeRow : ℕ → List ℕ → ℕ → Type 0
NodeRow w table i = RowOf (max_nodes + 1) w table i

-- The same with no entry above `most`.
pub record RowMost (w : ℕ) (table : List ℕ) (i most : ℕ) : Type 0 where
  pub row : NodeRow w table i
  pub each : (c : ℕ) → c < w → entry w table i c ≤ most

-- There are no more columns than layers.
pub columns-few : {words : List ℕ} {nodes layers : ℕ} (l w : ℕ) → Held words nodes layers → l + w ≤ layers → w ≤ max_layers
columns-few l w H h = omega (arith, (held-accepted H).few-layers, H.layers-are)

-- Column c of row i.
pub record Place (w : ℕ) (table : List ℕ) (i c : ℕ) : Type 0 where
  pub inside : i * w + c < length table
  pub small : i * w + c < (max_nodes + 1) * max_layers

pub place : {w : ℕ} {old table : List ℕ} {i c : ℕ} → w ≤ max_layers → NodeRow w old i → length table ≡ length old → c < w → Place w table i c
place {w} {i = i} {c = c} few R e h = record { inside = omega (arith, place_in R h); small = omega (arith, row_before w i (max_nodes + 1) c h R.row_in) }
