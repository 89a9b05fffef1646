-- One turn of the loop over the columns, at column c. The row's other entries and the other rows are as they were, so a turn reads what the loop began with.
use mathlib.Core.Path.{◌≡◌}
use mathlib.Core.List.{List}
use Prim.Native.Nat.{ℕ, ◌+◌, ◌*◌, ◌≤◌, ◌<◌}
use native.Mathlib.Omega.{arith}
use lib.ListN.{set}
use Rattle.rules.specs.declared.Kind.{Kind}
use Rattle.rules.specs.Tree.{Net}
use Rattle.rules.specs.Bytes.{max_layers}
use Rattle.rules.specs.Timing.{layer}
use Rattle.facts.specs.Loads.{max_load}
use Rattle.slices.specs.Rows.{entry, Setting, row_kept, next-kept, setting_more}
use Rattle.loads.specs.Tables.{RowMost}
use Rattle.loads.specs.Edges.{lower_of, added_on, EdgeIn}

-- Adding an edge to the load at its upper end: x is the unit capacitance of the layer, y the load at the lower end.
pub load-added : {n : Net} {w : ℕ} {old table : List ℕ} {len : ℕ} {kind : Kind} {l j parent c : ℕ} → w ≤ max_layers → EdgeIn n w old len kind l j
    → RowMost w old parent max_load → parent < j → Setting 0 w old table parent w c (λ k. entry w old parent k + added_on n w old len kind l j k) → c < w
    → {x y : ℕ} → x ≡ (layer n (l + c)).unit_cap → y ≡ lower_of kind (entry w table j c)
    → Setting 0 w old (set table (parent * w + c) (entry w table parent c + len * x + y)) parent w (c + 1)
    (λ k. entry w old parent k + added_on n w old len kind l j k)
load-added {n} {w} {old} {table} {len} {kind} {l} {j} {parent} {c} few E P less F h ex ey =
    let below : entry w table j c ≡ entry w old j c = row_kept F.so_far j c h (λ q. omega arith) in
    let before : entry w table parent c ≡ entry w old parent c = next-kept F (omega arith) h in
    setting_more _ P.row (omega arith) F h (rw (ex, ey, below, before) (omega arith))
