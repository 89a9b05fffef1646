-- The row of one stage: layer by layer it becomes the best of what the recursion asks on each; then it is raised and cut.
use Rattle.std.proofs.Common.{◌≡◌, refl, sym, ◌∙◌, subst, List, ℕ, suc, ◌+◌, ◌-◌, ◌*◌, ◌≤◌, ◌<◌, arith, add-one, length, get_or, ℤ}
use Rattle.laws.specs.Passing.{least_up_to}
use Rattle.oracle.specs.Stages.{StageTree}
use Rattle.oracle.specs.Timing.{least_at}
use Rattle.oracle.specs.Band.{Marks, band-entries, band-agree, band-raised}
use Rattle.slices.specs.Laid.{max_entry, time_at}
use Rattle.bands.specs.Entries.{row_at, InRange, BandIn, row_outside, row_unmerged}
use Rattle.bands.specs.Clauses.{RaisedRow, Cut}
use Rattle.rows.specs.Clauses.{RowsIn, StageRowIn, LayerIn, Layered, RowKept, asked_in, BandsFrom, Represents, StageRow}
use Rattle.rows.proofs.Meaning.{asks_on, asked-from, asked-to, all-layers}

-- A call can be made again with slices that are as long.
pub rows_again : {table table' : List ℤ} {driver first next delay : List ℕ} {limit : List ℤ} {cost starts ends starts' ends' : List ℕ}
    {stages layers g width : ℕ} → RowsIn table driver first next delay limit cost starts ends stages layers g width
    → length table' ≡ length table → length starts' ≡ length starts → length ends' ≡ length ends
    → RowsIn table' driver first next delay limit cost starts' ends' stages layers g width
rows_again I t s e = record {
  tree = I.tree;
  laid = I.laid;
  stages-are = I.stages-are;
  layers-are = I.layers-are;
  linked = I.linked;
  sized = omega (arith, I.sized);
  starts_long = omega (arith, I.starts_long);
  ends-long = omega (arith, I.ends-long);
  columns = I.columns;
  grain = I.grain;
}

-- The loop begins with table `before`. In `table` the row of stage i is made of the layers before l, in the columns before `top`.
pub record Layering (before : List ℤ) (driver first next delay : List ℕ) (limit : List ℤ) (cost starts ends : List ℕ) (stages layers g width i : ℕ) (from to : ℤ)
    (table : List ℤ) (top l : ℕ) : Type 0 where
  pub asks : StageRowIn before driver first next delay limit cost starts ends stages layers g width i
  pub most : l ≤ layers
  pub fits : top ≤ width
  pub kept : RowKept before table stages width i
  pub range : BandIn max_entry table (i * width) 0 top
  pub marks : (T : StageTree) (k : ℕ) (early late : List ℤ) → Represents T k early late driver delay limit cost stages layers g width
      → from ≡ time_at early i → to ≡ time_at late i → BandsFrom T k early late before starts ends width (suc i)
      → Marks (asked_in early late i) (width - 1) (row_at table (i * width)) 0 top (λ t. least_up_to (suc (width - 1)) (asks_on T k width i t) l)

module _ {before : List ℤ} {driver first next delay : List ℕ} {limit : List ℤ} {cost starts ends : List ℕ} {stages layers g width i : ℕ} {from to : ℤ} where
  module _ {table : List ℤ} {top l : ℕ} (L : Layering before driver first next delay limit cost starts ends stages layers g width i from to table top l) where
    -- The rows of later stages are as they were.
    later : (j w : ℕ) → i < j → j < stages → w < width → row_at table (j * width) w ≡ row_at before (j * width) w
    later j w a c h = L.kept.others (j * width + w) (row_outside width i j w a h) (row_unmerged width stages j w c h)

    pub layer-asks : l < layers → LayerIn table driver first next delay limit cost starts ends stages layers g width i l top
    layer-asks h = record {
      asks = record {
        rows = rows_again L.asks.rows L.kept.long refl refl;
        stage = L.asks.stage;
        finished = λ j a c. let O = L.asks.finished j a c in record {
          order = O.order;
          most = O.most;
          range = λ w p k. subst (InRange max_entry) (sym (later j w a c (omega (arith, O.most)))) (O.range w p k);
        };
      };
      inside = h;
      fits = L.fits;
      range = L.range;
    }

    -- One layer more.
    pub layer-more : {after : List ℤ} {r : ℕ} {from' to' : ℤ} → l < layers → from' ≡ from → to' ≡ to
        → Layered table after driver delay limit cost starts ends stages layers g width i l from' to' top r
        → Layering before driver first next delay limit cost starts ends stages layers g width i from to after r (l + 1)
    layer-more h p q P = record {
      asks = L.asks;
      most = omega arith;
      fits = P.fits;
      kept = record { long = P.kept.long ∙ L.kept.long; others = λ m o u. P.kept.others m o u ∙ L.kept.others m o u };
      range = P.range;
      marks = λ T k early late S ef el D.
          let now : BandsFrom T k early late table starts ends width (suc i) = λ j a b.
          let O = L.asks.finished j a (omega (arith, S.stages-are)) in
          band-entries (asked_in early late j) (width - 1) (row_at before (j * width)) (row_at table (j * width)) (get_or starts j 0) (get_or ends j 0) (least_at T k (width - 1) j)
          (λ w u v. later j w a (omega (arith, S.stages-are)) (omega (arith, O.most))) (D j a b) in
          rw (add-one l) (P.marks T k early late S (p ∙ ef) (q ∙ el) now (λ t. least_up_to (suc (width - 1)) (asks_on T k width i t) l) (L.marks T k early late S ef el D));
    }

    -- After the last layer the row is raised and cut.
    pub layer_end : {after : List ℤ} {from' to' : ℤ} {start end : ℕ} → from' ≡ from → to' ≡ to → layers ≤ l → RaisedRow table after (i * width) top
        → Cut after (i * width) top from' to' start end
        → StageRow before after driver delay limit cost starts ends stages layers g width i from to start end
    layer_end {after} {start = start} {end = end} p q h R C = record {
      kept = record {
        long = R.kept.long ∙ L.kept.long;
        others = λ m o u. R.kept.others m (λ w k e. o w (omega (arith, L.fits)) e) ∙ L.kept.others m o u;
      };
      order = C.order;
      most = omega (arith, C.most, L.fits);
      range = λ w a k. R.range w (omega arith) (omega (arith, C.most));
      band = λ T k early late S ef el D.
          let whole : ℤ → ℕ = λ t. least_up_to (suc (width - 1)) (asks_on T k width i t) l in
          let raised = band-raised (asked_in early late i) (width - 1) (row_at table (i * width)) (row_at after (i * width)) 0 top whole (L.marks T k early late S ef el D)
          R.raised (omega arith) (omega (arith, L.fits, L.asks.rows.columns)) in
          band-agree (asked_in early late i) (width - 1) (row_at after (i * width)) start end whole (least_at T k (width - 1) i)
          (λ t z. all-layers S L.asks.stage l (omega (arith, L.most)) t)
          (C.band (asked_in early late i) (width - 1) whole (λ t z. rw (p, ef) (asked-from early late i t z)) (λ t z. rw (q, el) (asked-to early late i t z)) raised);
    }
