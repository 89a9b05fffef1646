-- One layer of a stage: what it adds to the row that holds the layers before it.
use Rattle.std.proofs.Common.{◌≡◌, refl, ap, sym, ◌∙◌, subst, true, List, inl, inr, ℕ, suc, ◌+◌, ◌-◌, ◌*◌, ◌/◌, ◌^◌, ◌≤◌, ◌<◌, min, arith, length, ℤ, pos, ◌-ℤ◌}
use Rattle.std.proofs.Math.Decide.{dec_le}
use Rattle.std.specs.Int.Signed.{le_z, lt_z}
use Rattle.laws.specs.Integers.{le_true, le_false, false_le, lt_true}
use Rattle.rules.specs.Bytes.{max_layers}
use Rattle.oracle.specs.Stages.{StageTree}
use Rattle.oracle.specs.Programme.{least_on}
use Rattle.oracle.specs.Timing.{late_count, charge}
use Rattle.oracle.specs.Band.{Band, SpentBand, limit_late, band-entries, marks-more, marks-agree, marks_spend}
use Rattle.slices.specs.Laid.{Laid, on_layer, limit_on, time_at, max_entry, delay_in_range}
use Rattle.bands.specs.Entries.{row_at, over_delay, merged_low, never, never-range, InRange, BandIn, row_ends, row_unmerged}
use Rattle.bands.specs.Clauses.{SpendIn, Spent, Widened}
use Rattle.branches.specs.Clauses.{BranchesIn, Joined}
use Rattle.rows.specs.Clauses.{LayerIn, Layered, asked_in, Represents}
use Rattle.rows.proofs.Meaning.{besides, asked-from, own_limit, joined-band}

-- Each limit is in its range.
limit_in_range : {T : StageTree} {driver delay : List ℕ} {limit : List ℤ} {cost : List ℕ} → Laid T driver delay limit cost
    → (i l : ℕ) → i < T.stages → l < T.layers → InRange max_entry (limit_on limit i l)
limit_in_range L i l a b = let (u, d) = L.limit_most i l a b in rw (L.limit_at i l a b) (record { above = u; below = d })

-- A layer's rounded cost and what it asks besides are what the recursion charges for it.
layer-cost : (T : StageTree) (k width i l : ℕ) (t : ℤ) (c : ℕ) → c ≡ T.cost i l / 2 ^ k
    → c + besides T k width i l t ≡ least_on T (charge T k (width - 1)) i l t
layer-cost T k width i l t c e = omega arith

module _ {table : List ℤ} {driver first next delay : List ℕ} {limit : List ℤ} {cost starts ends : List ℕ} {stages layers g width i l top : ℕ}
    (I : LayerIn table driver first next delay limit cost starts ends stages layers g width i l top) where
  abbrev c : ℕ
  c = on_layer cost i l / g

  -- The stage and the layer are of the tree that the slices hold.
  in_tree : i < I.asks.rows.tree.stages
  in_tree = omega (arith, I.asks.rows.stages-are, I.asks.stage)

  on-layer : l < I.asks.rows.tree.layers
  on-layer = omega (arith, I.asks.rows.layers-are, I.inside)

  few-layers : l < max_layers
  few-layers = omega (arith, on-layer, I.asks.rows.laid.delays.few-layers)

  limit_in : i * max_layers + l < length limit
  limit_in = omega (arith, I.asks.rows.laid.limit_long, few-layers, in_tree)

  pub branches_in : c < width → BranchesIn table driver first next delay limit starts ends stages width (width - c) i l
  branches_in cheap = let W = I.asks.rows in record {
    some_left = omega arith;
    left-most = omega arith;
    stage = I.asks.stage;
    sized = W.sized;
    linked = W.linked;
    starts_long = W.starts_long;
    ends-long = W.ends-long;
    delays = λ j a b. omega (arith, W.laid.delays.delay-long, W.stages-are, few-layers);
    limits = limit_in;
    delay-range = λ j a b. delay_in_range W.laid.delays j l (omega arith) (omega (arith, W.stages-are)) on-layer;
    limit_range = limit_in_range W.laid i l in_tree on-layer;
    bands = I.asks.finished;
  }

  rounded-is : {T : StageTree} {k : ℕ} {early late : List ℤ} → Represents T k early late driver delay limit cost stages layers g width → c ≡ T.cost i l / 2 ^ k
  rounded-is {T} S =
      let cost-is = S.laid.costs.cost-at i l (omega (arith, S.stages-are, I.asks.stage)) (omega (arith, S.layers-are, I.inside)) in
      ap (λ n. n / g) cost-is ∙ ap (λ n. T.cost i l / n) S.grain-is

  -- A layer that is charged more than every budget, at every time asked, changes nothing.
  unchanged : {from to : ℤ} → ((T : StageTree) (k : ℕ) (early late : List ℤ) → Represents T k early late driver delay limit cost stages layers g width
      → from ≡ time_at early i → (t : ℤ) → asked_in early late i t ≡ true → width ≤ least_on T (charge T k (width - 1)) i l t)
      → Layered table table driver delay limit cost starts ends stages layers g width i l from to top top
  unchanged dear = record {
    kept = record { long = refl; others = λ m o q. refl };
    fits = I.fits;
    range = I.range;
    marks = λ T k early late S ef el D f M. marks-agree (asked_in early late i) (width - 1) (row_at table (i * width)) 0 top f
        (λ t. min (f t) (least_on T (charge T k (width - 1)) i l t)) (omega (arith, I.fits, I.asks.rows.columns))
        (λ t q. omega (arith, I.asks.rows.columns, dear T k early late S ef t q)) M;
  }

  -- So if it costs more than every budget ..
  pub layer_dear : {from to : ℤ} → width ≤ c → Layered table table driver delay limit cost starts ends stages layers g width i l from to top top
  layer_dear dear = unchanged (λ T k early late S ef t q. let r = rounded-is S in omega arith)

  -- .. or its limit is before every time asked.
  pub layer-late : {from to own from' : ℤ} → own ≡ limit_on limit i l → from' ≡ from → lt_z own from' ≡ true
      → Layered table table driver delay limit cost starts ends stages layers g width i l from to top top
  layer-late {from} {to} {own} {from'} e p n = unchanged (λ T k early late S ef t q.
      let a = le_true (time_at early i) t (asked-from early late i t q) in
      let b = le_false (time_at early i) (limit_on limit i l) (rw (e, p ∙ ef) at (lt_true own from' n)) in
      let d = limit_late (asked_in early late i) (width - 1) (limit_on limit i l) (λ t. suc (width - 1) * late_count (T.limits i l) t)
      (own_limit S I.asks.stage I.inside) t q (false_le t (limit_on limit i l) (omega arith)) in
      omega arith)

  -- A layer: its bands are merged in `joined`, the row is widened in `wide`.
  module _ {joined : List ℤ} {to : ℤ} {row start end over : ℕ} (cheap : c < width)
      (J : Joined table joined driver delay limit starts ends stages width (width - c) i l to row start end over) where
    widen_in : i * width + (c + end) ≤ length joined
    widen_in = omega (arith, J.kept.long, J.fits, row_ends width i stages I.asks.stage, I.asks.rows.sized)

    module _ {wide : List ℤ} {top' : ℕ} (X : Widened joined wide (i * width) top (c + end) top') where
      top_in : top' ≤ width
      top_in = X.most width I.fits (omega (arith, J.fits))

      -- Widening leaves the merged band.
      merged-kept : (w : ℕ) → w < width → row_at wide row w ≡ row_at joined row w
      merged-kept w k = X.kept.others (row + w) (λ u a b. omega (arith, J.low, top_in))

      own_row : (w : ℕ) → w < width → row_at joined (i * width) w ≡ row_at table (i * width) w
      own_row w k = J.kept.others (i * width + w) (row_unmerged width stages i w I.asks.stage k)

      wide_range : BandIn max_entry wide (i * width) 0 top'
      wide_range w a k = go (dec_le top w)
        where
          go : Dec (top ≤ w) → InRange max_entry (row_at wide (i * width) w)
          go (yes q) = subst (InRange max_entry) (sym (X.new w q k)) never-range
          go (no q) = subst (InRange max_entry) (sym (X.same w (omega arith) ∙ own_row w (omega (arith, I.fits)))) (I.range w a (omega arith))

      pub spend_in : SpendIn wide row (i * width) start end c over
      spend_in = record {
        from_in = omega (arith, J.most, J.fits, X.kept.long, J.kept.long, I.asks.rows.sized);
        out_in = omega (arith, X.kept.long, widen_in);
        apart = λ w k v b z. omega (arith, J.low, J.fits);
        small = J.small;
        range-from = λ w a k. subst (InRange merged_low) (ap (λ z. z -ℤ pos over) (sym (merged-kept w (omega (arith, J.fits))))) (J.range w a k);
        range_out = λ w a k. wide_range w (omega arith) (omega (arith, X.to_in));
      }

      pub layer_spent : {from : ℤ} {after : List ℤ} → Spent wide after row (i * width) start end c over
          → Layered table after driver delay limit cost starts ends stages layers g width i l from to top top'
      layer_spent {from} {after} P = record {
        kept = record {
          long = P.kept.long ∙ X.kept.long ∙ J.kept.long;
          others = λ m o q. P.kept.others m (λ w k z. o w (omega (arith, J.fits)) z) ∙ X.kept.others m (λ w k z. o w (omega (arith, top_in)) z) ∙ J.kept.others m q;
        };
        fits = top_in;
        range = range;
        marks = λ T k early late S ef el D f M.
            let rounded = rounded-is S in
            let paid : T.cost i l / 2 ^ k ≤ width - 1 = omega arith in
            let merged = band-entries (asked_in early late i) (width - c - 1) (over_delay joined row over) (over_delay wide row over) start end (besides T k width i l)
            (λ w a b. ap (λ z. z -ℤ pos over) (merged-kept w (omega (arith, J.fits)))) (joined-band S I.asks.stage I.inside paid (omega arith) el J D) in
            let same : width - c - 1 ≡ width - 1 - c = omega arith in
            let wider = marks-more (asked_in early late i) (width - 1) (row_at table (i * width)) (row_at wide (i * width)) 0 top top' f X.top_in
            (λ w b. X.same w b ∙ own_row w (omega (arith, I.fits)))
            (λ w a b t q. ap (le_z t) (X.new w a b) ∙ false_le t never (omega (
              arith,
              le_false (time_at early i) never (S.after_never i I.asks.stage),
              le_true (time_at early i) t (asked-from early late i t q),
            ))) M in
            let spent : SpentBand (asked_in early late i) (width - 1) (row_at wide (i * width)) (over_delay wide row over) (row_at after (i * width)) 0 top' start end c = record {
              low_in = omega arith;
              top_in = X.to_in;
              better = λ w a b z. P.better w a b;
              others = P.others;
            } in
            marks-agree (asked_in early late i) (width - 1) (row_at after (i * width)) 0 top' (λ t. min (f t) (c + besides T k width i l t))
            (λ t. min (f t) (least_on T (charge T k (width - 1)) i l t)) (omega (arith, top_in))
            (λ t q. ap (λ n. min (min (f t) n) (suc (width - 1))) (layer-cost T k width i l t c rounded))
            (marks_spend (asked_in early late i) (width - 1) (row_at wide (i * width)) (over_delay wide row over) (row_at after (i * width)) 0 top' start end c spent f (besides T k width i l)
            (omega arith) wider (subst (λ n. Band (asked_in early late i) n (over_delay wide row over) start end (besides T k width i l)) same merged));
      }
        where
          range : BandIn max_entry after (i * width) 0 top'
          range w a k = go (dec_le (c + start) w) (dec_le (c + end) w)
            where
              go : Dec (c + start ≤ w) → Dec (c + end ≤ w) → InRange max_entry (row_at after (i * width) w)
              go (yes x) (no y) = P.range w x (omega arith)
              go (yes x) (yes y) = subst (InRange max_entry) (sym (P.others w (inr y))) (wide_range w a k)
              go (no x) y = subst (InRange max_entry) (sym (P.others w (inl (omega arith)))) (wide_range w a k)
