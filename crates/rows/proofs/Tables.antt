-- All rows: those of the stages from i on are finished, and nothing behind the table has changed.
use Rattle.std.proofs.Common.{◌≡◌, sym, ◌∙◌, subst, List, ◌⊎◌, inl, inr, ℕ, ◌+◌, ◌-◌, ◌*◌, ◌≤◌, ◌<◌, arith, length, get_or, set, length-set, get_or-set_same, get_or-set_other, ℤ, pos}
use Rattle.laws.specs.Booleans.{same_or}
use Rattle.oracle.specs.Stages.{StageTree}
use Rattle.oracle.specs.Timing.{least_at}
use Rattle.oracle.specs.Band.{Band, band-entries}
use Rattle.slices.specs.Laid.{max_entry, time_at}
use Rattle.bands.specs.Entries.{row_at, InRange, row_ends, row_outside, row_unmerged}
use Rattle.branches.specs.Clauses.{BandOf}
use Rattle.rows.specs.Clauses.{RowsIn, FinishedFrom, asked_in, BandsFrom, Represents, StageRow, AllRows}

pub record RowsFrom (before : List ℤ) (driver delay : List ℕ) (limit : List ℤ) (cost : List ℕ) (early late : List ℤ) (starts₀ ends₀ : List ℕ)
    (stages layers g width : ℕ) (table : List ℤ) (starts ends : List ℕ) (i : ℕ) : Type 0 where
  pub most : i ≤ stages
  pub long : length table ≡ length before
  pub starts_long : length starts ≡ length starts₀
  pub ends-long : length ends ≡ length ends₀
  pub beyond : (m : ℕ) → (stages + 2) * width ≤ m → get_or table m (pos 0) ≡ get_or before m (pos 0)
  pub range : FinishedFrom table starts ends stages width i
  pub band : (T : StageTree) (k : ℕ) → Represents T k early late driver delay limit cost stages layers g width → BandsFrom T k early late table starts ends width i

module _ {before : List ℤ} {driver delay : List ℕ} {limit : List ℤ} {cost : List ℕ} {early late : List ℤ} {starts₀ ends₀ : List ℕ} {stages layers g width : ℕ} where
  module _ {first next : List ℕ} {table : List ℤ} {starts ends : List ℕ} {i : ℕ} (I : RowsIn before driver first next delay limit cost starts₀ ends₀ stages layers g width)
      (R : RowsFrom before driver delay limit cost early late starts₀ ends₀ stages layers g width table starts ends i) where
    -- One row more.
    pub rows_more : {after : List ℤ} {from to : ℤ} {start end : ℕ} → 0 < i → from ≡ time_at early (i - 1) → to ≡ time_at late (i - 1)
        → StageRow table after driver delay limit cost starts ends stages layers g width (i - 1) from to start end
        → RowsFrom before driver delay limit cost early late starts₀ ends₀ stages layers g width after (set starts (i - 1) start) (set ends (i - 1) end) (i - 1)
    rows_more {after} {from} {to} {start} {end} h ef el P = record {
      most = omega (arith, R.most);
      long = P.kept.long ∙ R.long;
      starts_long = length-set starts (i - 1) start ∙ R.starts_long;
      ends-long = length-set ends (i - 1) end ∙ R.ends-long;
      beyond = λ m a. let p = row_ends width (i - 1) stages (omega (arith, R.most)) in
          P.kept.others m (λ w k e. omega arith) (λ w k e. omega arith) ∙ R.beyond m a;
      range = λ j a b. ranged j a b (same_or (i - 1) j);
      band = λ T k S j a b. meant T k S j a b (same_or (i - 1) j);
    }
      where
        same : (j w : ℕ) → i ≤ j → j < stages → w < width → row_at after (j * width) w ≡ row_at table (j * width) w
        same j w a b k = P.kept.others (j * width + w) (row_outside width (i - 1) j w (omega arith) k) (row_unmerged width stages j w b k)

        start-here : get_or (set starts (i - 1) start) (i - 1) 0 ≡ start
        start-here = get_or-set_same starts (i - 1) start 0 (omega (arith, R.starts_long, I.starts_long, R.most))

        end_here : get_or (set ends (i - 1) end) (i - 1) 0 ≡ end
        end_here = get_or-set_same ends (i - 1) end 0 (omega (arith, R.ends-long, I.ends-long, R.most))

        start-other : (j : ℕ) → (j ≡ i - 1 → ⊥) → get_or (set starts (i - 1) start) j 0 ≡ get_or starts j 0
        start-other j n = get_or-set_other starts (i - 1) j start 0 n

        end_other : (j : ℕ) → (j ≡ i - 1 → ⊥) → get_or (set ends (i - 1) end) j 0 ≡ get_or ends j 0
        end_other j n = get_or-set_other ends (i - 1) j end 0 n

        ranged : (j : ℕ) → i - 1 ≤ j → j < stages → (j ≡ i - 1) ⊎ (j ≡ i - 1 → ⊥) → BandOf after (set starts (i - 1) start) (set ends (i - 1) end) width j
        ranged j a b (inl e) = rw e (record {
          order = rw (start-here, end_here) P.order;
          most = rw end_here P.most;
          range = rw (start-here, end_here) P.range;
        })
        ranged j a b (inr n) = let O = R.range j (omega arith) b in record {
          order = rw (start-other j n, end_other j n) O.order;
          most = rw (end_other j n) O.most;
          range = rw (start-other j n, end_other j n) (λ w p q. subst (InRange max_entry) (sym (same j w (omega arith) b (omega (arith, O.most)))) (O.range w p q));
        }

        meant : (T : StageTree) (k : ℕ) → Represents T k early late driver delay limit cost stages layers g width → (j : ℕ) → i - 1 ≤ j → j < T.stages
            → (j ≡ i - 1) ⊎ (j ≡ i - 1 → ⊥)
            → Band (asked_in early late j) (width - 1) (row_at after (j * width)) (get_or (set starts (i - 1) start) j 0) (get_or (set ends (i - 1) end) j 0) (least_at T k (width - 1) j)
        meant T k S j a b (inl e) = rw e (rw (start-here, end_here) (P.band T k early late S ef el (λ m c d. R.band T k S m (omega arith) d)))
        meant T k S j a b (inr n) =
            let c : j < stages = omega (arith, S.stages-are) in
            let O = R.range j (omega arith) c in
            rw (start-other j n, end_other j n) (band-entries (asked_in early late j) (width - 1) (row_at table (j * width)) (row_at after (j * width)) (get_or starts j 0) (get_or ends j 0)
            (least_at T k (width - 1) j) (λ w p q. same j w (omega arith) c (omega (arith, O.most))) (R.band T k S j (omega arith) b))

    pub rows_end : i ≤ 0 → AllRows before table driver delay limit cost early late starts₀ ends₀ starts ends stages layers g width
    rows_end h = let e : i ≡ 0 = omega arith in record {
      long = R.long;
      starts_long = R.starts_long;
      ends-long = R.ends-long;
      beyond = R.beyond;
      range = rw e at R.range;
      band = λ T k S. rw e at (R.band T k S);
    }
