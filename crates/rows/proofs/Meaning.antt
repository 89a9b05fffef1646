-- What the rows mean in the tree: the merged row of a layer stands for what the recursion asks on that layer besides the rounded cost, and the best of all
-- layers for what it gives.
use Rattle.std.proofs.Common.{◌≡◌, ap, sym, ◌∙◌, true, List, [], ◌∷◌, map, ℕ, suc, ◌+◌, ◌-◌, ◌*◌, ◌/◌, ◌^◌, ◌≤◌, ◌<◌, min, arith, eqb, leb, get_or, ℤ, pos, ◌+ℤ◌, le-leb}
use Rattle.std.specs.Int.Signed.{le_z}
use Rattle.laws.specs.Basic.{from, sum, lowest}
use Rattle.laws.specs.Booleans.{and_both}
use Rattle.laws.specs.Integers.{le_trans}
use Rattle.laws.specs.Lists.{from_low, from-mem, map_same}
use Rattle.oracle.specs.Stages.{StageTree, driven_by, drives_stage, arrive, driven-mem}
use Rattle.oracle.specs.Programme.{least_on, least-is}
use Rattle.oracle.specs.Timing.{late_count, charge, least_at}
use Rattle.oracle.specs.Band.{Band, LimitOn, limit_sinks, band-agree}
use Rattle.oracle.specs.Windows.{passes_on}
use Rattle.laws.specs.Passing.{keep_same, least_up_to, least_up_to-is}
use Rattle.slices.specs.Laid.{on_layer, limit_on, time_at, no_limit, limit_of}
use Rattle.bands.specs.Entries.{over_delay}
use Rattle.branches.specs.Clauses.{UpTo, driven_ask, Below, Joined}
use Rattle.rows.specs.Clauses.{asked_in, BandsFrom, Represents}

-- What stage i on layer l asks at time t besides its rounded cost.
abbrev pub besides : (T : StageTree) (k width i l : ℕ) → ℤ → ℕ
besides T k width i l t = suc (width - 1) * late_count (T.limits i l) t + sum (map (λ j. least_at T k (width - 1) j (arrive T j l t)) (driven_by T i))

-- What it asks with its rounded cost, by the recursion.
abbrev pub asks_on : (T : StageTree) (k width i : ℕ) → ℤ → ℕ → ℕ
asks_on T k width i t l = least_on T (charge T k (width - 1)) i l t

-- Within the window of stage i a time is no earlier than the first and no later than the last.
pub asked-from : (early late : List ℤ) (i : ℕ) (t : ℤ) → asked_in early late i t ≡ true → le_z (time_at early i) t ≡ true
asked-from early late i t q = (and_both (le_z (time_at early i) t) (le_z t (time_at late i)) q).0

pub asked-to : (early late : List ℤ) (i : ℕ) → UpTo (time_at late i) (asked_in early late i)
asked-to early late i t q = (and_both (le_z (time_at early i) t) (le_z t (time_at late i)) q).1

module _ {T : StageTree} {k : ℕ} {early late : List ℤ} {driver delay : List ℕ} {limit : List ℤ} {cost : List ℕ} {stages layers g width : ℕ}
    (S : Represents T k early late driver delay limit cost stages layers g width) {i l : ℕ} (h : i < stages) (b : l < layers) where
  in_tree : i < T.stages
  in_tree = omega (arith, S.stages-are)

  on-layer : l < T.layers
  on-layer = omega (arith, S.layers-are)

  -- The slices name the stages that stage i drives, and the delays to them.
  ask-is : (f : ℕ → ℤ → ℕ) (t : ℤ) → driven_ask driver delay stages i l f t ≡ sum (map (λ j. f j (arrive T j l t)) (driven_by T i))
  ask-is f t = rw S.stages-are (
      ap (λ js. sum (map (λ j. f j (t +ℤ pos (on_layer delay j l))) js))
      (keep_same (λ j. eqb (get_or driver j 0) i) (drives_stage T i) (from (suc i) (T.stages - suc i))
      (λ j m. ap (λ d. eqb d i) (S.laid.delays.driver-at j (omega (arith, from_low (suc i) (T.stages - suc i) j m))
      (omega (arith, in_tree, from-mem (suc i) (T.stages - suc i) j m)))))
      ∙ ap sum (map_same (λ j. f j (t +ℤ pos (on_layer delay j l))) (λ j. f j (arrive T j l t)) (driven_by T i)
      (λ j m. let (u, v, e) = driven-mem T i j in_tree m in ap (λ d. f j (t +ℤ pos d)) (S.laid.delays.delay-at j l (omega arith) v on-layer)))
      )

  -- The stage's own limit stands for what its late sinks are charged.
  pub own_limit : LimitOn (asked_in early late i) (width - 1) (limit_on limit i l) (λ t. suc (width - 1) * late_count (T.limits i l) t)
  own_limit w c t q = go (T.limits i l) (S.laid.limit_at i l in_tree on-layer)
    where
      go : (rs : List ℤ) → limit_on limit i l ≡ limit_of rs → le_z t (limit_on limit i l) ≡ leb (suc (width - 1) * late_count rs t) w
      go (r ∷ rs) e = ap (le_z t) e ∙ limit_sinks (asked_in early late i) (width - 1) (r ∷ rs) tt w c t q
      go [] e = ap (le_z t) e ∙ le_trans t (time_at late i) no_limit (asked-to early late i t q) (S.under_limit i h)
          ∙ sym (le-leb (suc (width - 1) * 0) w (omega arith))

  module _ {before after : List ℤ} {starts ends : List ℕ} {left : ℕ} {last : ℤ} {row start end over : ℕ} (paid : T.cost i l / 2 ^ k ≤ width - 1) (less : left ≤ width)
      (e : last ≡ time_at late i) (J : Joined before after driver delay limit starts ends stages width left i l last row start end over)
      (D : BandsFrom T k early late before starts ends width (suc i)) where
    below : Below (asked_in early late i) (asked_in early late) (least_at T k (width - 1)) before driver delay starts ends stages width i l
    below = record {
      passes = λ j a c e t q.
          let v : j < T.stages = omega (arith, S.stages-are) in
          let d : on_layer delay j l ≡ T.delay j l = S.laid.delays.delay-at j l (omega arith) v on-layer in
          let s : T.driver j ≡ i = sym (S.laid.delays.driver-at j (omega arith) v) ∙ e in
          rw d (passes_on T k (width - 1) (time_at early) (time_at late) S.windows j l (omega arith) v on-layer (rw s paid) t (rw s q));
      bands = λ j a c. D j a (omega (arith, S.stages-are));
    }

    -- The merged band stands for what the recursion asks on layer l besides the rounded cost.
    pub joined-band : Band (asked_in early late i) (left - 1) (over_delay after row over) start end (besides T k width i l)
    joined-band = band-agree (asked_in early late i) (left - 1) (over_delay after row over) start end
        (λ t. suc (width - 1) * late_count (T.limits i l) t + driven_ask driver delay stages i l (least_at T k (width - 1)) t) (besides T k width i l)
        (λ t q. ap (λ n. min (suc (width - 1) * late_count (T.limits i l) t + n) (suc (left - 1))) (ask-is (least_at T k (width - 1)) t))
        (J.band (asked_in early late i) (asked_in early late) (least_at T k (width - 1)) (λ t. suc (width - 1) * late_count (T.limits i l) t) (rw e (asked-to early late i)) below
        (λ w c. own_limit w (omega arith)))

capped : {a b c : ℕ} (m : ℕ) → a ≡ min m c → b ≡ c → min a m ≡ min b m
capped m p q = omega arith

-- The best of all layers is what the recursion gives.
pub all-layers : {T : StageTree} {k : ℕ} {early late : List ℤ} {driver delay : List ℕ} {limit : List ℤ} {cost : List ℕ} {stages layers g width : ℕ}
    → Represents T k early late driver delay limit cost stages layers g width → {i : ℕ} → i < stages → (l : ℕ) → l ≡ layers → (t : ℤ)
    → min (least_up_to (suc (width - 1)) (asks_on T k width i t) l) (suc (width - 1)) ≡ min (least_at T k (width - 1) i t) (suc (width - 1))
all-layers {T} {k} {width = width} S {i} h l e t =
    let n : ℕ = T.layers - 1 in
    let f : T.layers ≡ suc n = omega (arith, S.tree.some-layer) in
    let last : l ≡ suc n = omega (arith, S.layers-are) in
    let b : least_at T k (width - 1) i t ≡ lowest (asks_on T k width i t) (from 0 (suc n)) =
    least-is T (charge T k (width - 1)) i t (omega (arith, S.stages-are)) ∙ ap (λ m. lowest (asks_on T k width i t) (from 0 m)) f in
    ap (λ m. min (least_up_to (suc (width - 1)) (asks_on T k width i t) m) (suc (width - 1))) last
    ∙ capped (suc (width - 1)) (least_up_to-is (suc (width - 1)) (asks_on T k width i t) n) b
