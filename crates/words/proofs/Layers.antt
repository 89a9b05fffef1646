-- The layers and the driver: what their writes leave in the array, and their ranges at the values that the code has in hand.
use Rattle.std.specs.Prelude.{if◌then◌else◌}
use mathlib.Core.Path.{◌≡◌, refl, ap, sym, ◌∙◌}
use mathlib.Core.Bool.{Bool, true, false, ◌&&◌}
use mathlib.Core.Logic.{◌⊎◌, inl, inr}
use mathlib.Core.List.{List, map}
use Prim.Native.Nat.{ℕ, ◌+◌, ◌*◌, ◌<◌, ◌≤◌}
use native.Mathlib.Omega.{arith}
use lib.Dec.{leb, eqb}
use lib.ListN.{length, get_or, set, length-set}
use lib.Seq.{get_or-set_same, get_or-set_other}
use lib.IntN.{ℤ}
use Rattle.laws.specs.Basic.{all, from, within}
use Rattle.laws.specs.Booleans.{same_or}
use Rattle.laws.specs.Lists.{scan, scan-start, scan_no, scan-more, scan_end, map-map, map_same, from-mem}
use Rattle.rules.specs.Bytes.{max_layers, max_unit, max_via_res, via_layers_tag, number, signed, layer_size, layer_at, is_layer, driver_at, is_driver, is_kind, is_time}
use Rattle.rules.specs.declared.Kind.{Kind}
use Rattle.words.specs.Words.{caps_at, vias_at, rows_at, kind_of, driver_in, layer_in, layers_in}
use Rattle.words.specs.Puts.{Three, LayerPut, layers_from, LayersPut, DriverPut}
use Rattle.words.proofs.Cells.{halves}

-- one layer: x, y and v are its numbers, a and b whether its units are in their range, as the code has them
module _ (bs : List ℕ) (tag i : ℕ) {x y v : ℕ} {a b : Bool} (ex : x ≡ number bs i 2) (ey : y ≡ number bs (i + 2) 2)
    (ev : v ≡ (if eqb tag via_layers_tag then number bs (i + 4) 2 else 0)) (ea : a ≡ within 1 max_unit x) (eb : b ≡ within 1 max_unit y)
    (old : List ℕ) {l : ℕ} (h : l < max_layers) (room : rows_at ≤ length old) where
  abbrev one : List ℕ
  one = set old l x

  abbrev two : List ℕ
  two = set one (caps_at + l) y

  abbrev put : List ℕ
  put = set two (vias_at + l) v

  first : get_or put l 0 ≡ number bs i 2
  first =
      get_or-set_other two (vias_at + l) l v 0 (λ e. omega arith) ∙ get_or-set_other one (caps_at + l) l y 0 (λ e. omega arith) ∙
      get_or-set_same old l x 0 (omega arith) ∙ ex

  second : get_or put (caps_at + l) 0 ≡ number bs (i + 2) 2
  second =
      get_or-set_other two (vias_at + l) (caps_at + l) v 0 (λ e. omega arith) ∙ get_or-set_same one (caps_at + l) y 0 (omega (arith, length-set old l x)) ∙ ey

  third : get_or put (vias_at + l) 0 ≡ (if eqb tag via_layers_tag then number bs (i + 4) 2 else 0)
  third = get_or-set_same two (vias_at + l) v 0 (omega (arith, length-set one (caps_at + l) y, length-set old l x)) ∙ ev

  other : (m : ℕ) → (m ≡ l → ⊥) → (m ≡ caps_at + l → ⊥) → (m ≡ vias_at + l → ⊥) → get_or put m 0 ≡ get_or old m 0
  other m p q r = get_or-set_other two (vias_at + l) m v 0 r ∙ get_or-set_other one (caps_at + l) m y 0 q ∙ get_or-set_other old l m x 0 p

  layer_row : {r : Bool} → r ≡ a && b && leb v max_via_res → LayerPut bs tag i old (set (set (set old l x) (caps_at + l) y) (vias_at + l) v) l r
  unfolding is_layer layer_at layer_in
  layer_row e = record {
    answer = e ∙ rw (ea, eb, ex, ey, ev);
    is = rw (first, second, third) refl;
    others = λ m d ne.
        rw (
          other m ne (λ q. omega arith) (λ q. omega arith),
          other (caps_at + m) (λ q. omega arith) (λ q. ne (omega arith)) (λ q. omega arith),
          other (vias_at + m) (λ q. omega arith) (λ q. omega arith) (λ q. ne (omega arith)),
        )
        refl;
  }

  pub layer_res : a ≡ false → LayerPut bs tag i old (set (set (set old l x) (caps_at + l) y) (vias_at + l) v) l false
  layer_res e = layer_row (simp e)

  pub layer_cap : a ≡ true → b ≡ false → LayerPut bs tag i old (set (set (set old l x) (caps_at + l) y) (vias_at + l) v) l false
  layer_cap e o = layer_row (simp (e, o))

  pub layer-via : a ≡ true → b ≡ true → LayerPut bs tag i old (set (set (set old l x) (caps_at + l) y) (vias_at + l) v) l (leb v max_via_res)
  layer-via e o = layer_row (simp (e, o))

-- the test of one layer, and of all in turn
unfoldable pub layer_test : List ℕ → ℕ → ℕ → ℕ → Bool
layer_test bs tag i k = is_layer (layer_at bs tag (i + layer_size tag * k))

layers-scan : (bs : List ℕ) (tag i L : ℕ) → scan (layer_test bs tag i) 0 L ≡ all (map is_layer (layers_from bs tag i L))
unfolding layer_test layers_from
layers-scan bs tag i L = scan-start _ L ∙ sym (ap all (map-map is_layer (λ k. layer_at bs tag (i + layer_size tag * k)) (from 0 L)))

-- the layers, before layer k
pub record LayersSoFar (bs : List ℕ) (tag L i : ℕ) (size : ℕ) (words : List ℕ) (k : ℕ) : Type 0 where
  pub inside : k ≤ L
  pub test : scan (layer_test bs tag i) k L ≡ all (map is_layer (layers_from bs tag i L))
  pub each : (l : ℕ) → l < k → layer_in words l ≡ layer_at bs tag (i + layer_size tag * l)
  pub long : length words ≡ size

pub layering_start : (bs : List ℕ) (tag L i : ℕ) (old : List ℕ) → LayersSoFar bs tag L i (length old) old 0
layering_start bs tag L i old = record { inside = omega arith; test = layers-scan bs tag i L; each = λ l h. absurd (omega arith); long = refl }

module _ {bs : List ℕ} {tag L i size : ℕ} {words : List ℕ} {k : ℕ} (U : LayersSoFar bs tag L i size words k) where
  pub layering_end : L ≤ k → LayersPut bs tag L i words true
  unfolding layers_in layers_from
  layering_end h = record {
    answer = sym (scan_end _ _ _ h) ∙ U.test;
    are = λ e. map_same (layer_in words) (λ l. layer_at bs tag (i + layer_size tag * l)) (from 0 L) (λ l m. U.each l (omega (arith, from-mem 0 L l m)));
  }

  -- layer k as it was put, w being the size of a layer as the code has it
  module _ (h : k < L) {w : ℕ} (ew : w ≡ layer_size tag) {new : List ℕ} {b : Bool} (P : LayerPut bs tag (i + w * k) words new k b) where
    test-is : layer_test bs tag i k ≡ b
    unfolding layer_test
    test-is = rw (← ew) (sym P.answer)

    pub layering_no : b ≡ false → LayersPut bs tag L i new false
    layering_no e = record {
      answer = sym (scan_no _ _ h (test-is ∙ e)) ∙ U.test;
      are = λ q. let z : ◌≡◌ {A = ℕ} 0 1 = cc in absurd (omega arith);
    }

    pub layering_more : L ≤ max_layers → length new ≡ length words → b ≡ true → LayersSoFar bs tag L i size new (k + 1)
    layering_more thin same e = record {
      inside = omega arith;
      test = sym (scan-more _ _ h (test-is ∙ e)) ∙ U.test;
      each = λ l d. here l d (same_or k l);
      long = same ∙ U.long;
    }
      where
        here : (l : ℕ) → l < k + 1 → (l ≡ k) ⊎ (l ≡ k → ⊥) → layer_in new l ≡ layer_at bs tag (i + layer_size tag * l)
        here l d (inl q) = rw (q, ← ew) P.is
        here l d (inr ne) = P.others l (omega arith) ne ∙ U.each l (omega arith)

-- layers that are as they were
pub layers-same : (old new : List ℕ) (L : ℕ) → L ≤ max_layers → ((k : ℕ) → k < rows_at → get_or new k 0 ≡ get_or old k 0) → layers_in new L ≡ layers_in old L
unfolding layers_in layer_in
layers-same old new L thin s =
    map_same (layer_in new) (layer_in old) (from 0 L)
    (λ l m. rw (s l (omega (arith, from-mem 0 L l m)), s (caps_at + l) (omega (arith, from-mem 0 L l m)), s (vias_at + l) (omega (arith, from-mem 0 L l m))))

-- the driver
driver-is : (bs : List ℕ) (i : ℕ) {x y c d : ℕ} {g : Kind} {z : ℤ} {a b : Bool} → x ≡ number bs i 4 → y ≡ number bs (i + 4) 4 → c ≡ number bs (i + 8) 4
    → d ≡ number bs (i + 12) 4
    → g ≡ kind_of 4 0 x y → z ≡ signed (c * 4294967296 + d) → a ≡ is_kind g → b ≡ is_time z → a && b ≡ is_driver (driver_at bs i)
unfolding is_driver driver_at kind_of is_kind
driver-is bs i ex ey ec ed eg ez ea eb = rw (ea, eb, eg, ez, halves bs (i + 8) (i + 12) ec ed (omega arith), ex, ey)

module _ (bs : List ℕ) (i : ℕ) {old w1 w2 w3 : List ℕ} {L x y c d : ℕ} {g : Kind} {z : ℤ} {a : Bool} (A : Three old w1 rows_at 4 0 L)
    (B : Three w1 w2 (rows_at + 3) 0 x y) (C : Three w2 w3 (rows_at + 6) c d 0)
    (ex : x ≡ number bs i 4) (ey : y ≡ number bs (i + 4) 4) (ec : c ≡ number bs (i + 8) 4) (ed : d ≡ number bs (i + 12) 4) (eg : g ≡ kind_of 4 0 x y)
    (ez : z ≡ signed (c * 4294967296 + d)) (ea : a ≡ is_kind g) where
  driver-row : {r : Bool} → r ≡ a && is_time z → DriverPut bs L i old w3 r
  unfolding driver_in driver_at
  driver-row e = record {
    answer = e ∙ driver-is bs i ex ey ec ed eg ez ea refl;
    tagged = C.lower rows_at (omega arith) ∙ B.lower rows_at (omega arith) ∙ A.first;
    layered = C.lower (rows_at + 2) (omega arith) ∙ B.lower (rows_at + 2) (omega arith) ∙ A.third;
    is = rw (
      C.lower (rows_at + 4) (omega arith) ∙ B.second ∙ ex,
      C.lower (rows_at + 5) (omega arith) ∙ B.third ∙ ey,
      C.first,
      C.second,
      halves bs (i + 8) (i + 12) ec ed (omega arith),
    );
    lower = λ k h. C.lower k (omega arith) ∙ B.lower k (omega arith) ∙ A.lower k (omega arith);
  }

  pub driver_no : a ≡ false → DriverPut bs L i old w3 false
  driver_no e = driver-row (simp e)

  pub driver-put : {r : Bool} → a ≡ true → r ≡ is_time z → DriverPut bs L i old w3 r
  driver-put e er = driver-row (simp (e, er))
