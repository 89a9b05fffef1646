-- The layers of either edition (01, Net bytes; 02, wish 5): a net without vias, and what a layers field that is due holds, 1 to 16 layers of the size that
-- its tag says and no byte more.
use Rattle.std.specs.Prelude.{◌≡◌, refl, Bool, true, false, ◌||◌, List, ℕ, ◌+◌, ◌*◌, ◌/◌, ◌%◌, ◌≤◌, ◌<◌, eqb, length, get_or, if◌then◌else◌}
use Rattle.std.proofs.Common.{◌∙◌, arith, mul-le-mul, eqb-true}
use Rattle.std.proofs.Math.Decide.{dec_lt}
use Rattle.std.proofs.lemmas.List.{length-map}
use Rattle.std.proofs.Math.ListN.{get_or-eq_default}
use Rattle.laws.specs.Basic.{from, within}
use Rattle.laws.specs.Booleans.{and_three, within-true}
use Rattle.laws.specs.Lists.{length_from}
use Rattle.rules.specs.Tree.{Net, layer_count}
use Rattle.rules.specs.Timing.{layer}
use Rattle.rules.specs.Bytes.{Field, max_layers, layers_tag, via_layers_tag, layer_size, due_layers, layer_at, layers_at}

-- All vias of the net have resistance 0. (Where there is no layer l, its numbers count as 0.)
abbrev pub NoVias : Net → Type 0
NoVias n = (l : ℕ) → (layer n l).via_res ≡ 0

-- It is enough to look at the layers that there are.
pub no_vias : (n : Net) (k : ℕ) → layer_count n ≤ k → ((m : ℕ) → m < k → (layer n m).via_res ≡ 0) → NoVias n
unfolding layer layer_count
no_vias n k h each l = go (dec_lt l k)
  where
    go : Dec (l < k) → (get_or n.layers l (record { unit_res = 0; unit_cap = 0; via_res = 0 })).via_res ≡ 0
    go (yes low) = each l low
    go (no high) = rw (get_or-eq_default n.layers (record { unit_res = 0; unit_cap = 0; via_res = 0 }) {n = l} (omega arith)) refl

-- A payload of so many bytes holds so many layers of this size.
pub record LayersHeld (width size : ℕ) : Type 0 where
  pub long : width ≤ size
  pub some : 1 ≤ size / width
  pub few : size / width ≤ max_layers
  pub whole : width * (size / width) ≡ size
  -- Of either edition: a layer has 4 to 6 bytes.
  pub units : 4 ≤ width
  pub narrow : width ≤ 6

pub layers-held : (tag size : ℕ) → due_layers tag size ≡ true → LayersHeld (layer_size tag) size
unfolding due_layers
layers-held tag size e =
    let (a, b, c) = and_three (eqb tag layers_tag || eqb tag via_layers_tag) (within (layer_size tag) (layer_size tag * max_layers) size)
    (eqb (size % layer_size tag) 0) e in
    go (eqb tag via_layers_tag) b c
  where
    width : Bool → ℕ
    width vias = if vias then 6 else 4

    go : (vias : Bool) → within (width vias) (width vias * max_layers) size ≡ true → eqb (size % width vias) 0 ≡ true → LayersHeld (width vias) size
    go true b c =
        let (low, high) = within-true 6 (6 * max_layers) size b in
        let none = eqb-true (size % 6) 0 c in
        record { long = low; some = omega arith; few = omega arith; whole = omega arith; units = omega arith; narrow = omega arith }
    go false b c =
        let (low, high) = within-true 4 (4 * max_layers) size b in
        let none = eqb-true (size % 4) 0 c in
        record { long = low; some = omega arith; few = omega arith; whole = omega arith; units = omega arith; narrow = omega arith }

-- Layer k of it ends within the payload.
pub layer-inside : {width size : ℕ} → LayersHeld width size → (k : ℕ) → k < size / width → width * k + width ≤ size
layer-inside {width} {size} H k h =
    let same : width ≤ width = omega arith in
    let next : k + 1 ≤ size / width = omega arith in
    let p = mul-le-mul same next in
    omega (arith, H.whole)

-- A layers field has at most 96 bytes.
pub layers-short : (tag size : ℕ) → due_layers tag size ≡ true → size ≤ 6 * max_layers
layers-short tag size e = let H = layers-held tag size e in omega (arith, H.whole, mul-le-mul H.narrow H.few)

-- The number of its layers.
pub layer-number : (bs : List ℕ) (f : Field) → length (layers_at bs f) ≡ f.size / layer_size f.tag
unfolding layers_at
layer-number bs f =
    length-map (from 0 (f.size / layer_size f.tag)) (λ k. layer_at bs f.tag (f.start + layer_size f.tag * k)) ∙
    length_from 0 (f.size / layer_size f.tag)
