-- What a sink asks fits 64 bits, and is compared as it is; one layer more of a row of limits; a row of delays copied.
use mathlib.Core.Path.{◌≡◌, ap, ◌∙◌}
use mathlib.Core.List.{List}
use Prim.Native.Nat.{ℕ, suc, ◌+◌, ◌*◌, ◌≤◌, ◌<◌}
use native.Mathlib.Omega.{arith}
use Rattle.std.proofs.lemmas.Grind.{common_steps}
use native.Mathlib.Nat.{mul-le-mul}
use lib.IntN.{ℤ, pos, ◌-ℤ◌}
use lib.ListN.{length, get_or, set, take, drop}
use borrow.Rule.Slice.PartMut.{put_mid}
use Rattle.std.proofs.Math.Decide.{dec_lt}
use Rattle.std.proofs.lemmas.List.{length-drop, length-take-le}
use mir.Facts.{to_z-of_z, to_z_pos}
use mir.Syntax.{w64}
use mir.Val.{SFits, to_z, of_z}
use Rattle.laws.specs.Basic.{min_z}
use Rattle.laws.specs.Integers.{fits-parts, minus_up, minus_down, pos_view}
use Rattle.rules.specs.Bytes.{max_layers, max_nodes, max_stages}
use Rattle.facts.specs.Ranges.{TimeInRange}
use Rattle.facts.specs.Fits.{half_range}
use Rattle.slices.specs.Rows.{entry, RowOf, RowSet, Setting, row_before, next-kept, setting_more}
use Rattle.slices.specs.Laid.{limit_on}
use Rattle.loads.specs.Tables.{NodeRow}
use Rattle.words.specs.Words.{net_in}
use Rattle.words.specs.Held.{Held, held-accepted}
use Rattle.tree.specs.Staged.{Staged}
use Rattle.delays.specs.Delayed.{LayerDelays}
use Rattle.stage_numbers.specs.LimitRows.{lowered}
use Rattle.stage_numbers.specs.Numbered.{Numbering, NumberTurn, number-turn}

-- A required time minus a delay.
module _ (r : ℤ) (d : ℕ) (small : d ≤ half_range) where
  pub sink-asks-fits : TimeInRange r → SFits w64 (r -ℤ pos d)
  sink-asks-fits (high, low) =
      fits-parts (r -ℤ pos d) (omega (arith, minus_up r (pos d), pos_view d)) (omega (arith, minus_down r (pos d), pos_view d))

  pub sink-asks-is : SFits w64 r → to_z w64 (of_z w64 r) -ℤ to_z w64 d ≡ r -ℤ pos d
  sink-asks-is fit = rw (to_z-of_z fit, to_z_pos w64 {n = d} (omega arith))

-- One layer more: x is the lesser of the limit y that stands there and what the sink asks.
pub lowered-more : {old limit : List ℤ} (delay : List ℕ) (j : ℕ) (r : ℤ) {t layers l : ℕ} {x y : ℤ} → RowOf max_stages max_layers old t
    → layers ≤ max_layers → Setting (pos 0) max_layers old limit t layers l (lowered layers old delay j r t) → l < layers → y ≡ limit_on limit t l
    → x ≡ min_z y (r -ℤ pos (entry layers delay j l))
    → Setting (pos 0) max_layers old (set limit (t * max_layers + l) x) t layers (l + 1) (lowered layers old delay j r t)
unfolding lowered
lowered-more delay j r {layers = layers} {l = l} {x = x} R few S h e q =
    setting_more x R few S h (q ∙ ap (λ (z : ℤ). min_z z (r -ℤ pos (entry layers delay j l))) (e ∙ next-kept S few h))

-- A row of delays copied to the row of stage t.
pub row-copied : {old delay : List ℕ} {t j layers k m : ℕ} → layers ≤ max_layers → NodeRow layers delay j → RowOf max_stages max_layers old t → k ≡ layers
    → m ≡ layers → RowSet 0 max_layers old (put_mid (t * max_layers) k old (take m (drop (j * layers) delay))) t layers (entry layers delay j)
row-copied {old} {delay} {t} {j} {layers} {k} {m} few D R q e = record {
  set_to = λ l h. grind (arith, common_steps, front, row-long);
  others = λ i c b ne. elsewhere i c b ne (dec_lt i t) (dec_lt t i);
  long = grind (arith, common_steps, front, row-long, inside);
}
  where
    ys : List ℕ
    ys = take m (drop (j * layers) delay)

    inside : (t + 1) * max_layers ≤ length old
    inside = omega (arith, R.row_in, R.long)

    front : length (take (t * max_layers) old) ≡ t * max_layers
    front = length-take-le (t * max_layers) old (omega (arith, inside))

    row-long : length ys ≡ layers
    row-long =
        let r : layers ≤ layers = omega arith in
        let h : suc j * layers ≤ (max_nodes + 1) * layers = mul-le-mul D.row_in r in
        length-take-le m (drop (j * layers) delay) (omega (arith, length-drop (j * layers) delay, D.long)) ∙ e

    -- Place p is as it was.
    kept : ℕ → Type 0
    kept p = get_or (put_mid (t * max_layers) k old ys) p 0 ≡ get_or old p 0

    before : (p : ℕ) → p < t * max_layers → kept p
    before p h = grind (arith, common_steps, front)

    after : (p : ℕ) → t * max_layers + layers ≤ p → kept p
    after p h = grind (arith, common_steps, front, row-long)

    -- A place of another row, or past the columns, is not one of those written.
    elsewhere : (i c : ℕ) → c < max_layers → (i ≡ t → c < layers → ⊥) → Dec (i < t) → Dec (t < i) → kept (i * max_layers + c)
    elsewhere i c h ne (yes l) b = before (i * max_layers + c) (row_before max_layers i t c h l)
    elsewhere i c h ne (no l) (yes b) = after (i * max_layers + c) (omega arith)
    elsewhere i c h ne (no l) (no b) =
        let p : i ≡ t = omega arith in
        let f : c < layers → ⊥ = ne p in
        after (i * max_layers + c) (omega arith)

-- The turn of the pass at node j, with the stages that the code has looked up.
pub turn : {w stage below delay driver wire : List ℕ} {limit : List ℤ} {nodes layers j : ℕ} → Held w nodes layers → Staged (net_in w) stage below
    → LayerDelays (net_in w) layers delay → Numbering (net_in w) driver wire limit j → j ≤ nodes
    → NumberTurn (net_in w) layers delay j (get_or stage j 0) (get_or below j 0) driver wire limit
turn {w} {j = j} H S D N h =
    let inside : j ≤ length (net_in w).nodes = omega (arith, H.nodes-are) in
    number-turn (held-accepted H) D H.layers-are N inside (S.stage_is _ N.some inside) (S.below-is _ inside)
