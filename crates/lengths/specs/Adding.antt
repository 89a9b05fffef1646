-- Edge lengths added up by layer, in node order (02, wish 2): before node j each layer has the lengths of the edges before it whose stage is on that layer,
-- and the edge to node j adds its own to the layer of its stage.
use Rattle.std.specs.Prelude.{◌≡◌, refl, ◌⊎◌, List, map, ℕ, ◌+◌, ◌-◌, ◌≤◌, ◌<◌, eqb, length, get_or, set}
use Rattle.std.proofs.Common.{ap, sym, ◌∙◌, inl, inr, arith, zero-add, add-one, length-set, get_or-set_same, get_or-set_other, ext_get_or, eq-eqb, ne_eqb}
use Rattle.std.proofs.lemmas.List.{length-map}
use Rattle.laws.specs.Basic.{from, keep}
use Rattle.laws.specs.Booleans.{same_or}
use Rattle.laws.specs.Lists.{length_from, keep_le, map_at}
use Rattle.laws.specs.Sums.{sum-most}
use Rattle.laws.specs.Passing.{passing, passing-more, passing-skip}
use Rattle.rules.specs.Tree.{Net, at, edges, stage_of, on}
use Rattle.rules.specs.Bytes.{max_length, max_layers}
use Rattle.rules.specs.Block.{length_on}
use Rattle.facts.specs.Accepted.{Accepted}
use Rattle.facts.specs.Ranges.{length_in}
use Rattle.facts.specs.Block.{max_wire, max_block_wire}

-- The total length of the edges before node j on layer l under plan x.
unfoldable pub length_before : Net → List ℕ → ℕ → ℕ → ℕ
length_before n x l j = passing (λ i. eqb (on x (stage_of n i)) l) (λ i. (at n i).len) 1 j

-- Before the first edge: nothing.
length_none : (n : Net) (x : List ℕ) (l : ℕ) → length_before n x l 1 ≡ 0
unfolding length_before
length_none n x l = refl

-- One edge more: on its layer,
length-more-on : (n : Net) (x : List ℕ) (l j : ℕ) → 1 ≤ j → on x (stage_of n j) ≡ l → length_before n x l (j + 1) ≡ length_before n x l j + (at n j).len
unfolding length_before
length-more-on n x l j a e =
    rw (add-one j) (passing-more (λ i. eqb (on x (stage_of n i)) l) (λ i. (at n i).len) 1 j a (eq-eqb (on x (stage_of n j)) l e))

-- and on another.
length-more_off : (n : Net) (x : List ℕ) (l j : ℕ) → 1 ≤ j → (on x (stage_of n j) ≡ l → ⊥) → length_before n x l (j + 1) ≡ length_before n x l j
unfolding length_before
length-more_off n x l j a ne =
    passing-skip (λ i. eqb (on x (stage_of n i)) l) (λ i. (at n i).len) 1 j 1 a (λ m b c.
    let e : m ≡ j = omega arith in
    rw e (ne_eqb (on x (stage_of n j)) l ne))

-- All edges.
length-all : (n : Net) (x : List ℕ) (l j : ℕ) → j ≡ length n.nodes + 1 → length_before n x l j ≡ length_on n x l
unfolding length_before length_on edges
length-all n x l j e =
    let q : j - 1 ≡ length n.nodes = omega arith in
    rw q

-- No more than the wire of a net can be.
length-low : {n : Net} → Accepted n → (x : List ℕ) (l j : ℕ) → j ≤ length n.nodes + 1 → length_before n x l j ≤ max_wire
unfolding length_before
length-low {n} A x l j h =
    let all = sum-most (λ i. (at n i).len) max_length (length_in A) (keep (λ i. eqb (on x (stage_of n i)) l) (from 1 (j - 1))) in
    omega (arith, keep_le (λ i. eqb (on x (stage_of n i)) l) (from 1 (j - 1)), length_from 1 (j - 1), A.few-nodes)

-- The pass before node j: `was` stood in the list at first.
pub record LengthsBefore (n : Net) (x was now : List ℕ) (j : ℕ) : Type 0 where
  pub some : 1 ≤ j
  pub inside : j ≤ length n.nodes + 1
  pub each : (l : ℕ) → get_or now l 0 ≡ get_or was l 0 + length_before n x l j
  pub long : length now ≡ length was

pub lengths_start : (n : Net) (x was : List ℕ) → LengthsBefore n x was was 1
lengths_start n x was = record { some = omega arith; inside = omega arith; each = λ l. omega (arith, length_none n x l); long = refl }

-- After the last node every layer has the total length on it.
pub lengths_end : {n : Net} {x was now : List ℕ} {j : ℕ} → LengthsBefore n x was now j → length was ≡ max_layers → length n.nodes < j
    → now ≡ map (λ l. get_or was l 0 + length_on n x l) (from 0 max_layers)
lengths_end {n} {x} {was} {now} {j} P long h =
    ext_get_or 0 now (map total (from 0 max_layers)) (P.long ∙ long ∙ sym (length-map (from 0 max_layers) total ∙ length_from 0 max_layers)) here
  where
    total : ℕ → ℕ
    total l = get_or was l 0 + length_on n x l

    here : (l : ℕ) → l < length now → get_or now l 0 ≡ get_or (map total (from 0 max_layers)) l 0
    here l b =
        let last : j ≡ length n.nodes + 1 = omega (arith, P.inside) in
        let c : l < max_layers = omega (arith, P.long) in
        P.each l ∙ ap (λ (k : ℕ). get_or was l 0 + k) (length-all n x l j last) ∙ sym (map_at total 0 0 max_layers l c ∙ ap total (zero-add l))

-- A turn: k is the layer of the stage of the edge to node j.
module _ {n : Net} (A : Accepted n) {x was now : List ℕ} {j k : ℕ} (P : LengthsBefore n x was now j) (b : j ≤ length n.nodes)
    (e : k ≡ on x (stage_of n j)) (h : k < length now) where
  -- The sum is in range,
  pub length-sum-low : get_or was k 0 ≤ max_block_wire → get_or now k 0 + (at n j).len ≤ max_block_wire + max_wire + max_length
  length-sum-low low = omega (arith, P.each k, length-low A x k j P.inside, length_in A j)

  -- and with it every layer has the lengths up to node j.
  pub lengths_more : LengthsBefore n x was (set now k (get_or now k 0 + (at n j).len)) (j + 1)
  lengths_more = record {
    some = omega arith;
    inside = omega arith;
    each = λ l. here l (same_or k l);
    long = length-set now k (get_or now k 0 + (at n j).len) ∙ P.long;
  }
    where
      here : (l : ℕ) → (l ≡ k) ⊎ (l ≡ k → ⊥) → get_or (set now k (get_or now k 0 + (at n j).len)) l 0 ≡ get_or was l 0 + length_before n x l (j + 1)
      here l (inl q) =
          rw q (omega (arith, get_or-set_same now k (get_or now k 0 + (at n j).len) 0 h, P.each k, length-more-on n x k j P.some (sym e)))
      here l (inr ne) =
          let off = length-more_off n x l j P.some (λ q. ne (sym q ∙ sym e)) in
          omega (arith, get_or-set_other now k l (get_or now k 0 + (at n j).len) 0 ne, P.each l)
