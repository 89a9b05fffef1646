-- The rows of the array: what each write leaves in them.
use mathlib.Core.Path.{◌≡◌, refl, ap, sym, ◌∙◌}
use mathlib.Core.Bool.{Bool, true, false}
use mathlib.Core.Logic.{◌⊎◌, inl, inr}
use mathlib.Core.List.{List}
use Prim.Native.Nat.{ℕ, ◌+◌, ◌*◌, ◌<◌, ◌≤◌}
use native.Mathlib.Omega.{arith}
use lib.ListN.{length, get_or, set, length-set}
use lib.Seq.{get_or-set_same, get_or-set_other}
use lib.IntN.{ℤ}
use borrow.Author.Tests.{ne_eqb}
use Rattle.laws.specs.Basic.{all, from, within}
use Rattle.laws.specs.Booleans.{same_or}
use Rattle.laws.specs.Lists.{scan, scan-start, scan_no, scan-more, scan_end, map-map, map_same, from-mem, from_low}
use Rattle.rules.specs.Bytes.{max_layers, max_cost, number, signed, kind_at, costs_at, is_costs}
use Rattle.rules.specs.declared.Kind.{Kind}
use Rattle.rules.specs.declared.Kind.TheVariants.{Steiner, Buffer, Sink}
use Rattle.fields.proofs.Laws.{number-halves}
use Rattle.words.specs.Words.{node_row, costs_from, kind_of, kind_in, record_in, costs_in, node_in, nodes_in}
use Rattle.words.specs.Puts.{Three, record_at, RecordPut, CostsPut, NodePut}

same_at : (w : List ℕ) (i k : ℕ) → i ≡ k → get_or w i 0 ≡ get_or w k 0
same_at w i k e = ap (λ (m : ℕ). get_or w m 0) e

-- a time in eight bytes, from its two halves
pub halves : (bs : List ℕ) (i k : ℕ) {a b : ℕ} → a ≡ number bs i 4 → b ≡ number bs k 4 → k ≡ i + 4 → a * 4294967296 + b ≡ number bs i 8
halves bs i k ea eb e = rw (ea, eb, e) (sym (number-halves bs i))

-- a kind from its tag and words
module _ (t a b c : ℕ) where
  pub kind_steiner : t ≡ 3 → Steiner ≡ kind_of t a b c
  unfolding kind_of
  kind_steiner e = simp e

  pub kind-buffer : t ≡ 4 → Buffer a b c ≡ kind_of t a b c
  unfolding kind_of
  kind-buffer e = simp e

  pub kind-sink : {z : ℤ} → (t ≡ 3 → ⊥) → (t ≡ 4 → ⊥) → z ≡ signed (b * 4294967296 + c) → Sink a z ≡ kind_of t a b c
  unfolding kind_of
  kind-sink no3 no4 e = simp (ne_eqb _ _ no3, ne_eqb _ _ no4, e)

kind_words : (bs : List ℕ) (t i : ℕ) {a b c : ℕ} → a ≡ number bs i 4 → b ≡ number bs (i + 4) 4 → c ≡ number bs (i + 8) 4 → kind_of t a b c ≡ kind_at bs t i
unfolding kind_of kind_at
kind_words bs t i ea eb ec = rw (halves bs (i + 4) (i + 8) eb ec (omega arith), ea, eb, ec)

kind-none : (bs : List ℕ) (t i a b c : ℕ) → t ≡ 3 → kind_of t a b c ≡ kind_at bs t i
unfolding kind_of kind_at
kind-none bs t i a b c e = simp e

-- a record from the words of its row
pub record_of : (w : List ℕ) (j : ℕ) {p l : ℕ} {k : Kind} → p ≡ get_or w (node_row j + 1) 0 → l ≡ get_or w (node_row j + 2) 0
    → k ≡ kind_of (get_or w (node_row j) 0) (get_or w (node_row j + 3) 0) (get_or w (node_row j + 4) 0) (get_or w (node_row j + 5) 0)
    → record { parent = p; len = l; kind = k } ≡ record_in w j
unfolding record_in kind_in
record_of w j ep el ek = rw (ep, el, ek, same_at w (node_row j + 0) (node_row j) (omega arith))

-- the record of a node
module _ (bs : List ℕ) (L : ℕ) {tag i p l j : ℕ} {old mid : List ℕ} (T : Three old mid (node_row j) tag p l) (ep : p ≡ number bs i 2)
    (el : l ≡ number bs (i + 2) 2) where
  pub record_steiner : tag ≡ 3 → RecordPut bs L tag i old mid j
  unfolding record_at
  record_steiner e = record {
    is = sym (record_of mid j (sym (T.second ∙ ep)) (sym (T.third ∙ el)) (rw T.first (sym (kind-none bs tag (i + 4 + 4 * L) _ _ _ e))));
    lower = T.lower;
  }

  pub record_other : {new : List ℕ} {a b c : ℕ} → Three mid new (node_row j + 3) a b c → a ≡ number bs (i + 4 + 4 * L) 4 → b ≡ number bs (i + 4 + 4 * L + 4) 4
      → c ≡ number bs (i + 4 + 4 * L + 8) 4 → RecordPut bs L tag i old new j
  unfolding record_at
  record_other {new} O ea eb ec = record {
    is =
        sym (record_of new j
        (sym (O.lower (node_row j + 1) (omega arith) ∙ T.second ∙ ep))
        (sym (O.lower (node_row j + 2) (omega arith) ∙ T.third ∙ el))
        (rw (
          O.lower (node_row j) (omega arith) ∙ T.first,
          O.first,
          same_at new (node_row j + 4) (node_row j + 3 + 1) (omega arith) ∙ O.second,
          same_at new (node_row j + 5) (node_row j + 3 + 2) (omega arith) ∙ O.third,
        )
        (sym (kind_words bs tag (i + 4 + 4 * L) ea eb ec))));
    lower = λ k h. O.lower k (omega arith) ∙ T.lower k h;
  }

-- the test of one cost, and of all in turn
unfoldable pub cost_test : List ℕ → ℕ → ℕ → Bool
cost_test bs i k = within 1 max_cost (number bs (i + 4 * k) 4)

costs-scan : (bs : List ℕ) (i L : ℕ) → scan (cost_test bs i) 0 L ≡ is_costs (costs_at bs L i)
unfolding cost_test is_costs costs_at
costs-scan bs i L = scan-start _ L ∙ sym (ap all (map-map (within 1 max_cost) (λ k. number bs (i + 4 * k) 4) (from 0 L)))

cost-is : (bs : List ℕ) (i k : ℕ) {x : ℕ} {b : Bool} → x ≡ number bs (i + 4 * k) 4 → b ≡ within 1 max_cost x → cost_test bs i k ≡ b
unfolding cost_test
cost-is bs i k ex e = rw (← ex) (sym e)

-- the costs, before layer k
pub record Costing (bs : List ℕ) (L i : ℕ) (old words : List ℕ) (j k : ℕ) : Type 0 where
  pub inside : k ≤ L
  pub test : scan (cost_test bs i) k L ≡ is_costs (costs_at bs L i)
  pub each : (l : ℕ) → l < k → get_or words (node_row j + costs_from + l) 0 ≡ number bs (i + 4 * l) 4
  pub lower : (m : ℕ) → m < node_row j + costs_from → get_or words m 0 ≡ get_or old m 0
  pub long : length words ≡ length old

pub costing_start : (bs : List ℕ) (L i : ℕ) (old : List ℕ) (j : ℕ) → Costing bs L i old old j 0
costing_start bs L i old j = record { inside = omega arith; test = costs-scan bs i L; each = λ l h. absurd (omega arith); lower = λ m h. refl; long = refl }

module _ {bs : List ℕ} {L i : ℕ} {old words : List ℕ} {j k : ℕ} (C : Costing bs L i old words j k) where
  pub costing_end : L ≤ k → CostsPut bs L i old words j true
  unfolding costs_in costs_at
  costing_end h = record {
    answer = sym (scan_end _ _ _ h) ∙ C.test;
    are = λ e. map_same (λ l. get_or words (node_row j + costs_from + l) 0) (λ l. number bs (i + 4 * l) 4) (from 0 L)
        (λ l m. C.each l (omega (arith, from-mem 0 L l m)));
    lower = C.lower;
  }

  module _ (h : k < L) {x : ℕ} {b : Bool} (ex : x ≡ number bs (i + 4 * k) 4) (eb : b ≡ within 1 max_cost x) where
    kept : (m : ℕ) → m < node_row j + costs_from → get_or (set words (node_row j + costs_from + k) x) m 0 ≡ get_or old m 0
    kept m d = get_or-set_other words (node_row j + costs_from + k) m x 0 (λ e. omega arith) ∙ C.lower m d

    pub costing_no : b ≡ false → CostsPut bs L i old (set words (node_row j + costs_from + k) x) j false
    costing_no e = record {
      answer = sym (scan_no _ _ h (cost-is bs i k ex eb ∙ e)) ∙ C.test;
      are = λ q. let z : ◌≡◌ {A = ℕ} 0 1 = cc in absurd (omega arith);
      lower = kept;
    }

    pub costing_more : node_row (j + 1) ≤ length old → L ≤ max_layers → b ≡ true → Costing bs L i old (set words (node_row j + costs_from + k) x) j (k + 1)
    costing_more few thin e = record {
      inside = omega arith;
      test = sym (scan-more _ _ h (cost-is bs i k ex eb ∙ e)) ∙ C.test;
      each = λ l d. here l d (same_or k l);
      lower = kept;
      long = length-set words (node_row j + costs_from + k) x ∙ C.long;
    }
      where
        here : (l : ℕ) → l < k + 1 → (l ≡ k) ⊎ (l ≡ k → ⊥) → get_or (set words (node_row j + costs_from + k) x) (node_row j + costs_from + l) 0 ≡ number bs (i + 4 * l) 4
        here l d (inl q) = rw q (get_or-set_same words (node_row j + costs_from + k) x 0 (omega (arith, C.long)) ∙ ex)
        here l d (inr ne) = get_or-set_other words (node_row j + costs_from + k) (node_row j + costs_from + l) x 0 (λ q. ne (omega arith)) ∙ C.each l (omega arith)

-- the record and then the costs
pub node-put : {bs : List ℕ} {L tag i j : ℕ} {old mid new : List ℕ} {r : Bool} → RecordPut bs L tag i old mid j → CostsPut bs L (i + 4) mid new j r
    → NodePut bs L tag i old new j r
unfolding record_in kind_in
node-put {j = j} R C = record {
  answer = C.answer;
  is =
      rw (
        C.lower (node_row j + 0) (omega arith),
        C.lower (node_row j + 1) (omega arith),
        C.lower (node_row j + 2) (omega arith),
        C.lower (node_row j + 3) (omega arith),
        C.lower (node_row j + 4) (omega arith),
        C.lower (node_row j + 5) (omega arith),
      )
      R.is;
  costs-are = C.are;
  lower = λ k h. C.lower k (omega arith) ∙ R.lower k h;
}

-- rows that are as they were are the nodes that they were
node-same : (old new : List ℕ) (L j : ℕ) → L ≤ max_layers → ((k : ℕ) → node_row j ≤ k → k < node_row (j + 1) → get_or new k 0 ≡ get_or old k 0)
    → node_in new L j ≡ node_in old L j
unfolding node_in kind_in costs_in
node-same old new L j thin s =
    rw (
      s (node_row j + 0) (omega arith) (omega arith),
      s (node_row j + 1) (omega arith) (omega arith),
      s (node_row j + 2) (omega arith) (omega arith),
      s (node_row j + 3) (omega arith) (omega arith),
      s (node_row j + 4) (omega arith) (omega arith),
      s (node_row j + 5) (omega arith) (omega arith),
      map_same (λ l. get_or new (node_row j + costs_from + l) 0) (λ l. get_or old (node_row j + costs_from + l) 0) (from 0 L)
          (λ l m. s (node_row j + costs_from + l) (omega arith) (omega (arith, from-mem 0 L l m))),
    )

pub nodes-same : (old new : List ℕ) (L count : ℕ) → L ≤ max_layers → ((k : ℕ) → node_row 1 ≤ k → k < node_row (count + 1) → get_or new k 0 ≡ get_or old k 0)
    → nodes_in new L count ≡ nodes_in old L count
unfolding nodes_in
nodes-same old new L count thin s =
    map_same (node_in new L) (node_in old L) (from 1 count)
    (λ i m. node-same old new L i thin (λ k a b. s k (omega (arith, from_low 1 count i m)) (omega (arith, from-mem 1 count i m))))
