-- A file of the second edition whose vias all have resistance 0 answers as the file of the first edition with the same numbers. Behind the layers field both
-- hold the same bytes, moved by two for each layer, and reading goes the same way from places that are moved.
use Rattle.std.specs.Prelude.{◌≡◌, Bool, leb, length, get_or}
use Rattle.std.proofs.Math.Path.{refl, ap, sym}
use Rattle.std.proofs.Common.{ap₂, ◌∙◌, get_or-drop, le-leb}
use Rattle.std.proofs.Math.Bool.{true, false}
use mathlib.Core.List.{List, [], ◌∷◌, ◌++◌, map}
use Prim.Native.Nat.{ℕ, zero, suc, ◌+◌, ◌*◌, ◌/◌, ◌-◌, ◌%◌, ◌≤◌, ◌<◌}
use native.Mathlib.Omega.{arith}
use Rattle.laws.specs.Basic.{from, all}
use Rattle.laws.specs.Booleans.{leb-same}
use Rattle.laws.specs.Lists.{from-mem, map_same}
use Rattle.rules.specs.Tree.{Layer, Driver, Node, Net}
use Rattle.rules.specs.Bytes.{layers_tag, via_layers_tag, max_length, max_nodes, Field, field_at, next, number, due_layers, due_driver, due_node}
use Rattle.rules.specs.Bytes.{layer_at, layers_at, is_layer, driver_at, is_driver, kind_at, costs_at, node_at, is_node}
use Rattle.rules.specs.Reading.{Answer, accept, refuse, ◌>>=◌, ◌>>◌, ◌unless◌, field, has_room, is_parent, node_field, nodes_from, is_whole, read_to, read}
use Rattle.rules.specs.Examples.{net_a, net_a_via}
use Rattle.facts.specs.Nodes.{after_field, nodes_turn}
use Rattle.facts.specs.Lengths.{SameAnswers, net_alone}
use Rattle.editions.specs.Editions.{after_layers}

-- Two files with L layers each and the same numbers, the first in the first edition, the second in the second edition with via resistances 0.
pub record Twins (bs cs : List ℕ) (L : ℕ) : Type 0 where
  pub first-tag : number bs 0 1 ≡ layers_tag
  pub second-tag : number cs 0 1 ≡ via_layers_tag
  pub first-size : number bs 1 2 ≡ 4 * L
  pub second-size : number cs 1 2 ≡ 6 * L
  -- The layers are all there, with the same units, and the vias are 0.
  pub first-whole : 3 + 4 * L ≤ length bs
  pub resistances : (k : ℕ) → k < L → number bs (3 + 4 * k) 2 ≡ number cs (3 + 6 * k) 2
  pub capacitances : (k : ℕ) → k < L → number bs (3 + 4 * k + 2) 2 ≡ number cs (3 + 6 * k + 2) 2
  pub vias : (k : ℕ) → k < L → number cs (3 + 6 * k + 4) 2 ≡ 0
  -- The same bytes follow.
  pub as_long : length cs ≡ length bs + 2 * L
  pub rest : (o : ℕ) → get_or bs (3 + 4 * L + o) 0 ≡ get_or cs (3 + 6 * L + o) 0

-- Three tests in turn, and going on with the field: the same if the tests are the same and going on is.
tests_same : {B : Type 0} (r s t : ℕ) (f g : Field → Answer B) (F G : Field) (a b c : Bool) {d e h : Bool} → a ≡ d → b ≡ e → c ≡ h → f F ≡ g G
    → (◌>>◌ (r unless a) (◌>>◌ (s unless b) (◌>>◌ (t unless c) (accept F))) >>= f) ≡ (◌>>◌ (r unless d) (◌>>◌ (s unless e) (◌>>◌ (t unless h)
    (accept G))) >>= g)
tests_same r s t f g F G a b c p q u same = rw (← p, ← q, ← u) (go a b c)
  where
    go : (a b c : Bool)
        → (◌>>◌ (r unless a) (◌>>◌ (s unless b) (◌>>◌ (t unless c) (accept F))) >>= f) ≡ (◌>>◌ (r unless a) (◌>>◌ (s unless b) (◌>>◌ (t unless c)
        (accept G))) >>= g)
    go false b c = refl
    go true false c = refl
    go true true false = refl
    go true true true = same

then_then : {A B C : Type 0} (x : Answer A) (f : A → Answer B) (g : B → Answer C) → ((x >>= f) >>= g) ≡ (x >>= λ a. f a >>= g)
then_then (accept a) f g = refl
then_then (refuse r) f g = refl

-- The tests of a node field.
abbrev node_tests : ℕ → List ℕ → ℕ → List Node → Field → Answer Field
node_tests most bs L ns f = do
  4 unless has_room ns (node_at bs L f)
  3 unless is_node most (node_at bs L f)
  5 unless is_parent ns (node_at bs L f).parent
  accept f

-- What reading does after the driver's field, by the layers, the driver and what reading the nodes answers.
abbrev with_nodes : List Layer → Driver → Answer (List Node) → Answer Net
with_nodes ls d a = do
  3 unless is_driver d
  ns ← a
  6 unless is_whole ns
  accept (record { layers = ls; driver = d; nodes = ns })

-- Place a, from i on, and place b, which is as far from j.
abbrev Moved : ℕ → ℕ → ℕ → ℕ → Type 0
Moved i j a b = (i ≤ a) × (a + j ≡ b + i)

-- Bytes bs from i on are the bytes cs from j on.
module _ (bs cs : List ℕ) (i j : ℕ) (left : length bs + j ≡ length cs + i) (same : (o : ℕ) → get_or bs (i + o) 0 ≡ get_or cs (j + o) 0) where
  byte_moved : (a b : ℕ) → Moved i j a b → get_or bs a 0 ≡ get_or cs b 0
  byte_moved a b m =
      let p : a ≡ i + (a - i) = omega arith in
      let q : j + (a - i) ≡ b = omega arith in
      ap (λ (k : ℕ). get_or bs k 0) p ∙ same (a - i) ∙ ap (λ (k : ℕ). get_or cs k 0) q

  number-moved : (a b w : ℕ) → Moved i j a b → number bs a w ≡ number cs b w
  unfolding number
  number-moved a b zero m = refl
  number-moved a b (suc w) m = cc (number-moved a b w m, byte_moved (a + w) (b + w) (omega arith))

  -- Whether bytes are left, and whether this is the end.
  long-moved : (a b : ℕ) → Moved i j a b → leb a (length bs) ≡ leb b (length cs)
  long-moved a b m = leb-same a (length bs) b (length cs) (λ h. omega arith) (λ h. omega arith)

  end_moved : (a b : ℕ) → Moved i j a b → leb (length bs) a ≡ leb (length cs) b
  end_moved a b m = leb-same (length bs) a (length cs) b (λ h. omega arith) (λ h. omega arith)

  next-moved : (a b : ℕ) → Moved i j a b → Moved i j (next (field_at bs a)) (next (field_at cs b))
  unfolding next field_at
  next-moved a b m = let e = number-moved (a + 1) (b + 1) 2 (omega arith) in omega arith

  -- Going on with the field that is due.
  field-moved : {B : Type 0} (due : ℕ → ℕ → Bool) (a b : ℕ) → Moved i j a b → (f g : Field → Answer B) → f (field_at bs a) ≡ g (field_at cs b)
      → (field due bs a >>= f) ≡ (field due cs b >>= g)
  unfolding field field_at
  field-moved due a b m f g e =
      tests_same 1 2 1 f g (field_at bs a) (field_at cs b) (leb (a + 3) (length bs)) (due (number bs a 1) (number bs (a + 1) 2)) (leb (next (field_at bs a))
      (length bs))
      (long-moved (a + 3) (b + 3) (omega arith)) (ap₂ due (number-moved a b 1 m) (number-moved (a + 1) (b + 1) 2 (omega arith)))
      (long-moved (next (field_at bs a)) (next (field_at cs b)) (next-moved a b m)) e

  kind-moved : (tag a b : ℕ) → Moved i j a b → kind_at bs tag a ≡ kind_at cs tag b
  unfolding kind_at
  kind-moved tag a b m =
      cc (
        number-moved a b 4 m,
        number-moved (a + 4) (b + 4) 4 (omega arith),
        number-moved (a + 8) (b + 8) 4 (omega arith),
        number-moved (a + 4) (b + 4) 8 (omega arith),
      )

  costs-moved : (L a b : ℕ) → Moved i j a b → costs_at bs L a ≡ costs_at cs L b
  unfolding costs_at
  costs-moved L a b m = map_same _ _ (from 0 L) (λ k h. number-moved (a + 4 * k) (b + 4 * k) 4 (omega arith))

  node-moved : (L a b : ℕ) → Moved i j a b → node_at bs L (field_at bs a) ≡ node_at cs L (field_at cs b)
  unfolding node_at field_at
  node-moved L a b m =
      cc (
        number-moved a b 1 m,
        number-moved (a + 3) (b + 3) 2 (omega arith),
        number-moved (a + 3 + 2) (b + 3 + 2) 2 (omega arith),
        costs-moved L (a + 3 + 4) (b + 3 + 4) (omega arith),
        kind-moved (number bs a 1) (a + 3 + 4 + 4 * L) (b + 3 + 4 + 4 * L) (omega arith),
      )

  driver-moved : (a b : ℕ) → Moved i j a b → driver_at bs a ≡ driver_at cs b
  unfolding driver_at
  driver-moved a b m = cc (number-moved a b 4 m, number-moved (a + 4) (b + 4) 4 (omega arith), number-moved (a + 8) (b + 8) 8 (omega arith))

  nodes-moved : (most k L : ℕ) (ns : List Node) (a b : ℕ) → Moved i j a b → nodes_from most k bs L ns a ≡ nodes_from most k cs L ns b
  unfolding nodes_from node_field
  nodes-moved most zero L ns a b m = refl
  nodes-moved most (suc k) L ns a b m =
      go (leb (length bs) a) (λ ms. nodes-moved most k L ms (next (field_at bs a)) (next (field_at cs b)) (next-moved a b m))
      ∙ ap (nodes_turn most k cs L ns b) (end_moved a b m)
    where
      go : (t : Bool) → ((ms : List Node) → nodes_from most k bs L ms (next (field_at bs a)) ≡ nodes_from most k cs L ms (next (field_at cs b)))
          → nodes_turn most k bs L ns a t ≡ nodes_turn most k cs L ns b t
      go true later = refl
      go false later =
          let N = node_at bs L (field_at bs a) in
          let e = node-moved L a b m in
          then_then (field (due_node L) bs a) (node_tests most bs L ns) (after_field most k bs L ns)
          ∙ field-moved (due_node L) a b m (λ f. node_tests most bs L ns f >>= after_field most k bs L ns)
          (λ f. node_tests most cs L ns f >>= after_field most k cs L ns)
          (tests_same 4 3 5 (after_field most k bs L ns) (after_field most k cs L ns) (field_at bs a) (field_at cs b) (has_room ns N) (is_node most N)
          (is_parent ns N.parent)
          (ap (has_room ns) e) (ap (is_node most) e) (ap (λ (n : Node). is_parent ns n.parent) e)
          (later (ns ++ (N ∷ [])) ∙ ap (λ (n : Node). nodes_from most k cs L (ns ++ (n ∷ [])) (next (field_at cs b))) e))
          ∙ sym (then_then (field (due_node L) cs b) (node_tests most cs L ns) (after_field most k cs L ns))

  -- All that follows the layers field.
  after-moved : (f g : Field) (ls : List Layer) (L : ℕ) (in_range : Bool) → Moved i j (next f) (next g)
      → after_layers bs f ls L in_range ≡ after_layers cs g ls L in_range
  unfolding after_layers field_at
  after-moved f g ls L false m = refl
  after-moved f g ls L true m =
      let a = next f in
      let b = next g in
      field-moved due_driver a b m _ _
      (ap₂ (with_nodes ls) (driver-moved (a + 3) (b + 3) (omega arith))
      (nodes-moved max_length (max_nodes + 1) L [] (next (field_at bs a)) (next (field_at cs b)) (next-moved a b m)))

module _ (bs cs : List ℕ) (L : ℕ) (T : Twins bs cs L) where
  due_twins : due_layers (number bs 0 1) (number bs 1 2) ≡ due_layers (number cs 0 1) (number cs 1 2)
  unfolding due_layers
  due_twins =
      let some = leb-same 4 (4 * L) 6 (6 * L) (λ h. omega arith) (λ h. omega arith) in
      let few = leb-same (4 * L) 64 (6 * L) 96 (λ h. omega arith) (λ h. omega arith) in
      let whole : 4 * L % 4 ≡ 0 = omega arith in
      let whole2 : 6 * L % 6 ≡ 0 = omega arith in
      rw (T.first-tag, T.second-tag, T.first-size, T.second-size, some, few, whole, whole2) refl

  layers_twins : layers_at bs (field_at bs 0) ≡ layers_at cs (field_at cs 0)
  unfolding layers_at layer_at field_at
  layers_twins =
      let count : 4 * L / 4 ≡ L = omega arith in
      let count2 : 6 * L / 6 ≡ L = omega arith in
      rw (T.first-tag, T.second-tag, T.first-size, T.second-size, count, count2)
      (map_same _ _ (from 0 L) (λ k m. let low = from-mem 0 L k m in
      cc (T.resistances k (omega arith), T.capacitances k (omega arith), T.vias k (omega arith))))

  pub twins_read : read bs ≡ read cs
  unfolding read read_to field after_layers field_at next
  twins_read =
      let F = field_at bs 0 in
      let G = field_at cs 0 in
      let long = T.first-whole in
      let longer = T.as_long in
      let size = T.first-size in
      let size2 = T.second-size in
      tests_same 1 2 1 (after bs) (after cs) F G (leb 3 (length bs)) (due_layers (number bs 0 1) (number bs 1 2)) (leb (next F) (length bs))
      (le-leb 3 (length bs) (omega arith) ∙ sym (le-leb 3 (length cs) (omega arith))) due_twins
      (le-leb (next F) (length bs) (omega arith) ∙ sym (le-leb (next G) (length cs) (omega arith)))
      (ap (λ (ls : List Layer). after_layers bs F ls (length ls) (all (map is_layer ls))) layers_twins
      ∙ after-moved bs cs (3 + 4 * L) (3 + 6 * L) (omega arith) T.rest F G (layers_at cs G) (length (layers_at cs G)) (all (map is_layer (layers_at cs G)))
      (omega arith))
    where
      after : List ℕ → Field → Answer Net
      after bs f = after_layers bs f (layers_at bs f) (length (layers_at bs f)) (all (map is_layer (layers_at bs f)))

  -- Both files are checked, judged and planned alike, with a share and by rounds.
  pub twins_alike : SameAnswers bs cs
  twins_alike = net_alone bs cs twins_read

-- Net A, and net A in the second edition with via resistances 0.
pub net-a_twins : Twins (net_a 830) (net_a_via 0 830) 2
unfolding number
net-a_twins = record {
  first-tag = refl;
  second-tag = refl;
  first-size = refl;
  second-size = refl;
  first-whole = omega arith;
  resistances = resistances;
  capacitances = capacitances;
  vias = vias;
  as_long = refl;
  rest = λ o. sym (get_or-drop 11 (net_a 830) o 0) ∙ get_or-drop 15 (net_a_via 0 830) o 0;
}
  where
    resistances : (k : ℕ) → k < 2 → number (net_a 830) (3 + 4 * k) 2 ≡ number (net_a_via 0 830) (3 + 6 * k) 2
    resistances zero h = refl
    resistances (suc zero) h = refl
    resistances (suc (suc k)) h = absurd (omega arith)

    capacitances : (k : ℕ) → k < 2 → number (net_a 830) (3 + 4 * k + 2) 2 ≡ number (net_a_via 0 830) (3 + 6 * k + 2) 2
    capacitances zero h = refl
    capacitances (suc zero) h = refl
    capacitances (suc (suc k)) h = absurd (omega arith)

    vias : (k : ℕ) → k < 2 → number (net_a_via 0 830) (3 + 6 * k + 4) 2 ≡ 0
    vias zero h = refl
    vias (suc zero) h = refl
    vias (suc (suc k)) h = absurd (omega arith)
