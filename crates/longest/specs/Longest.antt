-- Reading needs only the first bytes of its input: the first fault lies there, and what is accepted ends there. A layers field ends by byte 99, a
-- driver field by byte 118, and a node's field takes 71 bytes, 12 more for a buffer or a sink. Of the 255 nodes that are taken at most 63 are buffers
-- and at most 128 are sinks, because a parent is no sink and has at most two children. So the nodes end by byte 20,515, and one field more by 20,598.
use Rattle.std.specs.Prelude.{◌≡◌, Bool, ◌||◌, ◌⊎◌, ℤ, length, take, cond, if◌then◌else◌}
use Rattle.std.proofs.Math.Path.{refl, ap}
use Rattle.std.proofs.Common.{◌∙◌, inl, inr, one-add, length-take}
use Rattle.std.proofs.Math.Bool.{true, false, not}
use mathlib.Core.List.{List, [], ◌∷◌, ◌++◌, map}
use Prim.Native.Nat.{ℕ, zero, suc, ◌+◌, ◌*◌, ◌/◌, ◌-◌, ◌≤◌, ◌<◌}
use native.Mathlib.Omega.{arith}
use Rattle.std.proofs.Math.Dec.{leb, ltb, eqb}
use Rattle.std.proofs.Math.Seq.{get_or-take}
use borrow.Author.Tests.{eqb-true, ne_eqb, leb-true, ltb-true, not-true}
use Rattle.laws.specs.Basic.{bit, from, sum, all, keep, within}
use Rattle.laws.specs.Booleans.{and_left, and_right, and_three, leb-same, same_or, bit_le}
use Rattle.laws.specs.Lists.{length_from, length_more, others-are, keep-more, map_same, from-mem, count-by-number}
use Rattle.laws.specs.Sums.{sum_add, sum_one, sum-from}
use Rattle.rules.specs.declared.Kind.{Kind}
use Rattle.rules.specs.declared.Kind.TheVariants.{Steiner, Buffer, Sink}
use Rattle.rules.specs.Tree.{Layer, Node, is_sink, is_buffer, no_node, node}
use Rattle.rules.specs.Bytes.{driver_tag, steiner_tag, buffer_tag, sink_tag, max_layers, max_nodes, max_stages, max_children, layer_size, kind_size}
use Rattle.rules.specs.Bytes.{Field, field_at, next, due_layers, due_driver, due_node, number}
use Rattle.rules.specs.Bytes.{max_length, layer_at, layers_at, is_layer, driver_at, is_driver, kind_at, costs_at, node_at}
use Rattle.rules.specs.Reading.{Answer, accept, refuse, ◌>>=◌, ◌>>◌, ◌unless◌}
use Rattle.rules.specs.Reading.{field, children, buffers, has_room, is_parent, node_field, nodes_from, is_whole, read_to, read}
use Rattle.facts.specs.Fields.{field-there}
use Rattle.facts.specs.Layers.{LayersHeld, layers-held, layers-short, layer-inside, layer-number}
use Rattle.facts.specs.Nodes.{after_field, nodes_turn, field-taken}

-- How many bytes of the input decide the answer.
abbrev pub front : ℕ
front = 20598

-- Two answers are the same if their first steps are, and what follows an accepted first step is.
then_both : {A B : Type 0} {x y : Answer A} (f g : A → Answer B) → x ≡ y → ((a : A) → y ≡ accept a → f a ≡ g a) → (x >>= f) ≡ (y >>= g)
then_both {A} {B} {x} {y} f g e h = ap (λ (z : Answer A). z >>= f) e ∙ go y h
  where
    go : (z : Answer A) → ((a : A) → z ≡ accept a → f a ≡ g a) → (z >>= f) ≡ (z >>= g)
    go (accept a) h = h a refl
    go (refuse r) h = refl

-- The same after a test.
unless_both : {B : Type 0} (r : ℕ) (t u : Bool) (y z : Answer B) → t ≡ u → (u ≡ true → y ≡ z) → ◌>>◌ (r unless t) y ≡ ◌>>◌ (r unless u) z
unless_both r t u y z e h = ap (λ (b : Bool). ◌>>◌ (r unless b) y) e ∙ go u h
  where
    go : (b : Bool) → (b ≡ true → y ≡ z) → ◌>>◌ (r unless b) y ≡ ◌>>◌ (r unless b) z
    go true h = h refl
    go false h = refl

-- Of an accepted field: its payload starts after its head, its tag and length are due.
field_is : (due : ℕ → ℕ → Bool) (bs : List ℕ) (i : ℕ) {f : Field} → field due bs i ≡ accept f
    → (f.start ≡ i + 3) × (due f.tag f.size ≡ true)
unfolding field_at
field_is due bs i a = let F = field-there due bs i a in (ap (λ (f : Field). f.start) F.is, F.is-due)

-- The bytes bs, and their first M.
module _ (M : ℕ) (bs : List ℕ) where
  -- What is read within the first M bytes is the same in both.
  number_same : (i w : ℕ) → i + w ≤ M → number (take M bs) i w ≡ number bs i w
  unfolding number
  number_same i zero h = refl
  number_same i (suc w) h = cc (number_same i w (omega arith), get_or-take M bs (i + w) 0 (omega arith))

  -- Whether bytes are left is the same in both.
  long_same : (x : ℕ) → x ≤ M → leb x (length (take M bs)) ≡ leb x (length bs)
  long_same x h = let e = length-take M bs in leb-same x (length (take M bs)) x (length bs) (λ k. omega arith) (λ k. omega arith)

  -- Whether i is the end is the same in both.
  end_same : (i : ℕ) → i < M → leb (length (take M bs)) i ≡ leb (length bs) i
  end_same i h = let e = length-take M bs in leb-same (length (take M bs)) i (length bs) i (λ k. omega arith) (λ k. omega arith)

  -- A field's head is the same in both.
  head-same : (i : ℕ) → i + 3 ≤ M → field_at (take M bs) i ≡ field_at bs i
  unfolding field_at
  head-same i h = cc (number_same i 1 (omega arith), number_same (i + 1) 2 (omega arith))

  -- So is the answer where a field with a payload of at most `most` bytes is due.
  field-same : (due : ℕ → ℕ → Bool) (most i : ℕ) → ((tag size : ℕ) → due tag size ≡ true → size ≤ most) → i + 3 + most ≤ M
      → field due (take M bs) i ≡ field due bs i
  unfolding field next field_at
  field-same due most i few h =
      let g = field_at bs i in
      ap (λ (g : Field). steps (take M bs) g) (head-same i (omega arith))
      ∙ unless_both 1 (leb (i + 3) (length (take M bs))) (leb (i + 3) (length bs)) _ _ (long_same (i + 3) (omega arith)) (λ r1.
      unless_both 2 (due g.tag g.size) (due g.tag g.size) _ _ refl (λ r2.
      unless_both 1 (leb (next g) (length (take M bs))) (leb (next g) (length bs)) _ _
      (long_same (next g) (omega (arith, few g.tag g.size r2))) (λ r3. refl)))
    where
      -- What `field` does with the field g.
      steps : List ℕ → Field → Answer Field
      steps cs g = do
        1 unless leb (i + 3) (length cs)
        2 unless due g.tag g.size
        1 unless leb (next g) (length cs)
        accept g

  -- A layer is the same in both, of either edition.
  layer-same : (tag i : ℕ) → i + 6 ≤ M → layer_at (take M bs) tag i ≡ layer_at bs tag i
  unfolding layer_at
  layer-same tag i h = cc (number_same i 2 (omega arith), number_same (i + 2) 2 (omega arith), number_same (i + 4) 2 (omega arith))

  -- The layers are the same in both.
  layers-same : (f : Field) → LayersHeld (layer_size f.tag) f.size → next f + 2 ≤ M → layers_at (take M bs) f ≡ layers_at bs f
  unfolding next layers_at
  layers-same f H h =
      let w = layer_size f.tag in
      map_same _ _ (from 0 (f.size / w)) (λ k m.
      let in_field = layer-inside H k (omega (arith, from-mem 0 (f.size / w) k m)) in
      layer-same f.tag (f.start + w * k) (omega (arith, in_field, H.units)))

  -- So is the driver.
  driver-same : (i : ℕ) → i + 16 ≤ M → driver_at (take M bs) i ≡ driver_at bs i
  unfolding driver_at
  driver-same i h = cc (number_same i 4 (omega arith), number_same (i + 4) 4 (omega arith), number_same (i + 8) 8 (omega arith))

  -- So is a node's kind.
  kind-same : (tag i : ℕ) → i + 12 ≤ M → kind_at (take M bs) tag i ≡ kind_at bs tag i
  unfolding kind_at
  kind-same tag i h =
      cc (number_same i 4 (omega arith), number_same (i + 4) 4 (omega arith), number_same (i + 8) 4 (omega arith), number_same (i + 4) 8 (omega arith))

  -- So are a node's costs.
  costs-same : (L i : ℕ) → i + 4 * L ≤ M → costs_at (take M bs) L i ≡ costs_at bs L i
  unfolding costs_at
  costs-same L i h = map_same _ _ (from 0 L) (λ k m. let low = from-mem 0 L k m in number_same (i + 4 * k) 4 (omega arith))

  -- So is a node.
  node-same : (L : ℕ) (f : Field) → f.start + 4 + 4 * L + 12 ≤ M → node_at (take M bs) L f ≡ node_at bs L f
  unfolding node_at
  node-same L f h =
      cc (
        number_same f.start 2 (omega arith),
        number_same (f.start + 2) 2 (omega arith),
        costs-same L (f.start + 4) (omega arith),
        kind-same f.tag (f.start + 4 + 4 * L) (omega arith),
      )

-- Of the nodes ns, how many are sinks.
abbrev sinks : List Node → ℕ
sinks ns = length (keep (λ n. is_sink n.kind) ns)

-- Node p of ns may have children: 1 if it is no sink, else 0.
abbrev free : List Node → ℕ → ℕ
free ns p = bit (not (is_sink (node ns p).kind))

-- What holds of the nodes ns that end before byte i.
record Placed (ns : List Node) (i : ℕ) : Type 0 where
  -- There was room for each node.
  few-nodes : length ns ≤ max_nodes
  few-buffers : buffers ns ≤ max_stages - 1
  -- Every node is a child of the driver or of a node: the numbers of children add up.
  counted : length ns ≤ sum (map (children ns) (from 0 (suc (length ns))))
  -- A sink has no child, another node at most two.
  few-children : (p : ℕ) → p ≤ length ns → children ns p ≤ 2 * free ns p
  -- Parents have lower numbers, so numbers that are yet to come have no child.
  no_children : (p : ℕ) → length ns < p → children ns p ≡ 0
  -- Layers and driver take at most 118 bytes, each node at most 71, and a sink or buffer 12 more.
  ends : i ≤ 118 + 71 * length ns + 12 * (sinks ns + buffers ns)

-- A sum is at most twice another if each of its members is.
sum_twice : (f g : ℕ → ℕ) (i m : ℕ) → ((p : ℕ) → i ≤ p → p < i + m → f p ≤ 2 * g p) → sum (map f (from i m)) ≤ 2 * sum (map g (from i m))
sum_twice f g i zero h = omega arith
sum_twice f g i (suc m) h = omega (arith, h i (omega arith) (omega arith), sum_twice f g (suc i) m (λ p a b. h p (omega arith) (omega arith)))

-- Members that pass a test and members that fail it are all members.
pass_or_fail {ℓ} : {A : Type ℓ} (test : A → Bool) (xs : List A) → length (keep test xs) + sum (map (λ x. bit (not (test x))) xs) ≡ length xs
pass_or_fail test [] = omega arith
pass_or_fail test (x ∷ xs) = go (test x) (pass_or_fail test xs)
  where
    go : (b : Bool) → length (keep test xs) + sum (map (λ x. bit (not (test x))) xs) ≡ length xs
        → length (cond b (x ∷ keep test xs) (keep test xs)) + (bit (not b) + sum (map (λ x. bit (not (test x))) xs)) ≡ suc (length xs)
    go true e = omega arith
    go false e = omega arith

-- Sinks and the nodes that may have children, the driver among these, are all nodes.
sinks_or_free : (ns : List Node) → sinks ns + sum (map (free ns) (from 0 (suc (length ns)))) ≡ suc (length ns)
unfolding node
sinks_or_free ns =
    let n = length ns in
    let test : ℕ → Bool = λ j. is_sink (node ns j).kind in
    let a = count-by-number (λ (m : Node). is_sink m.kind) no_node ns (node ns) 1 (λ m h. ap (node ns) (one-add m)) in
    let b = pass_or_fail test (from 1 n) in
    omega (arith, a, b, length_from 1 n)

-- So at most 128 nodes are sinks, and the nodes that are placed end by byte 20,515.
placed_low : {ns : List Node} {i : ℕ} → Placed ns i → i ≤ 20515
placed_low {ns} {i} P =
    let a = sum_twice (children ns) (free ns) 0 (suc (length ns)) (λ p b c. P.few-children p (omega arith)) in
    let few : sinks ns ≤ 128 = omega (arith, a, P.counted, sinks_or_free ns, P.few-nodes) in
    omega (arith, few, P.ends, P.few-nodes, P.few-buffers)

-- Before the first node, after the driver.
none_placed : (i : ℕ) → i ≤ 118 → Placed [] i
unfolding children buffers
none_placed i h = record {
  few-nodes = omega arith;
  few-buffers = omega arith;
  counted = omega arith;
  few-children = λ p b. omega arith;
  no_children = λ p b. refl;
  ends = omega arith;
}

-- A buffer or a sink takes 12 bytes for its own numbers.
kind-size : (bs : List ℕ) (tag i : ℕ) → kind_size tag ≡ 12 * (bit (is_sink (kind_at bs tag i)) + bit (is_buffer (kind_at bs tag i)))
unfolding kind_at
kind-size bs tag i = go (eqb tag steiner_tag) (eqb tag buffer_tag) _ _ _ _ _
  where
    -- What `kind_at` gives, by its two tests.
    kind_of : Bool → Bool → (c r d e : ℕ) → ℤ → Kind
    kind_of s b c r d e t = if s then Steiner else if b then Buffer c r d else Sink e t

    go : (s b : Bool) (c r d e : ℕ) (t : ℤ) → (if s then 0 else 12) ≡ 12 * (bit (is_sink (kind_of s b c r d e t)) + bit (is_buffer (kind_of s b c r d e t)))
    go true b c r d e t = refl
    go false true c r d e t = refl
    go false false c r d e t = refl

-- One node more, which has room and a good parent.
module _ {ns : List Node} {i : ℕ} (P : Placed ns i) (m : Node) (room : has_room ns m ≡ true) (parent : is_parent ns m.parent ≡ true) where
  -- What a good parent is, in numbers.
  parent-good : (m.parent ≤ length ns) × (is_sink (node ns m.parent).kind ≡ false) × (children ns m.parent < max_children)
  unfolding is_parent
  parent-good =
      let p = m.parent in
      let (low, no_sink, free) = and_three (leb p (length ns)) (not (is_sink (node ns p).kind)) (ltb (children ns p) max_children) parent in
      (leb-true p (length ns) low, not-true (is_sink (node ns p).kind) no_sink, ltb-true (children ns p) max_children free)

  -- It is one child more of its parent, and no other node's.
  more-children : (p : ℕ) → children (ns ++ (m ∷ [])) p ≡ children ns p + bit (eqb m.parent p)
  unfolding children
  more-children p = keep-more (λ n. eqb n.parent p) ns m

  -- Each part of `Placed` holds with the node too: the buffers are still few.
  more-buffers : buffers (ns ++ (m ∷ [])) ≤ max_stages - 1
  unfolding has_room buffers
  more-buffers = rw (keep-more (λ m. is_buffer m.kind) ns m) (go (is_buffer m.kind) (and_right (ltb (length ns) max_nodes) _ room))
    where
      go : (b : Bool) → not b || ltb (buffers ns) (max_stages - 1) ≡ true → buffers ns + bit b ≤ max_stages - 1
      go true r = omega (arith, ltb-true (buffers ns) (max_stages - 1) r)
      go false r = omega (arith, P.few-buffers)

  -- Earlier nodes are as they were.
  node-other : (p : ℕ) → p ≤ length ns → node (ns ++ (m ∷ [])) p ≡ node ns p
  unfolding node
  node-other zero h = refl
  node-other (suc p) h = others-are ns m no_node p (λ e. absurd (omega arith))

  -- The numbers of children still add up.
  more-counted : length (ns ++ (m ∷ [])) ≤ sum (map (children (ns ++ (m ∷ []))) (from 0 (suc (length (ns ++ (m ∷ []))))))
  more-counted =
      let n = length ns in
      let p = m.parent in
      let one = sum_one (λ t. 1) p 0 (suc n) (omega arith) (omega (arith, parent-good.0)) in
      let new = sum-from (children (ns ++ (m ∷ []))) 0 (suc n) in
      let e : length (ns ++ (m ∷ [])) ≡ suc n = omega (arith, length_more ns m) in
      let old = each (from 0 (suc n)) ∙ sum_add (children ns) (λ t. if eqb p t then 1 else 0) (from 0 (suc n)) in
      rw e (omega (arith, one, new, old, P.counted))
    where
      -- A truth value as a number, as `sum_one` writes it.
      as_if : (b : Bool) → bit b ≡ (if b then 1 else 0)
      as_if true = refl
      as_if false = refl

      -- Summed over any parents, the children are those before and the new one.
      each : (ps : List ℕ) → sum (map (children (ns ++ (m ∷ []))) ps) ≡ sum (map (λ p. children ns p + (if eqb m.parent p then 1 else 0)) ps)
      each [] = refl
      each (p ∷ ps) = omega (arith, more-children p, as_if (eqb m.parent p), each ps)

  -- Sinks still have no child, other nodes at most two.
  more-few : (p : ℕ) → p ≤ length (ns ++ (m ∷ [])) → children (ns ++ (m ∷ [])) p ≤ 2 * free (ns ++ (m ∷ [])) p
  more-few p h = rw (more-children p) (go (same_or (suc (length ns)) p) (same_or p m.parent))
    where
      go : (p ≡ suc (length ns)) ⊎ (p ≡ suc (length ns) → ⊥) → (m.parent ≡ p) ⊎ (m.parent ≡ p → ⊥)
          → children ns p + bit (eqb m.parent p) ≤ 2 * free (ns ++ (m ∷ [])) p
      go (inl e) (inl f) = absurd (omega (arith, parent-good.0))
      go (inl e) (inr f) = rw (ne_eqb m.parent p f) (omega (arith, P.no_children p (omega arith)))
      go (inr e) (inl f) =
          let same = node-other m.parent parent-good.0 in
          rw (← f) (rw (same, parent-good.1) (omega (arith, parent-good.2, bit_le (eqb m.parent m.parent))))
      go (inr e) (inr f) =
          let low : p ≤ length ns = omega (arith, length_more ns m) in
          rw (ne_eqb m.parent p f, node-other p low) (omega (arith, P.few-children p low))

  -- Numbers above the last node's still have no child.
  more-none : (p : ℕ) → length (ns ++ (m ∷ [])) < p → children (ns ++ (m ∷ [])) p ≡ 0
  more-none p h =
      let low : length ns < p = omega (arith, length_more ns m) in
      rw (more-children p, P.no_children p low, ne_eqb m.parent p (λ e. omega (arith, parent-good.0))) (omega arith)

  -- The new node ends at j, which is as far as its kind allows.
  more-ends : (j : ℕ) → j ≤ i + 71 + 12 * (bit (is_sink m.kind) + bit (is_buffer m.kind))
      → j ≤ 118 + 71 * length (ns ++ (m ∷ [])) + 12 * (sinks (ns ++ (m ∷ [])) + buffers (ns ++ (m ∷ [])))
  unfolding buffers
  more-ends j h = omega (arith, P.ends, length_more ns m, keep-more (λ n. is_sink n.kind) ns m, keep-more (λ n. is_buffer n.kind) ns m)

  -- So the nodes are still placed.
  more_placed : (j : ℕ) → j ≤ i + 71 + 12 * (bit (is_sink m.kind) + bit (is_buffer m.kind)) → Placed (ns ++ (m ∷ [])) j
  unfolding has_room
  more_placed j h = record {
    few-nodes = omega (arith, ltb-true (length ns) max_nodes (and_left (ltb (length ns) max_nodes) _ room), length_more ns m);
    few-buffers = more-buffers;
    counted = more-counted;
    few-children = more-few;
    no_children = more-none;
    ends = more-ends j h;
  }

-- A node's field, with at most 16 layers, has a payload of at most 80 bytes.
node-few : (L tag size : ℕ) → L ≤ max_layers → due_node L tag size ≡ true → size ≤ 80
unfolding due_node
node-few L tag size h e = go (eqb tag steiner_tag) (eqb-true _ _ (and_right (within steiner_tag sink_tag tag) _ e))
  where
    go : (b : Bool) → size ≡ 4 + 4 * L + (if b then 0 else 12) → size ≤ 80
    go true q = omega arith
    go false q = omega arith

-- The node field that is taken at i keeps the nodes placed.
field_placed : (bs : List ℕ) (L : ℕ) {ns : List Node} {i : ℕ} {f : Field} → L ≤ max_layers → Placed ns i → node_field max_length bs L ns i ≡ accept f
    → (f.start ≡ i + 3) × Placed (ns ++ (node_at bs L f ∷ [])) (next f)
unfolding next due_node node_at
field_placed bs L {ns} {i} {f} few P a =
    let t = field-taken a in
    let (start, due) = field_is (due_node L) bs i t.found in
    (start, more_placed P (node_at bs L f) t.room t.parent (next f) (ends f start due))
  where
    -- How far its payload goes.
    ends : (g : Field) → g.start ≡ i + 3 → due_node L g.tag g.size ≡ true
        → next g ≤ i + 71 + 12 * (bit (is_sink (node_at bs L g).kind) + bit (is_buffer (node_at bs L g).kind))
    ends g start due =
        let size = eqb-true g.size (4 + 4 * L + kind_size g.tag) (and_right (within steiner_tag sink_tag g.tag) _ due) in
        omega (arith, size, few, kind-size bs g.tag (g.start + 4 + 4 * L))

-- The bytes bs, and at least as many of them as decide.
module _ (M : ℕ) (enough : front ≤ M) (bs : List ℕ) where
  -- The next node field gets the same answer.
  node-field-same : (L : ℕ) {ns : List Node} {i : ℕ} → L ≤ max_layers → Placed ns i → node_field max_length (take M bs) L ns i ≡ node_field max_length bs L ns i
  unfolding node_field
  node-field-same L {ns} {i} few P =
      then_both _ _ (field-same M bs (due_node L) 80 i (λ tag size. node-few L tag size few) (omega (arith, placed_low P))) (λ f a.
      let (start, due) = field_is (due_node L) bs i a in
      rw (node-same M bs L f (omega (arith, placed_low P))) refl)

  -- So do all nodes to come.
  nodes-same : (k L : ℕ) {ns : List Node} {i : ℕ} → L ≤ max_layers → Placed ns i → nodes_from max_length k (take M bs) L ns i ≡ nodes_from max_length k bs L ns i
  unfolding nodes_from
  nodes-same zero L few P = refl
  nodes-same (suc k) L {ns} {i} few P =
      ap (nodes_turn max_length k (take M bs) L ns i) (end_same M bs i (omega (arith, placed_low P))) ∙ go (leb (length bs) i) (λ f. nodes-same k L few)
    where
      go : (b : Bool) → ((f : Field) → Placed (ns ++ (node_at bs L f ∷ [])) (next f)
          → nodes_from max_length k (take M bs) L (ns ++ (node_at bs L f ∷ [])) (next f) ≡ after_field max_length k bs L ns f)
          → nodes_turn max_length k (take M bs) L ns i b ≡ nodes_turn max_length k bs L ns i b
      go true r = refl
      go false r = then_both _ _ (node-field-same L few P) (λ f a.
          let (start, Q) = field_placed bs L few P a in
          rw (node-same M bs L f (omega (arith, placed_low P))) (r f Q))

  -- So reading only the first M bytes gives the answer that reading all of them gives.
  pub read-front : read (take M bs) ≡ read bs
  unfolding read read_to next due_driver
  read-front =
      then_both _ _ (field-same M bs due_layers 96 0 layers-short (omega arith)) (λ f a.
      let (f-start, f-due) = field_is due_layers bs 0 a in
      let f-few = layers-short f.tag f.size f-due in
      let held = layers-held f.tag f.size f-due in
      let layers = layers-same M bs f held (omega arith) in
      unless_both 3 (all (map is_layer (layers_at (take M bs) f))) (all (map is_layer (layers_at bs f))) _ _ (ap (λ ls. all (map is_layer ls)) layers) (λ r1.
      then_both _ _ (field-same M bs due_driver 16 (next f) driver-few (omega arith)) (λ g b.
      let (g-start, g-due) = field_is due_driver bs (next f) b in
      let g-few = driver-few g.tag g.size g-due in
      let driver = driver-same M bs g.start (omega arith) in
      unless_both 3 (is_driver (driver_at (take M bs) g.start)) (is_driver (driver_at bs g.start)) _ _ (ap is_driver driver) (λ r2.
      then_both _ _
      (ap (λ (ls : List Layer). nodes_from max_length (max_nodes + 1) (take M bs) (length ls) [] (next g)) layers ∙
      nodes-same (max_nodes + 1) (length (layers_at bs f)) (rw (layer-number bs f) held.few) (none_placed (next g) (omega arith))) (λ ns c.
      unless_both 6 (is_whole ns) (is_whole ns) _ _ refl (λ r3. cc (layers, driver)))))))
    where
      -- A driver field has 16 bytes.
      driver-few : (tag size : ℕ) → due_driver tag size ≡ true → size ≤ 16
      driver-few tag size e = let q = eqb-true size 16 (and_right (eqb tag driver_tag) _ e) in omega arith
