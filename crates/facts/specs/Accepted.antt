-- What reading sees to: every net that it accepts has the properties below, which 01 lists under 'Net bytes'. The nodes are read one by one, and each
-- node that is taken keeps what held of those before it; the last step looks at the whole (01, Reading).
use Rattle.std.specs.Prelude.{◌≡◌, refl, Bool, ◌||◌, ◌⊎◌, List, [], ◌∷◌, ◌++◌, map, ℕ, zero, suc, ◌+◌, ◌-◌, ◌≤◌, ◌<◌, leb, length, get_or}
use Rattle.std.proofs.Common.{ap, sym, ◌∙◌, inl, inr, arith, zero-add, one-add}
use Rattle.std.proofs.Math.Bool.{true, false, not}
use Rattle.std.proofs.Math.Dec.{ltb, eqb}
use borrow.Author.Tests.{eqb-true, ne_eqb, leb-true, ltb-true, not-true}
use Rattle.laws.specs.Basic.{bit, from, all, keep}
use Rattle.laws.specs.Booleans.{and_left, and_right, or_right, same_or, bit_le, and_three}
use Rattle.laws.specs.Lists.{length_more, last-is, others-are, keep-more, all-at, some-passes, count-by-number}
use Rattle.rules.specs.Tree.{Node, Net, is_sink, is_buffer, no_node, node, at, edges, children_of, roots, stages, layer_count}
use Rattle.rules.specs.Bytes.{max_layers, max_length, max_nodes, max_stages, max_children, is_layer, is_driver, is_kind, is_costs, is_node}
use Rattle.rules.specs.Bytes.{Field, next, due_layers, due_driver, layers_at, driver_at, node_at}
use Rattle.rules.specs.Reading.{accept, field, children, buffers, has_room, is_parent, node_field, nodes_from, is_whole, read_to, read}
use Rattle.facts.specs.Answers.{not-refused, accept_injective, then_accepted, unless_accepted}
use Rattle.facts.specs.Fields.{field-there}
use Rattle.facts.specs.Layers.{layers-held, layer-number}
use Rattle.facts.specs.Nodes.{after_field, nodes_turn, field-taken}

-- Node j is a child of node i.
pub record ChildOf (n : Net) (i j : ℕ) : Type 0 where
  pub after : 1 ≤ j
  pub inside : j ≤ length n.nodes
  pub parent : (at n j).parent ≡ i

-- What holds of every net that reading accepts (01, Net bytes).
pub record Accepted (n : Net) : Type 0 where
  -- A parent has a lower number. (Where there is no node j, its parent counts as 0.)
  pub parent-lower : (j : ℕ) → 1 ≤ j → (at n j).parent < j
  -- A parent is no sink.
  pub parent_no_sink : (j : ℕ) → 1 ≤ j → j ≤ length n.nodes → is_sink (at n (at n j).parent).kind ≡ false
  -- A parent has at most two children.
  pub few-children : (i : ℕ) → length (children_of n i) ≤ max_children
  -- Every node but a sink has a child.
  pub has_child : (i : ℕ) → i ≤ length n.nodes → is_sink (at n i).kind ≡ false → (j : ℕ) × ChildOf n i j
  -- Every number is in its range. (Where there is no node j, its numbers count as 0.)
  pub node_in_range : (j : ℕ) → is_node max_length (at n j) ≡ true
  pub layers_in_range : all (map is_layer n.layers) ≡ true
  pub driver_in_range : is_driver n.driver ≡ true
  -- Layers 1 to 16, at most 255 nodes after the driver, at most 64 stages.
  pub some-layer : 1 ≤ layer_count n
  pub few-layers : layer_count n ≤ max_layers
  pub few-nodes : length n.nodes ≤ max_nodes
  pub few-stages : stages n ≤ max_stages

-- The driver is no sink, in any net.
pub driver_no_sink : (n : Net) → is_sink (at n 0).kind ≡ false
unfolding node
driver_no_sink n = refl

-- What the reader counts in its list of nodes can be counted by node number.
by_number : (n : Net) (test : Node → Bool) → length (keep test n.nodes) ≡ length (keep (λ j. test (at n j)) (from 1 (length n.nodes)))
unfolding node
by_number n test = count-by-number test no_node n.nodes (at n) 1 (λ m h. ap (at n) (one-add m))

-- The stages are the driver's and one for each buffer.
pub stages-are : (n : Net) → stages n ≡ buffers n.nodes + 1
unfolding stages roots edges buffers
stages-are n = omega (arith, by_number n (λ m. is_buffer m.kind))

pub children-are : (n : Net) (i : ℕ) → length (children_of n i) ≡ children n.nodes i
unfolding children_of edges children
children-are n i = sym (by_number n (λ m. eqb m.parent i))

-- What holds of the nodes read so far.
record NodesRead (ns : List Node) : Type 0 where
  parent-lower : (j : ℕ) → 1 ≤ j → (node ns j).parent < j
  parent_no_sink : (j : ℕ) → 1 ≤ j → j ≤ length ns → is_sink (node ns (node ns j).parent).kind ≡ false
  few-children : (i : ℕ) → children ns i ≤ max_children
  in_range : (j : ℕ) → is_node max_length (node ns j) ≡ true
  few-nodes : length ns ≤ max_nodes
  few-buffers : buffers ns ≤ max_stages - 1

none_read : NodesRead []
unfolding node children buffers is_node is_costs is_kind
none_read = record {
  parent-lower = lower;
  parent_no_sink = λ j h b. absurd (omega arith);
  few-children = λ i. omega arith;
  in_range = range;
  few-nodes = omega arith;
  few-buffers = omega arith;
}
  where
    lower : (j : ℕ) → 1 ≤ j → (get_or (no_node ∷ []) j no_node).parent < j
    lower zero h = absurd (omega arith)
    lower (suc j) h = omega arith

    range : (j : ℕ) → is_node max_length (get_or (no_node ∷ []) j no_node) ≡ true
    range zero = refl
    range (suc j) = refl

pub node-last : (ns : List Node) (m : Node) → node (ns ++ (m ∷ [])) (suc (length ns)) ≡ m
unfolding node
node-last ns m = last-is ns m no_node

pub node-other : (ns : List Node) (m : Node) (j : ℕ) → (j ≡ suc (length ns) → ⊥) → node (ns ++ (m ∷ [])) j ≡ node ns j
unfolding node
node-other ns m zero h = refl
node-other ns m (suc j) h = others-are ns m no_node j (λ e. h (ap suc e))

-- One node more, which has room, is in range and has a good parent.
module _ {ns : List Node} (R : NodesRead ns) (m : Node) (room : has_room ns m ≡ true) (range : is_node max_length m ≡ true)
    (parent : is_parent ns m.parent ≡ true) where
  parent-good : (m.parent ≤ length ns) × (is_sink (node ns m.parent).kind ≡ false) × (children ns m.parent < max_children)
  unfolding is_parent
  parent-good =
      let p = m.parent in
      let (low, no_sink, free) = and_three (leb p (length ns)) (not (is_sink (node ns p).kind)) (ltb (children ns p) max_children) parent in
      (leb-true p (length ns) low, not-true (is_sink (node ns p).kind) no_sink, ltb-true (children ns p) max_children free)

  more-nodes : length (ns ++ (m ∷ [])) ≤ max_nodes
  unfolding has_room
  more-nodes = omega (arith, ltb-true (length ns) max_nodes (and_left (ltb (length ns) max_nodes) _ room), length_more ns m)

  more-buffers : buffers (ns ++ (m ∷ [])) ≤ max_stages - 1
  unfolding has_room buffers
  more-buffers = rw (keep-more (λ m. is_buffer m.kind) ns m) (go (is_buffer m.kind) (and_right (ltb (length ns) max_nodes) _ room))
    where
      go : (b : Bool) → not b || ltb (buffers ns) (max_stages - 1) ≡ true → buffers ns + bit b ≤ max_stages - 1
      go true r = omega (arith, ltb-true (buffers ns) (max_stages - 1) r)
      go false r = omega (arith, R.few-buffers)

  more-children : (i : ℕ) → children (ns ++ (m ∷ [])) i ≤ max_children
  unfolding children
  more-children i = rw (keep-more (λ m. eqb m.parent i) ns m) (go (same_or i m.parent))
    where
      go : (m.parent ≡ i) ⊎ (m.parent ≡ i → ⊥) → children ns i + bit (eqb m.parent i) ≤ max_children
      go (inl e) = rw (← e) (omega (arith, parent-good.2, bit_le (eqb m.parent m.parent)))
      go (inr e) = rw (ne_eqb m.parent i e) (omega (arith, R.few-children i))

  more-read : NodesRead (ns ++ (m ∷ []))
  more-read = record {
    parent-lower = λ j h. lower j h (same_or (suc (length ns)) j);
    parent_no_sink = λ j h b. no_sink j h b (same_or (suc (length ns)) j);
    few-children = more-children;
    in_range = λ j. ranged j (same_or (suc (length ns)) j);
    few-nodes = more-nodes;
    few-buffers = more-buffers;
  }
    where
      lower : (j : ℕ) → 1 ≤ j → (j ≡ suc (length ns)) ⊎ (j ≡ suc (length ns) → ⊥) → (node (ns ++ (m ∷ [])) j).parent < j
      lower j h (inl e) = rw e (rw (node-last ns m) (omega (arith, parent-good.0)))
      lower j h (inr e) = rw (node-other ns m j e) (R.parent-lower j h)

      -- Parents are earlier nodes, which the new node does not change.
      before : (p : ℕ) → p ≤ length ns → is_sink (node ns p).kind ≡ false → is_sink (node (ns ++ (m ∷ [])) p).kind ≡ false
      before p h e = rw (node-other ns m p (λ q. absurd (omega arith))) e

      no_sink : (j : ℕ) → 1 ≤ j → j ≤ length (ns ++ (m ∷ [])) → (j ≡ suc (length ns)) ⊎ (j ≡ suc (length ns) → ⊥)
          → is_sink (node (ns ++ (m ∷ [])) (node (ns ++ (m ∷ [])) j).parent).kind ≡ false
      no_sink j h b (inl e) = rw e (rw (node-last ns m) (before m.parent parent-good.0 parent-good.1))
      no_sink j h b (inr e) =
          let inside : j ≤ length ns = omega (arith, length_more ns m) in
          rw (node-other ns m j e) (before (node ns j).parent (omega (arith, R.parent-lower j h)) (R.parent_no_sink j h inside))

      ranged : (j : ℕ) → (j ≡ suc (length ns)) ⊎ (j ≡ suc (length ns) → ⊥) → is_node max_length (node (ns ++ (m ∷ [])) j) ≡ true
      ranged j (inl e) = rw e (rw (node-last ns m) range)
      ranged j (inr e) = rw (node-other ns m j e) (R.in_range j)

nodes-read : (k : ℕ) (bs : List ℕ) (L : ℕ) (ns : List Node) (i : ℕ) {ms : List Node} → NodesRead ns → nodes_from max_length k bs L ns i ≡ accept ms → NodesRead ms
unfolding nodes_from
nodes-read zero bs L ns i R e = not-refused e
nodes-read (suc k) bs L ns i {ms} R e = go (leb (length bs) i) e (λ f. nodes-read k bs L (ns ++ (node_at bs L f ∷ [])) (next f))
  where
    go : (b : Bool) → nodes_turn max_length k bs L ns i b ≡ accept ms
        → ((f : Field) → NodesRead (ns ++ (node_at bs L f ∷ [])) → after_field max_length k bs L ns f ≡ accept ms → NodesRead ms) → NodesRead ms
    go true e r = rw (← accept_injective e) R
    go false e r =
        let (f, a, b) = then_accepted (node_field max_length bs L ns i) (after_field max_length k bs L ns) e in
        let t = field-taken a in
        r f (more-read R (node_at bs L f) t.room t.range t.parent) b

-- The test of the whole finds a child of every node but a sink.
whole_has_child : (n : Net) → is_whole n.nodes ≡ true → (i : ℕ) → i ≤ length n.nodes → is_sink (at n i).kind ≡ false → (j : ℕ) × ChildOf n i j
unfolding is_whole children node
whole_has_child n w i h s =
    let ns = n.nodes in
    let test : ℕ → Bool = λ i. is_sink (at n i).kind || leb 1 (children ns i) in
    let e : test i ≡ true = ap test (sym (zero-add i)) ∙ all-at test 0 (length ns + 1) i (omega arith) w in
    let one = leb-true 1 (children ns i) (sym (or_right (is_sink (at n i).kind) (leb 1 (children ns i)) s) ∙ e) in
    let (m, a, b) = some-passes (λ n. eqb n.parent i) no_node ns one in
    (suc m, record { after = omega arith; inside = omega arith; parent = eqb-true (get_or ns m no_node).parent i b })

-- A layers field holds 1 to 16 layers.
layers-read : (bs : List ℕ) (f : Field) → field due_layers bs 0 ≡ accept f → (1 ≤ length (layers_at bs f)) × (length (layers_at bs f) ≤ max_layers)
layers-read bs f a =
    let H = layers-held f.tag f.size (field-there due_layers bs 0 a).is-due in
    (rw (layer-number bs f) H.some, rw (layer-number bs f) H.few)

-- Whatever net reading accepts has these properties.
pub accepted : (bs : List ℕ) (n : Net) → read bs ≡ accept n → Accepted n
unfolding read read_to layer_count
accepted bs n e =
    let (f, a1, b1) = then_accepted (field due_layers bs 0) _ e in
    let (layers, b2) = unless_accepted 3 (all (map is_layer (layers_at bs f))) _ b1 in
    let (g, a2, b3) = then_accepted (field due_driver bs (next f)) _ b2 in
    let (driver, b4) = unless_accepted 3 (is_driver (driver_at bs g.start)) _ b3 in
    let (ns, a3, b5) = then_accepted (nodes_from max_length (max_nodes + 1) bs (length (layers_at bs f)) [] (next g)) _ b4 in
    let (whole, b6) = unless_accepted 6 (is_whole ns) _ b5 in
    let R = nodes-read (max_nodes + 1) bs (length (layers_at bs f)) [] (next g) none_read a3 in
    rw (← accept_injective b6) (all_of f g ns (layers-read bs f a1) layers driver R whole)
  where
    all_of : (f g : Field) (ns : List Node) → (1 ≤ length (layers_at bs f)) × (length (layers_at bs f) ≤ max_layers) → all (map is_layer (layers_at bs f)) ≡ true
        → is_driver (driver_at bs g.start) ≡ true → NodesRead ns → is_whole ns ≡ true
        → Accepted (record { layers = layers_at bs f; driver = driver_at bs g.start; nodes = ns })
    all_of f g ns many layers driver R whole =
        let n : Net = record { layers = layers_at bs f; driver = driver_at bs g.start; nodes = ns } in
        record {
          parent-lower = R.parent-lower;
          parent_no_sink = R.parent_no_sink;
          few-children = λ i. rw (children-are n i) (R.few-children i);
          has_child = whole_has_child n whole;
          node_in_range = R.in_range;
          layers_in_range = layers;
          driver_in_range = driver;
          some-layer = many.0;
          few-layers = many.1;
          few-nodes = R.few-nodes;
          few-stages = omega (arith, stages-are n, R.few-buffers);
        }
