-- Loads: a load is a sum over the nodes after its own, and no load exceeds what all nodes below it could add by themselves. A Steiner point adds to its
-- parent's load its own wire and just what its children add to it, so each node's wire and input capacitance counts once on the way up.
use Rattle.std.specs.Prelude.{◌≡◌, ◌⊎◌, map, if◌then◌else◌}
use Rattle.std.proofs.Math.Path.{refl, ap}
use Rattle.std.proofs.Common.{◌∙◌, inl, inr, suc-add, ne_eqb, lt-ltb}
use Prim.Native.Nat.{ℕ, zero, suc, ◌+◌, ◌*◌, ◌-◌, ◌≤◌}
use native.Mathlib.Omega.{arith}
use Rattle.std.proofs.Math.Nat.{zero-add}
use Rattle.std.proofs.Math.Decide.{dec_le}
use Rattle.std.proofs.Math.Dec.{ltb, eqb}
use Rattle.std.proofs.Math.ListN.{length}
use Rattle.laws.specs.Basic.{from, sum}
use Rattle.laws.specs.Lists.{map_same}
use Rattle.laws.specs.Booleans.{if_lt_suc}
use Rattle.laws.specs.Sums.{sum_add, sum-keep}
use Rattle.rules.specs.Tree.{Net, at, edges, children_of}
use Rattle.rules.specs.Bytes.{max_nodes, max_input_cap}
use Rattle.rules.specs.Timing.{edge_cap, lower_load, load}
use Rattle.facts.specs.Accepted.{Accepted}
use Rattle.facts.specs.Words.{childless, load_is}
use Rattle.facts.specs.Ranges.{max_edge_cap, edge_cap_in, lower-range}

-- The most that a node adds by itself, and the greatest load.
abbrev pub max_node_load : ℕ
max_node_load = max_edge_cap + max_input_cap

abbrev pub max_load : ℕ
max_load = max_nodes * max_node_load

-- What edge j adds to the load at its upper end: edge C plus child load.
unfoldable pub added_load : Net → ℕ → ℕ → ℕ
added_load n l j = edge_cap n l j + lower_load n (load n l) j

-- What the children of node i among the c nodes from a on add to its load.
unfoldable pub child_load : Net → ℕ → ℕ → ℕ → ℕ → ℕ
child_load n l i a c = sum (map (λ j. if eqb (at n j).parent i then added_load n l j else 0) (from a c))

module _ {n : Net} (A : Accepted n) (l : ℕ) where
  -- The load at a node is what its children add, of all nodes or of those after it.
  pub load-children : (i : ℕ) → load n l i ≡ child_load n l i 1 (length n.nodes)
  unfolding children_of edges added_load child_load
  load-children i = load_is A l i ∙ sum-keep (λ j. eqb (at n j).parent i) (λ j. edge_cap n l j + lower_load n (load n l) j) (from 1 (length n.nodes))

  children-after : (i d a c : ℕ) → a + d ≡ suc i → 1 ≤ a → child_load n l i a (d + c) ≡ child_load n l i (suc i) c
  unfolding child_load
  children-after i zero a c e h = let q : a ≡ suc i = omega arith in rw (q, zero-add c) refl
  children-after i (suc d) a c e h =
      let p = A.parent-lower a h in
      let rest = children-after i d (suc a) c (omega arith) (omega arith) in
      rw (suc-add d c) (rw (ne_eqb (at n a).parent i (λ q. omega arith)) (zero-add (child_load n l i (suc a) (d + c)) ∙ rest))

  pub load_after : (i : ℕ) → i ≤ length n.nodes → load n l i ≡ child_load n l i (suc i) (length n.nodes - i)
  load_after i h =
      let q : length n.nodes ≡ i + (length n.nodes - i) = omega arith in
      load-children i ∙ ap (child_load n l i 1) q ∙ children-after i i 1 (length n.nodes - i) (omega arith) (omega arith)

  -- What the c nodes from a on add to nodes before m.
  added_before : ℕ → ℕ → ℕ → ℕ
  added_before m a c = sum (map (λ j. if ltb (at n j).parent m then added_load n l j else 0) (from a c))

  before_more : (m a c : ℕ) → added_before (suc m) a c ≡ added_before m a c + child_load n l m a c
  unfolding added_before child_load
  before_more m a c =
      let before : ℕ → ℕ = λ j. if ltb (at n j).parent m then added_load n l j else 0 in
      let child : ℕ → ℕ = λ j. if eqb (at n j).parent m then added_load n l j else 0 in
      let either : ℕ → ℕ = λ j. if ltb (at n j).parent (suc m) then added_load n l j else 0 in
      ap sum (map_same either (λ j. before j + child j) (from a c) (λ j h. if_lt_suc (at n j).parent m (added_load n l j))) ∙ sum_add before child (from a c)

  -- A terminal adds its own load, a Steiner point its wire and what its children add: so the nodes from m on add no more than each by itself.
  before-most : (m c : ℕ) → 1 ≤ m → m + c ≡ suc (length n.nodes) → added_before m m c ≤ c * max_node_load
  unfolding added_before added_load
  before-most m zero h e = omega arith
  before-most m (suc c) h e =
      let rest = before-most (suc m) c (omega arith) (omega arith) in
      let q : length n.nodes - m ≡ c = omega arith in
      rw (lt-ltb (at n m).parent m (A.parent-lower m h)) (go (lower-range A (load n l) m) rest (before_more m (suc m) c) (rw q at (load_after m (omega arith))))
    where
      go : (lower_load n (load n l) m ≤ max_input_cap) ⊎ (lower_load n (load n l) m ≡ load n l m) → added_before (suc m) (suc m) c ≤ c * max_node_load
          → added_before (suc m) (suc m) c ≡ added_before m (suc m) c + child_load n l m (suc m) c → load n l m ≡ child_load n l m (suc m) c
          → (edge_cap n l m + lower_load n (load n l) m) + added_before m (suc m) c ≤ suc c * max_node_load
      go (inl a) rest more is = omega (arith, edge_cap_in A l m)
      go (inr a) rest more is = omega (arith, edge_cap_in A l m)

  -- The load at node i is at most what the nodes after i add by themselves.
  pub load-most : (i : ℕ) → load n l i ≤ (length n.nodes - i) * max_node_load
  load-most i = go (dec_le i (length n.nodes))
    where
      go : Dec (i ≤ length n.nodes) → load n l i ≤ (length n.nodes - i) * max_node_load
      go (yes h) =
          let c = length n.nodes - i in
          omega (arith, load_after i h, before_more i (suc i) c, before-most (suc i) c (omega arith) (omega arith))
      go (no h) = omega (arith, load_is A l i, childless A (λ j. edge_cap n l j + lower_load n (load n l) j) i (omega arith))

  pub load_in : (i : ℕ) → load n l i ≤ max_load
  load_in i = omega (arith, load-most i, A.few-nodes)

  -- The same of the load at the lower end of an edge.
  pub lower_in : (j : ℕ) → lower_load n (load n l) j ≤ max_load
  lower_in j = go (lower-range A (load n l) j)
    where
      go : (lower_load n (load n l) j ≤ max_input_cap) ⊎ (lower_load n (load n l) j ≡ load n l j) → lower_load n (load n l) j ≤ max_load
      go (inl h) = omega arith
      go (inr e) = omega (arith, load_in j)
