-- A net that was read, as code above holds it: the array, and the counts. A number of the net stands at its place in the array.
use Rattle.std.specs.Prelude.{◌≡◌, refl, List, ℕ, zero, suc, ◌+◌, ◌*◌, ◌<◌, ◌≤◌, length, get_or}
use Rattle.std.proofs.Common.{ap, sym, ◌∙◌, arith}
use Rattle.std.proofs.lemmas.List.{length-map}
use Rattle.laws.specs.Lists.{map_at, length_from}
use Rattle.rules.specs.Tree as tree
use Rattle.rules.specs.Tree.{Layer, layer_count, at, node, no_node}
use Rattle.rules.specs.Bytes.{max_layers, max_nodes, buffer_tag, signed}
use Rattle.rules.specs.Timing.{layer, edge_cost}
use Rattle.facts.specs.Accepted.{Accepted}
use Rattle.words.specs.Words.{caps_at, vias_at, node_row, costs_from, word_count, cell, net_in, nodes_in, node_in, costs_in, record_in, layer_in, layers_in, driver_in}
use Rattle.words.specs.declared.Node.{Node}

-- all of a node but its costs
abbrev pub record_of : tree.Node → Node
record_of n = record { parent = n.parent; len = n.len; kind = n.kind }

-- the array holds an accepted net of so many nodes after the driver and so many layers
pub record Held (w : List ℕ) (nodes layers : ℕ) : Type 0 where
  pub accepted : Accepted (net_in w)
  pub nodes-are : nodes ≡ length (net_in w).nodes
  pub layers-are : layers ≡ layer_count (net_in w)
  pub driver-tag : cell w 0 0 ≡ buffer_tag
  pub long : length w ≡ word_count

-- so it is an accepted net
pub held-accepted : {w : List ℕ} {nodes layers : ℕ} → Held w nodes layers → Accepted (net_in w)
held-accepted H = H.accepted

-- the counts in row 0 are those of the net
pub count-is : (w : List ℕ) → length (net_in w).nodes ≡ cell w 0 1
unfolding net_in nodes_in
count-is w = simp (length-map, length_from)

-- and of its layers
pub layers-is : (w : List ℕ) → layer_count (net_in w) ≡ cell w 0 2
unfolding net_in layers_in layer_count
layers-is w = simp (length-map, length_from)

-- the halves of the arrival time stand in row 0
pub arrival-is : (w : List ℕ) → (net_in w).driver.arrival ≡ signed (cell w 0 6 * 4294967296 + cell w 0 7)
unfolding net_in driver_in
arrival-is w = refl

-- row j is node j
pub row_is : (w : List ℕ) (j : ℕ) → 1 ≤ j → j ≤ length (net_in w).nodes → at (net_in w) j ≡ node_in w (cell w 0 2) j
unfolding net_in nodes_in node
row_is w zero h b = absurd (omega arith)
row_is w (suc j) h b = go j (omega (arith, count-is w))
  where
    go : (j : ℕ) → j < cell w 0 1 → at (net_in w) (suc j) ≡ node_in w (cell w 0 2) (suc j)
    go j h = map_at (node_in w (cell w 0 2)) no_node 1 (cell w 0 1) j h ∙ ap (node_in w (cell w 0 2)) (omega arith)

-- a row in the array
pub record RowIn (w : List ℕ) (layers j : ℕ) : Type 0 where
  pub few : j < max_nodes + 1
  pub few-layers : layers ≤ max_layers
  pub is : record_in w j ≡ record_of (at (net_in w) j)
  pub cost-is : (l : ℕ) → l < layers → edge_cost (net_in w) l j ≡ get_or w (node_row j + costs_from + l) 0

-- row j of a net that is held
pub row_in : {w : List ℕ} {nodes layers j : ℕ} → Held w nodes layers → 1 ≤ j → j ≤ nodes → RowIn w layers j
unfolding node_in record_in costs_in edge_cost
row_in {w} {nodes} {layers} {j} H h b =
    let A = H.accepted in
    let q = row_is w j h (omega (arith, H.nodes-are)) in
    record {
      few = omega (arith, A.few-nodes, H.nodes-are);
      few-layers = omega (arith, A.few-layers, H.layers-are);
      is = sym (ap record_of q);
      cost-is = λ l d.
          ap (λ (m : tree.Node). get_or m.costs l 0) q ∙
          map_at (λ i. get_or w (node_row j + costs_from + i) 0) 0 0 (cell w 0 2) l (omega (arith, H.layers-are, layers-is w)) ∙
          ap (λ (i : ℕ). get_or w (node_row j + costs_from + i) 0) (omega arith);
    }

-- a layer in the array
pub record LayerRead (w : List ℕ) (l : ℕ) : Type 0 where
  pub layer_in_lem : l < max_layers
  pub long : length w ≡ word_count
  pub res_is : get_or w l 0 ≡ (layer (net_in w) l).unit_res
  pub cap_is : get_or w (caps_at + l) 0 ≡ (layer (net_in w) l).unit_cap
  pub via-is : get_or w (vias_at + l) 0 ≡ (layer (net_in w) l).via_res

-- layer l of a net that is held
pub layer-read : {w : List ℕ} {nodes layers l : ℕ} → Held w nodes layers → l < layers → LayerRead w l
unfolding layer net_in layers_in layer_in
layer-read {w} {l = l} H h =
    let z : 0 + l ≡ l = omega arith in
    let q : layer (net_in w) l ≡ layer_in w l = map_at (layer_in w) _ 0 (cell w 0 2) l (omega (arith, H.layers-are, layers-is w)) ∙ ap (layer_in w) z in
    record {
      layer_in_lem = omega (arith, (held-accepted H).few-layers, H.layers-are);
      long = H.long;
      res_is = sym (ap (λ (x : Layer). x.unit_res) q);
      cap_is = sym (ap (λ (x : Layer). x.unit_cap) q);
      via-is = sym (ap (λ (x : Layer). x.via_res) q);
    }
