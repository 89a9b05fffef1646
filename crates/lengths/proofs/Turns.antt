-- A turn of the pass over the edges: what it may rely on, and what it leaves.
use mathlib.Core.Path.{◌≡◌, ap, sym, ◌∙◌}
use mathlib.Core.List.{List}
use Prim.Native.Nat.{ℕ, ◌+◌, ◌≤◌, ◌<◌}
use native.Mathlib.Omega.{arith}
use lib.ListN.{length, get_or, set}
use Rattle.rules.specs.Tree.{at, stages, stage_of, on}
use Rattle.rules.specs.Bytes.{max_length, max_layers}
use Rattle.facts.specs.Stages.{stage-below}
use Rattle.facts.specs.Block.{max_wire, max_block_wire}
use Rattle.words.specs.Words.{net_in}
use Rattle.words.specs.Held.{Held, held-accepted}
use Rattle.tree.specs.Staged.{Staged, stage-is-below, wire-below}
use Rattle.tree.specs.Plans.{Fitting}
use Rattle.lengths.specs.Adding.{LengthsBefore, length-sum-low, lengths_more}

-- The edge to node j, whose stage is on layer k.
pub record LengthTurn (w below x was lengths : List ℕ) (nodes j k : ℕ) : Type 0 where
  pub parent-lower : (at (net_in w) j).parent < j
  pub stage_in : (i : ℕ) → i ≤ nodes → get_or below i 0 < length x
  pub layer_in_lem : k < length lengths
  pub sum_low : get_or lengths k 0 + (at (net_in w) j).len ≤ max_block_wire + max_wire + max_length
  pub onward : LengthsBefore (net_in w) x was (set lengths k (get_or lengths k 0 + (at (net_in w) j).len)) (j + 1)

pub length-turn : {w : List ℕ} {nodes layers : ℕ} → Held w nodes layers → {stage below : List ℕ} → Staged (net_in w) stage below
    → {x : List ℕ} → Fitting (net_in w) x → {was lengths : List ℕ} → length was ≡ max_layers → ((l : ℕ) → get_or was l 0 ≤ max_block_wire)
    → {j : ℕ} → LengthsBefore (net_in w) x was lengths j → j ≤ nodes
    → LengthTurn w below x was lengths nodes j (get_or x (get_or below (at (net_in w) j).parent 0) 0)
length-turn {w} {nodes} H {stage} {below} S {x} F {was} {lengths} long low {j} P h =
    let A = held-accepted H in
    let n = net_in w in
    let p = (at n j).parent in
    let lower = A.parent-lower j P.some in
    let inside : j ≤ length n.nodes = omega (arith, H.nodes-are) in
    let e : get_or below p 0 ≡ stage_of n j = S.below-is p (omega arith) ∙ sym (stage-is-below A j P.some) in
    let t : get_or below p 0 < stages n = omega (arith, stage-below A j P.some inside) in
    let k : on x (get_or below p 0) ≡ on x (stage_of n j) = ap (on x) e in
    let layer : on x (get_or below p 0) < length lengths = omega (arith, F.layered (get_or below p 0) t, A.few-layers, P.long) in
    record {
      parent-lower = lower;
      stage_in = λ i b.
          let c : i ≤ length n.nodes = omega (arith, H.nodes-are) in
          omega (arith, S.below-is i c, wire-below A i c, F.sized);
      layer_in_lem = layer;
      sum_low = length-sum-low A P inside k layer (low (on x (get_or below p 0)));
      onward = lengths_more A P inside k layer;
    }
