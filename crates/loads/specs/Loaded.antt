-- The loads, from the last node to the first: before node j is taken, each entry is what the children after j add to it, so the load at j is whole, and j
-- adds its wire and the load at its lower end to the load at its parent (01, Timing rule; source 001, section 2: all wire of the stage counts).
use Rattle.std.specs.Prelude.{◌≡◌, refl, ◌⊎◌, List, ℕ, zero, suc, ◌+◌, ◌*◌, ◌-◌, ◌≤◌, ◌<◌, eqb, length, get_or, replicate, if◌then◌else◌}
use Rattle.std.proofs.Common.{sym, ◌∙◌, inl, inr, arith, zero-add, suc-add, add-zero, eq-eqb, ne_eqb}
use Rattle.std.proofs.Math.Nat.{sub-zero}
use Rattle.std.proofs.lemmas.List.{length-replicate}
use Rattle.laws.specs.Booleans.{same_or}
use Rattle.rules.specs.Tree.{Net, at, stage_of, on}
use Rattle.rules.specs.Bytes.{max_nodes}
use Rattle.rules.specs.Timing.{load}
use Rattle.facts.specs.Accepted.{Accepted}
use Rattle.facts.specs.Loads.{max_load, added_load, child_load, load-children, load_after, load_in}
use Rattle.slices.specs.Rows.{entry, RowSet, row_kept}
use Rattle.tree.specs.Staged.{stage_below}
use Rattle.loads.specs.Tables.{NodeRow, RowMost}
use Rattle.loads.specs.Columns.{zeros, layer-above, layer_below}
use Rattle.loads.specs.Edges.{added_on, EdgeIn, LoadAt, added_is, edge-rows}

-- Entry i * w + c is the load at node i, on the layer that column c of the stage below i stands for.
pub record Loaded (n : Net) (first : List ℕ) (w : ℕ) (table : List ℕ) : Type 0 where
  pub each : (i c : ℕ) → i ≤ length n.nodes → c < w → entry w table i c ≡ load n (on first (stage_below n i) + c) i
  pub long : (max_nodes + 1) * w ≤ length table

-- A table with no load yet.
pub record Unloaded (w : ℕ) (table : List ℕ) : Type 0 where
  pub each : (k : ℕ) → get_or table k 0 ≡ 0
  pub long : (max_nodes + 1) * w ≤ length table

-- An array of zeros is such a table (what a caller with a fresh array has).
pub unloaded_zeros : (w m : ℕ) → (max_nodes + 1) * w ≤ m → Unloaded w (replicate {A = ℕ} m 0)
unloaded_zeros w m e = record { each = zeros m; long = omega (arith, length-replicate {A = ℕ} m 0) }

-- The pass when nodes 1 to j are still to come.
pub record Loading (n : Net) (first : List ℕ) (w : ℕ) (table : List ℕ) (j : ℕ) : Type 0 where
  pub inside : j ≤ length n.nodes
  pub each : (i c : ℕ) → i ≤ length n.nodes → c < w
      → entry w table i c ≡ child_load n (on first (stage_below n i) + c) i (suc j) (length n.nodes - j)
  pub long : (max_nodes + 1) * w ≤ length table

pub loading_start : (n : Net) (first : List ℕ) {w : ℕ} {table : List ℕ} {nodes : ℕ} → nodes ≡ length
    n.nodes → Unloaded w table → Loading n first w table nodes
unfolding child_load
loading_start n first {w} {table} {nodes} e Z = record {
  inside = omega arith;
  each = λ i c a b. let none : length n.nodes - nodes ≡ 0 = omega arith in rw none (Z.each (i * w + c));
  long = Z.long;
}

-- What the children from a later node on add is part of the whole.
rest_le : (n : Net) (l i d a c : ℕ) → child_load n l i (a + d) c ≤ child_load n l i a (d + c)
unfolding child_load
rest_le n l i zero a c = rw (add-zero a, zero-add c) (omega arith)
rest_le n l i (suc d) a c =
    let r = rest_le n l i d (suc a) c in
    let q : a + suc d ≡ suc a + d = omega arith in
    rw (q, suc-add d c) (omega arith)

-- One node more.
child_more : (n : Net) (l i j c : ℕ) → child_load n l i j (suc c) ≡ (if eqb (at n j).parent i then added_load n l j else 0) + child_load n l i (suc j) c
unfolding child_load
child_more n l i j c = refl

-- What a turn at node j may rely on, l being the first layer of its stage, and what it leaves.
pub record LoadTurn (n : Net) (first : List ℕ) (w : ℕ) (table : List ℕ) (l j : ℕ) : Type 0 where
  pub parent-lower : (at n j).parent < j
  pub edge : EdgeIn n w table (at n j).len (at n j).kind l j
  pub parent_row : RowMost w table (at n j).parent max_load
  pub onward : {table' : List ℕ}
      → RowSet 0 w table table' (at n j).parent w (λ c. entry w table (at n j).parent c + added_on n w table (at n j).len (at n j).kind l j c)
      → Loading n first w table' (j - 1)

module _ {n : Net} (A : Accepted n) where
  pub loading_end : {first : List ℕ} {w : ℕ} {table : List ℕ} {j : ℕ} → Loading n first w table j → j ≡ 0 → Loaded n first w table
  loading_end {first} G e = record {
    each = λ i c a b. G.each i c a b ∙ rw (e, sub-zero) (sym (load-children A (on first (stage_below n i) + c) i));
    long = G.long;
  }

  pub load-turn : {first : List ℕ} {w : ℕ} {table : List ℕ} {l j : ℕ} → Loading n first w table j → 1 ≤ j → l ≡ on first
      (stage_of n j) → LoadTurn n first w table l j
  load-turn {first} {w} {table} {l} {j} G h e = record {
    parent-lower = lower;
    edge = edge-rows whole A (row j (omega (arith, G.inside, A.few-nodes)));
    parent_row = record { row = row p (omega (arith, lower, G.inside, A.few-nodes)); each = parent_in };
    onward = λ F. record {
      inside = omega (arith, G.inside);
      each = λ i c a b. go F i c a b (same_or p i);
      long = omega (arith, F.long, G.long);
    };
  }
    where
      p : ℕ
      p = (at n j).parent

      lower : p < j
      lower = A.parent-lower j h

      -- The wire below the parent is on the layers of the edge's stage.
      on-is : on first (stage_below n p) ≡ l
      on-is = layer-above A first h e

      row : (i : ℕ) → i < max_nodes + 1 → NodeRow w table i
      row i b = record { row_in = b; long = G.long }

      whole : LoadAt n w table l j
      whole = record {
        is = λ s c b. rw (← layer_below A first h e s) (G.each j c G.inside b ∙ sym (load_after A (on first (stage_below n j) + c) j G.inside));
      }

      held : (c : ℕ) → c < w → entry w table p c ≡ child_load n (l + c) p (suc j) (length n.nodes - j)
      held c b = rw on-is at (G.each p c (omega (arith, lower, G.inside)) b)

      parent_in : (c : ℕ) → c < w → entry w table p c ≤ max_load
      parent_in c b =
          let part = rest_le n (l + c) p j 1 (length n.nodes - j) in
          let q : 1 + j ≡ suc j = omega arith in
          let r : j + (length n.nodes - j) ≡ length n.nodes = omega (arith, G.inside) in
          omega (arith, held c b, rw (q, r) at part, load-children A (l + c) p, load_in A (l + c) p)

      more : (i m : ℕ) → child_load n m i (suc (j - 1)) (length n.nodes - (j - 1))
          ≡ (if eqb p i then added_load n m j else 0) + child_load n m i (suc j) (length n.nodes - j)
      more i m =
          let q : suc (j - 1) ≡ j = omega arith in
          let r : length n.nodes - (j - 1) ≡ suc (length n.nodes - j) = omega (arith, G.inside) in
          rw (q, r) (child_more n m i j (length n.nodes - j))

      go : {table' : List ℕ} → RowSet 0 w table table' p w (λ c. entry w table p c + added_on n w table (at n j).len (at n j).kind l j c)
          → (i c : ℕ) → i ≤ length n.nodes → c < w → (i ≡ p) ⊎ (i ≡ p → ⊥)
          → entry w table' i c ≡ child_load n (on first (stage_below n i) + c) i (suc (j - 1)) (length n.nodes - (j - 1))
      go F i c a b (inl q) =
          let m = more p (l + c) in
          let s = rw (eq-eqb p p refl) at m in
          rw (q, on-is) (omega (arith, F.set_to c b, added_is whole c b, held c b, s))
      go F i c a b (inr ne) =
          let m = more i (on first (stage_below n i) + c) in
          let s = rw (ne_eqb p i (λ q. ne (sym q))) at m in
          omega (arith, row_kept F i c b ne, G.each i c a b, s)
