-- The stage of each edge, by one pass in node order: an edge belongs to the stage that the wire below its upper end belongs to; below a buffer begins the
-- stage that it drives, below any other node goes on the stage of the edge above it (01, The tree).
use Rattle.std.specs.Prelude.{◌≡◌, Bool, ◌⊎◌, List, length, get_or, set, map, if◌then◌else◌}
use Rattle.std.proofs.Math.Path.{refl, ap}
use Rattle.std.proofs.Common.{sym, ◌∙◌, inl, inr, arith, length-set, get_or-set_same, get_or-set_other}
use Rattle.std.proofs.lemmas.List.{length-map}
use Rattle.std.proofs.Math.Bool.{true, false}
use Rattle.std.proofs.Math.Logic.{∥∥₁_elim}
use Rattle.std.proofs.Props.{props}
use Rattle.rules.specs.Bytes.{max_nodes}
use Prim.Native.Nat.{ℕ, zero, suc, ◌+◌, ◌-◌, ◌≤◌, ◌<◌}
use Rattle.laws.specs.Basic.{bit, from, keep}
use Rattle.laws.specs.Booleans.{same_or}
use Rattle.laws.specs.Lists.{keep-more, from_more, map_at, length_from}
use Rattle.rules.specs.Tree.{Net, at, is_buffer, stages, drives, root_from, stage_of}
use Rattle.facts.specs.Accepted.{Accepted}
use Rattle.words.specs.Words.{net_in}
use Rattle.words.specs.Held.{Held, held-accepted}
use Rattle.words.specs.Net.{held}
use Rattle.facts.specs.Stages.{root-is-buffer, climb_root, climb_up, climb_same, stages-some, drives-below, stage-below}

-- the stage that the wire below node i belongs to
unfoldable pub stage_below : Net → ℕ → ℕ
stage_below n i = drives n (root_from i n i)

pub drives-more : (n : Net) (j : ℕ) → drives n (suc j) ≡ drives n j + bit (is_buffer (at n (suc j)).kind)
unfolding drives
drives-more n j = ap (λ (l : List ℕ). length (keep (λ i. is_buffer (at n i).kind) l)) (from_more 1 j) ∙
    keep-more (λ i. is_buffer (at n i).kind) (from 1 j) (1 + j) ∙
    ap (λ (i : ℕ). length (keep (λ i. is_buffer (at n i).kind) (from 1 j)) + bit (is_buffer (at n i).kind)) (omega arith)

module _ {n : Net} (A : Accepted n) where
  pub stage-is-below : (j : ℕ) → 1 ≤ j → stage_of n j ≡ stage_below n (at n j).parent
  unfolding stage_of stage_below
  stage-is-below j h = let l = A.parent-lower j h in ap (drives n) (climb_same A j (at n j).parent (at n j).parent (omega arith) (omega arith))

  pub below-is : (j : ℕ) → 1 ≤ j → stage_below n j ≡ (if is_buffer (at n j).kind then drives n j else stage_of n j)
  unfolding stage_of stage_below
  below-is zero h = elim h [ ]
  below-is (suc j) h = go (is_buffer (at n (suc j)).kind) refl
    where
      go : (b : Bool) → is_buffer (at n (suc j)).kind ≡ b
          → drives n (root_from (suc j) n (suc j)) ≡ (if b then drives n (suc j) else drives n (root_from (suc j) n (at n (suc j)).parent))
      go true e = ap (drives n) (climb_root n (suc j) (suc j) (omega arith) (root-is-buffer n (suc j) h ∙ e))
      go false e =
          let l = A.parent-lower (suc j) h in
          ap (drives n) (climb_up n j (suc j) (root-is-buffer n (suc j) h ∙ e) ∙ climb_same A j (suc j) (at n (suc j)).parent (omega arith) (omega arith))

  -- The wire below a node belongs to a stage of the net.
  pub wire-below : (i : ℕ) → i ≤ length n.nodes → stage_below n i < stages n
  unfolding stage_below root_from drives
  wire-below zero h = omega (arith, stages-some n)
  wire-below (suc i) h = rw (below-is (suc i) (omega arith)) (go (is_buffer (at n (suc i)).kind))
    where
      go : (b : Bool) → (if b then drives n (suc i) else stage_of n (suc i)) < stages n
      go true = drives-below n (suc i) h
      go false = stage-below A (suc i) (omega arith) h

-- the two tables: the stage of each edge, and of the wire below each node
pub record Staged (n : Net) (stage below : List ℕ) : Type 0 where
  pub stage_is : (j : ℕ) → 1 ≤ j → j ≤ length n.nodes → get_or stage j 0 ≡ stage_of n j
  pub below-is : (i : ℕ) → i ≤ length n.nodes → get_or below i 0 ≡ stage_below n i
  pub stage-long : length stage ≡ max_nodes + 1
  pub below-long : length below ≡ max_nodes + 1

-- A ghost field has room for a fact with one proof only, so the one of `StagedNet` is `∥ Staged .. ∥₁`, that there is a proof; here it is back.
pub staged_of : {n : Net} {stage below : List ℕ} → ∥ Staged n stage below ∥₁ → Staged n stage below
staged_of t = record {
  stage_is = λ j a b. ∥∥₁_elim t (Prim.hlevel props) (λ S. S.stage_is j a b);
  below-is = λ i b. ∥∥₁_elim t (Prim.hlevel props) (λ S. S.below-is i b);
  stage-long = ∥∥₁_elim t (Prim.hlevel props) (λ S. S.stage-long);
  below-long = ∥∥₁_elim t (Prim.hlevel props) (λ S. S.below-long);
}

-- the two tables as the rules have them
pub stage_table : Net → List ℕ
stage_table n = map (stage_of n) (from 0 (max_nodes + 1))

pub below_table : Net → List ℕ
below_table n = map (stage_below n) (from 0 (max_nodes + 1))

-- An entry of a table with one for each node.
table_at : (f : ℕ → ℕ) (i : ℕ) → i < max_nodes + 1 → get_or (map f (from 0 (max_nodes + 1))) i 0 ≡ f i
table_at f i h = map_at f 0 0 (max_nodes + 1) i h ∙ ap f (omega arith)

table-long : (f : ℕ → ℕ) → length (map f (from 0 (max_nodes + 1))) ≡ max_nodes + 1
table-long f = simp (length-map, length_from)

-- Each table is one for itself: who has one, with whatever other, has it with the other as the rules have it. So it is for a net that is held, of which
-- `EdgeStages` and `WireStages` have one table each.
module _ {w : List ℕ} {nodes layers : ℕ} (net : ∥ Held w nodes layers ∥₁) where
  A : Accepted (net_in w)
  A = held-accepted (held net)

  pub edges_staged : {stage : List ℕ} → ∥ ((below : List ℕ) × Staged (net_in w) stage below) ∥₁ → Staged (net_in w) stage (below_table (net_in w))
  unfolding below_table
  edges_staged t = record {
    stage_is = λ j a b. ∥∥₁_elim t (Prim.hlevel props) (λ S. S.1.stage_is j a b);
    below-is = λ i b. table_at (stage_below (net_in w)) i (omega (arith, A.few-nodes));
    stage-long = ∥∥₁_elim t (Prim.hlevel props) (λ S. S.1.stage-long);
    below-long = table-long (stage_below (net_in w));
  }

  pub wires_staged : {below : List ℕ} → ∥ ((stage : List ℕ) × Staged (net_in w) stage below) ∥₁ → Staged (net_in w) (stage_table (net_in w)) below
  unfolding stage_table
  wires_staged t = record {
    stage_is = λ j a b. table_at (stage_of (net_in w)) j (omega (arith, A.few-nodes));
    below-is = λ i b. ∥∥₁_elim t (Prim.hlevel props) (λ S. S.1.below-is i b);
    stage-long = table-long (stage_of (net_in w));
    below-long = ∥∥₁_elim t (Prim.hlevel props) (λ S. S.1.below-long);
  }

-- So a net with both tables is one with each.
pub with_edges : {n : Net} {stage below : List ℕ} → ∥ Staged n stage below ∥₁ → ∥ ((below : List ℕ) × Staged n stage below) ∥₁
with_edges {n} {stage} {below} t = ∣ (below, staged_of t) ∣₁

pub with_wires : {n : Net} {stage below : List ℕ} → ∥ Staged n stage below ∥₁ → ∥ ((stage : List ℕ) × Staged n stage below) ∥₁
with_wires {n} {stage} {below} t = ∣ (stage, staged_of t) ∣₁

-- the pass before node j, count buffers passed
pub record Passing (n : Net) (stage below : List ℕ) (j count : ℕ) : Type 0 where
  pub some : 1 ≤ j
  pub inside : j ≤ length n.nodes + 1
  pub counted : count ≡ drives n (j - 1)
  pub stages-are : (i : ℕ) → 1 ≤ i → i < j → get_or stage i 0 ≡ stage_of n i
  pub belows_are : (i : ℕ) → i < j → get_or below i 0 ≡ stage_below n i
  pub stage-long : length stage ≡ max_nodes + 1
  pub below-long : length below ≡ max_nodes + 1

pub passing-start : (n : Net) (stage below : List ℕ) → length stage ≡ max_nodes + 1 → length below ≡ max_nodes + 1 → Passing n stage (set below 0 0) 1 0
unfolding drives stage_below root_from
passing-start n stage below ls lb = record {
  some = omega arith;
  inside = omega arith;
  counted = refl;
  stages-are = λ i a b. absurd (omega arith);
  belows_are = λ i h. first i (omega arith);
  stage-long = ls;
  below-long = length-set below 0 0 ∙ lb;
}
  where
    first : (i : ℕ) → i ≡ 0 → get_or (set below 0 0) i 0 ≡ stage_below n i
    first i e = rw e (get_or-set_same below 0 0 0 (omega arith))

pub passing_end : {n : Net} {stage below : List ℕ} {j count : ℕ} → Passing n stage below j count → length n.nodes < j → Staged n stage below
passing_end P h = record {
  stage_is = λ i a b. P.stages-are i a (omega arith);
  below-is = λ i b. P.belows_are i (omega arith);
  stage-long = P.stage-long;
  below-long = P.below-long;
}

-- what a turn at node j may rely on, and what it leaves
pub record StageTurn (n : Net) (stage below : List ℕ) (j count : ℕ) : Type 0 where
  pub node_in : j < max_nodes + 1
  pub parent_in : (at n j).parent < max_nodes + 1
  pub count_in : count + bit (is_buffer (at n j).kind) ≤ 255
  pub onward : Passing n (set stage j (get_or below (at n j).parent 0))
      (set below j (if is_buffer (at n j).kind then count + bit (is_buffer (at n j).kind) else get_or below (at n j).parent 0)) (j + 1)
      (count + bit (is_buffer (at n j).kind))

pub stage-turn : {n : Net} → Accepted n → {stage below : List ℕ} {j count : ℕ} → Passing n stage below j count → j ≤ length n.nodes → StageTurn n stage below j count
stage-turn {n} A {stage} {below} {j} {count} P h =
    let l = A.parent-lower j P.some in
    let f = A.few-nodes in
    record {
      node_in = omega arith;
      parent_in = omega arith;
      count_in = omega (arith, count-more, drives-below n j h, A.few-stages);
      onward = record {
        some = omega arith;
        inside = omega arith;
        counted = sym count-more ∙ ap (drives n) (omega arith);
        stages-are = λ i a b. stage-go i a b (same_or j i);
        belows_are = λ i b. below-go i b (same_or j i);
        stage-long = length-set stage j _ ∙ P.stage-long;
        below-long = length-set below j _ ∙ P.below-long;
      };
    }
  where
    count-go : (i : ℕ) → 1 ≤ i → count ≡ drives n (i - 1) → drives n i ≡ count + bit (is_buffer (at n i).kind)
    count-go zero a e = absurd (omega arith)
    count-go (suc i) a e =
        let q : drives n (suc i - 1) ≡ drives n i = ap (drives n) (omega arith) in
        drives-more n i ∙ ap (λ (k : ℕ). k + bit (is_buffer (at n (suc i)).kind)) (sym (e ∙ q))

    count-more : drives n j ≡ count + bit (is_buffer (at n j).kind)
    count-more = count-go j P.some P.counted

    above : get_or below (at n j).parent 0 ≡ stage_of n j
    above = P.belows_are (at n j).parent (A.parent-lower j P.some) ∙ sym (stage-is-below A j P.some)

    stage-go : (i : ℕ) → 1 ≤ i → i < j + 1 → (i ≡ j) ⊎ (i ≡ j → ⊥) → get_or (set stage j (get_or below (at n j).parent 0)) i 0 ≡ stage_of n i
    stage-go i a b (inl e) = rw e (get_or-set_same stage j _ 0 (omega (arith, P.stage-long, A.few-nodes)) ∙ above)
    stage-go i a b (inr e) = get_or-set_other stage j i _ 0 e ∙ P.stages-are i a (omega arith)

    here : (if is_buffer (at n j).kind then count + bit (is_buffer (at n j).kind) else get_or below (at n j).parent 0) ≡ stage_below n j
    here = rw (above, ← count-more) (sym (below-is A j P.some))

    below-go : (i : ℕ) → i < j + 1 → (i ≡ j) ⊎ (i ≡ j → ⊥)
        → get_or (set below j (if is_buffer (at n j).kind then count + bit (is_buffer (at n j).kind) else get_or below (at n j).parent 0)) i 0 ≡ stage_below n i
    below-go i b (inl e) = rw e (get_or-set_same below j _ 0 (omega (arith, P.below-long, A.few-nodes)) ∙ here)
    below-go i b (inr e) = get_or-set_other below j i _ 0 e ∙ P.belows_are i (omega arith)
