-- What every net that was read keeps, as the struct `Net` holds it: that its array holds an accepted net with its counts (`Held`). A ghost field has room for
-- a fact with one proof only, so the field is `∥ Held .. ∥₁`, that there is a proof; `held` gives one back.
use Rattle.std.specs.Prelude.{refl, List, ℕ, ◌≤◌, length}
use Rattle.std.proofs.Common.{arith}
use Rattle.std.proofs.Props.{props}
use Rattle.std.proofs.Math.Logic.{∥∥₁_elim}
use Rattle.std.proofs.Math.Dec.{eqb}
use borrow.Author.Tests.{eq-eqb}
use mathlib.Core.List.{[], ◌∷◌, Memᴰ}
use mathlib.Core.List.Memᴰ
use Rattle.laws.specs.Basic.{from}
use Rattle.laws.specs.Lists.{mem-from, mem-keep}
use Rattle.rules.specs.Tree as tree
use Rattle.rules.specs.Tree.{at, edges, children_of}
use Rattle.facts.specs.Accepted.{ChildOf}
use Rattle.facts.specs.Stages.{child_mem}
use Rattle.words.specs.Words.{net_in}
use Rattle.words.specs.Held.{Held}
use Rattle.words.specs.declared.net.Net.{Net}

-- Which net it is.
abbrev pub net_of : Net → tree.Net
net_of n = net_in n.words.now

-- A child is among the children.
some_child : {n : tree.Net} {i j : ℕ} → ChildOf n i j → Memᴰ j (children_of n i)
unfolding children_of edges
some_child {n} {i} {j} c =
    mem-keep (λ j. eqb (at n j).parent i) (from 1 (length n.nodes)) (mem-from 1 (length n.nodes) j c.after (omega (arith, c.inside))) (eq-eqb (at n j).parent i c.parent)

-- Where there are children, the first of them.
first_child : {n : tree.Net} {i : ℕ} → 1 ≤ length (children_of n i) → (j : ℕ) × ChildOf n i j
first_child {n} {i} h = go (children_of n i) (λ j m. m) h
  where
    go : (xs : List ℕ) → ((j : ℕ) → Memᴰ j xs → Memᴰ j (children_of n i)) → 1 ≤ length xs → (j : ℕ) × ChildOf n i j
    go [] r h = absurd (omega arith)
    go (x ∷ xs) r h = (x, child_mem n (r x (Memᴰ.head refl)))

-- A list with a member is not empty.
not_empty : {x : ℕ} (xs : List ℕ) → Memᴰ x xs → 1 ≤ length xs
not_empty [] m = absurd (Memᴰ.not-nil m)
not_empty (x ∷ xs) m = omega arith

-- The fact itself.
pub held : {w : List ℕ} {nodes layers : ℕ} → ∥ Held w nodes layers ∥₁ → Held w nodes layers
held {w} {nodes} {layers} t = record {
  accepted = record {
    parent-lower = λ j h. ∥∥₁_elim t (Prim.hlevel props) (λ H. H.accepted.parent-lower j h);
    parent_no_sink = λ j a b. ∥∥₁_elim t (Prim.hlevel props) (λ H. H.accepted.parent_no_sink j a b);
    few-children = λ i. ∥∥₁_elim t (Prim.hlevel props) (λ H. H.accepted.few-children i);
    has_child = λ i a s. first_child (∥∥₁_elim t (Prim.hlevel props) (λ H. let (j, c) = H.accepted.has_child i a s in not_empty _ (some_child c)));
    node_in_range = λ j. ∥∥₁_elim t (Prim.hlevel props) (λ H. H.accepted.node_in_range j);
    layers_in_range = ∥∥₁_elim t (Prim.hlevel props) (λ H. H.accepted.layers_in_range);
    driver_in_range = ∥∥₁_elim t (Prim.hlevel props) (λ H. H.accepted.driver_in_range);
    some-layer = ∥∥₁_elim t (Prim.hlevel props) (λ H. H.accepted.some-layer);
    few-layers = ∥∥₁_elim t (Prim.hlevel props) (λ H. H.accepted.few-layers);
    few-nodes = ∥∥₁_elim t (Prim.hlevel props) (λ H. H.accepted.few-nodes);
    few-stages = ∥∥₁_elim t (Prim.hlevel props) (λ H. H.accepted.few-stages);
  };
  nodes-are = ∥∥₁_elim t (Prim.hlevel props) (λ H. H.nodes-are);
  layers-are = ∥∥₁_elim t (Prim.hlevel props) (λ H. H.layers-are);
  driver-tag = ∥∥₁_elim t (Prim.hlevel props) (λ H. H.driver-tag);
  long = ∥∥₁_elim t (Prim.hlevel props) (λ H. H.long);
}
