-- Stages by number, and the climb from a node to the root of its stage. Roots and stages have the same order, so counting buffers and looking up the
-- t-th one undo each other; a climb ends because parents are lower (01, The tree and what is left to decide).
use Rattle.std.specs.Prelude.{◌≡◌, Bool, false, length}
use Rattle.std.proofs.Math.Path.{refl, ap}
use Rattle.std.proofs.Common.{sym, ◌∙◌}
use Rattle.std.proofs.Math.Bool.{true}
use mathlib.Core.List.{List, [], ◌∷◌, Memᴰ}
use Prim.Native.Nat.{ℕ, zero, suc, ◌+◌, ◌≤◌, ◌<◌}
use native.Mathlib.Omega.{arith}
use Rattle.std.proofs.Math.Numerals.{one-add}
use Rattle.std.proofs.Math.Dec.{eqb}
use borrow.Author.Tests.{eqb-true, eq-eqb}
use Rattle.laws.specs.Basic.{from, keep}
use Rattle.laws.specs.Lists.{mem-from, from-mem, from_low, mem-keep, keep-mem}
use Rattle.laws.specs.Counting.{at_count, nth, count_lt, count_le}
use Rattle.rules.specs.declared.Kind.{Kind}
use Rattle.rules.specs.declared.Kind.TheVariants.{Steiner, Buffer, Sink}
use Rattle.rules.specs.Tree.{Net, is_sink, is_buffer, is_terminal, at, edges, children_of, is_root, roots, stages, root, drives}
use Rattle.rules.specs.Tree.{root_from, path_from, stage_of, between, edges_of, terminals}
use Rattle.facts.specs.Accepted.{ChildOf, Accepted, driver_no_sink}

-- Node i is the root of stage t.
pub record RootOf (n : Net) (t i : ℕ) : Type 0 where
  pub inside : i ≤ length n.nodes
  pub is-root : is_root n i ≡ true
  pub drives_it : drives n i ≡ t

-- Edge j belongs to stage t.
pub record EdgeOf (n : Net) (t j : ℕ) : Type 0 where
  pub after : 1 ≤ j
  pub inside : j ≤ length n.nodes
  pub stage : stage_of n j ≡ t

-- Node j is a terminal of stage t: the wire of the stage ends there.
pub record TerminalOf (n : Net) (t j : ℕ) : Type 0 where
  pub edge : EdgeOf n t j
  pub ends : is_terminal (at n j).kind ≡ true

-- Node j is a buffer.
abbrev buffer : Net → ℕ → Bool
buffer n j = is_buffer (at n j).kind

-- These laws hold of every net.
module _ (n : Net) where
  -- After the driver the roots are the buffers.
  pub root-is-buffer : (j : ℕ) → 1 ≤ j → is_root n j ≡ is_buffer (at n j).kind
  root-is-buffer zero h = absurd (omega arith)
  root-is-buffer (suc j) h = refl

  -- A root is no sink.
  pub root_no_sink : (i : ℕ) → is_root n i ≡ true → is_sink (at n i).kind ≡ false
  root_no_sink zero e = driver_no_sink n
  root_no_sink (suc i) e = go (at n (suc i)).kind e
    where
      go : (k : Kind) → is_buffer k ≡ true → is_sink k ≡ false
      go Steiner e = refl
      go (Buffer c r d) e = refl
      go (Sink c t) e = sym e

  -- The root of the stage that a root drives is that root.
  pub root-drives : (i : ℕ) → i ≤ length n.nodes → is_root n i ≡ true → root n (drives n i) ≡ i
  unfolding root roots edges drives
  root-drives zero h e = refl
  root-drives (suc i) h e = at_count (buffer n) 0 1 (length n.nodes) i h (ap (buffer n) (one-add i) ∙ e) ∙ one-add i

  -- Every stage has its root.
  pub stage_at : (t : ℕ) → t < stages n → RootOf n t (root n t)
  unfolding root roots edges drives stages
  stage_at zero h = record { inside = omega arith; is-root = refl; drives_it = refl }
  stage_at (suc t) h =
      let k = nth (buffer n) 1 (length n.nodes) t (omega arith) in
      let e = k.is ∙ one-add k.o in
      record {
        inside = omega (arith, k.inside, k.is);
        is-root = ap (is_root n) e ∙ ap (buffer n) (sym (one-add k.o)) ∙ k.passes;
        drives_it = ap (drives n) e ∙ k.count;
      }

  -- The root of every stage but the driver's is a buffer.
  pub stage-buffer : (t : ℕ) → 1 ≤ t → t < stages n → (1 ≤ root n t) × (is_buffer (at n (root n t)).kind ≡ true)
  unfolding drives
  stage-buffer t a b = let s = stage_at t b in go (root n t) s.is-root s.drives_it
    where
      go : (i : ℕ) → is_root n i ≡ true → drives n i ≡ t → (1 ≤ i) × (is_buffer (at n i).kind ≡ true)
      go zero e q = absurd (omega arith)
      go (suc i) e q = (omega arith, e)

  -- There is a stage, the driver's.
  pub stages-some : 0 < stages n
  unfolding stages roots
  stages-some = omega arith

  -- What a node of the net drives is a stage of the net.
  pub drives-below : (i : ℕ) → i ≤ length n.nodes → drives n i < stages n
  unfolding stages roots edges drives
  drives-below i b = omega (arith, count_le (buffer n) 1 i (length n.nodes) b)

  -- The members of the lists of children, of a stage's edges and of its terminals.
  kept-edge : (test : ℕ → Bool) {j : ℕ} → Memᴰ j (keep test (edges n)) → (1 ≤ j) × (j ≤ length n.nodes) × (test j ≡ true)
  unfolding edges
  kept-edge test {j} m =
      let (k, e) = keep-mem test (from 1 (length n.nodes)) m in
      (from_low 1 (length n.nodes) j k, omega (arith, from-mem 1 (length n.nodes) j k), e)

  pub child_mem : {i j : ℕ} → Memᴰ j (children_of n i) → ChildOf n i j
  unfolding children_of
  child_mem {i} {j} m = let (a, b, e) = kept-edge (λ j. eqb (at n j).parent i) m in record { after = a; inside = b; parent = eqb-true (at n j).parent i e }

  pub edge-mem : {t j : ℕ} → Memᴰ j (edges_of n t) → EdgeOf n t j
  unfolding edges_of
  edge-mem {t} {j} m = let (a, b, e) = kept-edge (λ j. eqb (stage_of n j) t) m in record { after = a; inside = b; stage = eqb-true (stage_of n j) t e }

  pub mem-edge : {t j : ℕ} → EdgeOf n t j → Memᴰ j (edges_of n t)
  unfolding edges_of edges
  mem-edge {t} {j} e =
      let m = mem-from 1 (length n.nodes) j e.after (omega (arith, e.inside)) in
      mem-keep (λ j. eqb (stage_of n j) t) (from 1 (length n.nodes)) m (eq-eqb (stage_of n j) t e.stage)

  pub terminal_mem : {t j : ℕ} → Memᴰ j (terminals n t) → TerminalOf n t j
  unfolding terminals
  terminal_mem {t} m = let (k, e) = keep-mem (λ j. is_terminal (at n j).kind) (edges_of n t) m in record { edge = edge-mem k; ends = e }

  pub mem_terminal : {t j : ℕ} → TerminalOf n t j → Memᴰ j (terminals n t)
  unfolding terminals
  mem_terminal {t} e = mem-keep (λ j. is_terminal (at n j).kind) (edges_of n t) (mem-edge e.edge) e.ends

  -- A climb stops at a root and goes on to the parent otherwise.
  pub climb_root : (k i : ℕ) → i ≤ k → is_root n i ≡ true → root_from k n i ≡ i
  unfolding root_from
  climb_root zero i h e = omega arith
  climb_root (suc k) i h e = rw (e, root_from)

  pub climb_up : (k i : ℕ) → is_root n i ≡ false → root_from (suc k) n i ≡ root_from k n (at n i).parent
  unfolding root_from
  climb_up k i e = rw (e, root_from)

  path_root : (k i : ℕ) → i ≤ k → is_root n i ≡ true → path_from k n i ≡ []
  unfolding path_from
  path_root zero i h e = refl
  path_root (suc k) i h e = rw (e, path_from)

  path_up : (k i : ℕ) → is_root n i ≡ false → path_from (suc k) n i ≡ i ∷ path_from k n (at n i).parent
  unfolding path_from
  path_up k i e = rw (e, path_from)

-- These hold of an accepted net.
module _ {n : Net} (A : Accepted n) where
  -- A node that is no root has a parent, with a lower number.
  pub not_root : (i : ℕ) → is_root n i ≡ false → (1 ≤ i) × ((at n i).parent < i)
  not_root zero e = let z : ◌≡◌ {A = ℕ} 0 1 = cc in absurd (omega arith)
  not_root (suc i) e = (omega arith, A.parent-lower (suc i) (omega arith))

  -- A climb up to a root is the same for every bound on it that is no less than the node's number.
  module _ {B : Type 0} (climb : ℕ → ℕ → B) (stop : ℕ → B) (step : ℕ → B → B) (at-root : (k i : ℕ) → i ≤ k → is_root n i ≡ true → climb k i ≡ stop i)
      (go-up : (k i : ℕ) → is_root n i ≡ false → climb (suc k) i ≡ step i (climb k (at n i).parent)) where
    enough : (k k' i : ℕ) → i ≤ k → i ≤ k' → climb k i ≡ climb k' i
    enough zero k' i h h' = let e : i ≡ 0 = omega arith in at-root 0 i h (rw e refl) ∙ sym (at-root k' i h' (rw e refl))
    enough (suc k) zero i h h' = let e : i ≡ 0 = omega arith in at-root (suc k) i h (rw e refl) ∙ sym (at-root 0 i h' (rw e refl))
    enough (suc k) (suc k') i h h' = go (is_root n i) refl (λ u. enough k k' (at n i).parent (omega arith) (omega arith))
      where
        go : (b : Bool) → is_root n i ≡ b → ((at n i).parent < i → climb k (at n i).parent ≡ climb k' (at n i).parent) → climb (suc k) i ≡ climb (suc k') i
        go true e r = at-root (suc k) i h e ∙ sym (at-root (suc k') i h' e)
        go false e r = go-up k i e ∙ ap (step i) (r (not_root i e).1) ∙ sym (go-up k' i e)

  pub climb_same : (k k' i : ℕ) → i ≤ k → i ≤ k' → root_from k n i ≡ root_from k' n i
  climb_same = enough (λ k i. root_from k n i) (λ i. i) (λ i r. r) (climb_root n) (climb_up n)

  path_same : (k k' i : ℕ) → i ≤ k → i ≤ k' → path_from k n i ≡ path_from k' n i
  path_same = enough (λ k i. path_from k n i) (λ i. []) (λ i ps. i ∷ ps) (path_root n) (path_up n)

  -- A climb ends at a root, at the node or above it.
  climb_ends : (k i : ℕ) → i ≤ k → (root_from k n i ≤ i) × (is_root n (root_from k n i) ≡ true)
  climb_ends zero i h =
      let e : i ≡ 0 = omega arith in
      rw e (rw (climb_root n 0 0 (omega arith) refl) (omega arith, refl))
  climb_ends (suc k) i h = go (is_root n i) refl (λ u. climb_ends k (at n i).parent (omega arith))
    where
      go : (b : Bool) → is_root n i ≡ b → ((at n i).parent < i → (root_from k n (at n i).parent ≤ (at n i).parent) × (is_root n (root_from k n (at n i).parent) ≡ true))
          → (root_from (suc k) n i ≤ i) × (is_root n (root_from (suc k) n i) ≡ true)
      go true e r = rw (climb_root n (suc k) i h e) (omega arith, e)
      go false e r = let u = (not_root i e).1 in let (a, b) = r u in rw (climb_up n k i e) (omega arith, b)

  -- The stage of an edge below a root is the one that the root drives; below a Steiner point it is that of the edge above.
  pub stage-root : (j : ℕ) → 1 ≤ j → is_root n (at n j).parent ≡ true → stage_of n j ≡ drives n (at n j).parent
  unfolding stage_of
  stage-root j h e = let l = A.parent-lower j h in ap (drives n) (climb_root n j (at n j).parent (omega arith) e)

  pub stage-up : (j : ℕ) → 1 ≤ j → is_root n (at n j).parent ≡ false → stage_of n j ≡ stage_of n (at n j).parent
  unfolding stage_of
  stage-up zero h e = absurd (omega arith)
  stage-up (suc j) h e =
      let p = (at n (suc j)).parent in
      let l = A.parent-lower (suc j) h in
      let u = (not_root p e).1 in
      ap (drives n) (climb_up n j p e ∙ climb_same j p (at n p).parent (omega arith) (omega arith))

  -- The edges between a node and the root of its stage: its own edge alone below a root, else that edge and those of its parent.
  pub between-root : (j : ℕ) → 1 ≤ j → is_root n (at n j).parent ≡ true → between n j ≡ j ∷ []
  unfolding between
  between-root j h e = let l = A.parent-lower j h in ap (λ (ps : List ℕ). j ∷ ps) (path_root n j (at n j).parent (omega arith) e)

  pub between-up : (j : ℕ) → 1 ≤ j → is_root n (at n j).parent ≡ false → between n j ≡ j ∷ between n (at n j).parent
  unfolding between
  between-up zero h e = absurd (omega arith)
  between-up (suc j) h e =
      let p = (at n (suc j)).parent in
      let l = A.parent-lower (suc j) h in
      let u = (not_root p e).1 in
      ap (λ (ps : List ℕ). suc j ∷ ps) (path_up n j p e ∙ ap (λ (ps : List ℕ). p ∷ ps) (path_same j p (at n p).parent (omega arith) (omega arith)))

  -- The root of an edge's stage comes before the edge.
  pub root_before : (j : ℕ) → 1 ≤ j → j ≤ length n.nodes → root n (stage_of n j) < j
  unfolding stage_of
  root_before j a b =
      let l = A.parent-lower j a in
      let (low, r) = climb_ends j (at n j).parent (omega arith) in
      omega (arith, root-drives n (root_from j n (at n j).parent) (omega arith) r)

  -- The stage of an edge is a stage of the net.
  pub stage-below : (j : ℕ) → 1 ≤ j → j ≤ length n.nodes → stage_of n j < stages n
  unfolding stage_of
  stage-below j a b =
      let l = A.parent-lower j a in
      let c = (climb_ends j (at n j).parent (omega arith)).0 in
      drives-below n (root_from j n (at n j).parent) (omega arith)

  -- A stage drives stages of higher number.
  pub stage-less : (j : ℕ) → 1 ≤ j → is_buffer (at n j).kind ≡ true → stage_of n j < drives n j
  unfolding stage_of drives
  stage-less zero h e = absurd (omega arith)
  stage-less (suc j) h e =
      let l = A.parent-lower (suc j) h in
      let c = (climb_ends (suc j) (at n (suc j)).parent (omega arith)).0 in
      count_lt (buffer n) 1 (root_from (suc j) n (at n (suc j)).parent) j (omega arith) (ap (buffer n) (one-add j) ∙ e)

  -- From an edge downward the wire of its stage ends somewhere.
  ends-below : (k j : ℕ) → length n.nodes < k + j → 1 ≤ j → j ≤ length n.nodes → (m : ℕ) × TerminalOf n (stage_of n j) m
  ends-below zero j h a b = absurd (omega arith)
  ends-below (suc k) j h a b = go (at n j).kind refl (λ c d l. ends-below k c (omega arith) d.after d.inside)
    where
      here : is_terminal (at n j).kind ≡ true → (m : ℕ) × TerminalOf n (stage_of n j) m
      here e = (j, record { edge = record { after = a; inside = b; stage = refl }; ends = e })

      go : (kind : Kind) → (at n j).kind ≡ kind → ((c : ℕ) → ChildOf n j c → j < c → (m : ℕ) × TerminalOf n (stage_of n c) m) → (m : ℕ) × TerminalOf n (stage_of n j) m
      go Steiner q r =
          let (c, d) = A.has_child j b (ap is_sink q) in
          let s : stage_of n c ≡ stage_of n j = stage-up c d.after (ap (is_root n) d.parent ∙ root-is-buffer n j a ∙ ap is_buffer q) ∙ ap (stage_of n) d.parent in
          rw (← s) (r c d (omega (arith, A.parent-lower c d.after, d.parent)))
      go (Buffer c r d) q s = here (ap is_terminal q)
      go (Sink c t) q s = here (ap is_terminal q)

  -- Every stage has a terminal.
  pub stage-ends : (t : ℕ) → t < stages n → (j : ℕ) × TerminalOf n t j
  stage-ends t h =
      let s = stage_at n t h in
      let (c, d) = A.has_child (root n t) s.inside (root_no_sink n (root n t) s.is-root) in
      let q : stage_of n c ≡ t = stage-root c d.after (ap (is_root n) d.parent ∙ s.is-root) ∙ ap (drives n) d.parent ∙ s.drives_it in
      rw (← q) (ends-below (suc (length n.nodes)) c (omega arith) d.after d.inside)
