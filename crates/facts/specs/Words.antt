-- The sentences of 01's timing rule as equations. The rules bound each recursion by a number; in an accepted net children have higher numbers than
-- their parent, and driven stages than the stage that drives them, so the bounds are never reached and the equations hold without them.
use Rattle.std.specs.Prelude.{◌≡◌, true, false, List, map, length, ℤ, ◌-ℤ◌}
use Rattle.std.proofs.Math.Path.{refl, ap, sym}
use Rattle.std.proofs.Common.{◌∙◌, arith}
use Prim.Native.Nat.{ℕ, zero, suc, ◌+◌, ◌*◌, ◌≤◌, ◌<◌}
use Rattle.std.proofs.Math.Nat.{add-zero}
use Rattle.std.proofs.Math.IntN.{pos}
use Rattle.laws.specs.Basic.{sum, least_of}
use Rattle.laws.specs.Lists.{map_same}
use Rattle.laws.specs.Sums.{sum-none}
use Rattle.rules.specs.declared.Kind.{Kind}
use Rattle.rules.specs.declared.Kind.TheVariants.{Steiner, Buffer, Sink}
use Rattle.rules.specs.Tree.{Net, is_sink, is_buffer, at, children_of, is_root, stages, drives, terminals, on}
use Rattle.rules.specs.Timing.{layer, edge_cap, lower_load, load_from, load, edge_delay, gate_delay, input_cap, terminal_via, wire_delay}
use Rattle.rules.specs.Timing.{terminal_time, required_from, required}
use Rattle.facts.specs.Accepted.{Accepted}
use Rattle.facts.specs.Stages.{child_mem, terminal_mem, root-is-buffer, not_root, between-root, between-up, stage-less, drives-below}

-- A sink's required time is given.
pub sink_time : (n : Net) (f : ℕ → ℤ) (j : ℕ) {c : ℕ} {t : ℤ} → (at n j).kind ≡ Sink c t → terminal_time n f j ≡ t
sink_time n f j e = rw (e, terminal_time)

-- A buffer's is that of the stage it drives.
pub buffer_time : (n : Net) (f : ℕ → ℤ) (j : ℕ) → is_buffer (at n j).kind ≡ true → terminal_time n f j ≡ f (drives n j)
buffer_time n f j b = go (at n j).kind b
  where
    go : (k : Kind) → is_buffer k ≡ true → ◌≡◌ {A = ℤ} (elim k [ Steiner ↦ pos 0 | Buffer c r d ↦ f (drives n j) | Sink c t ↦ t ]) (f (drives n j))
    go Steiner e = let z : ◌≡◌ {A = ℕ} 0 1 = cc in absurd (omega arith)
    go (Buffer c r d) e = refl
    go (Sink c t) e = let z : ◌≡◌ {A = ℕ} 0 1 = cc in absurd (omega arith)

-- What terminal j asks of the root of stage t on layer l, where f gives the required times of stages: its required time minus gate delay minus the
-- edge delays between.
abbrev pub asked : Net → (ℕ → ℤ) → ℕ → ℕ → ℕ → ℤ
asked n f l t j = (terminal_time n f j -ℤ pos (gate_delay n l t)) -ℤ pos (wire_delay n l j)

-- What a terminal asks looks at other stages only if it is a buffer.
time_same : (n : Net) (f g : ℕ → ℤ) (j : ℕ) → (is_buffer (at n j).kind ≡ true → f (drives n j) ≡ g (drives n j)) → terminal_time n f j ≡ terminal_time n g j
time_same n f g j h = go (at n j).kind refl
  where
    go : (k : Kind) → (at n j).kind ≡ k → terminal_time n f j ≡ terminal_time n g j
    go Steiner e = rw (e, terminal_time)
    go (Buffer c r d) e = rw (e, terminal_time) (h (ap is_buffer e))
    go (Sink c t) e = rw (e, terminal_time)

lower-same : (n : Net) (f g : ℕ → ℕ) (j : ℕ) → f j ≡ g j → lower_load n f j ≡ lower_load n g j
lower-same n f g j e = go (at n j).kind
  where
    go : (k : Kind) → ◌≡◌ {A = ℕ} (elim k [ Steiner ↦ f j | Buffer c r d ↦ c | Sink c t ↦ c ]) (elim k [ Steiner ↦ g j | Buffer c r d ↦ c | Sink c t ↦ c ])
    go Steiner = e
    go (Buffer c r d) = refl
    go (Sink c t) = refl

module _ {n : Net} (A : Accepted n) where
  -- The last node and those after it have no children.
  pub childless : (f : ℕ → ℕ) (i : ℕ) → length n.nodes ≤ i → sum (map f (children_of n i)) ≡ 0
  childless f i h = sum-none f (children_of n i) (λ j m. let c = child_mem n m in absurd (omega (arith, A.parent-lower j c.after)))

  -- One more on the bound changes nothing.
  load-more : (l k i : ℕ) → length n.nodes < k + i → load_from (suc k) n l i ≡ load_from k n l i
  unfolding load_from
  load-more l zero i h = childless (λ j. edge_cap n l j + lower_load n (load_from 0 n l) j) i (omega arith)
  load-more l (suc k) i h =
      ap sum (map_same (λ j. edge_cap n l j + lower_load n (load_from (suc k) n l) j) (λ j. edge_cap n l j + lower_load n (load_from k n l) j) (children_of n i)
      (λ j m. let c = child_mem n m in
      ap (λ (x : ℕ). edge_cap n l j + x) (lower-same n (load_from (suc k) n l) (load_from k n l) j (load-more l k j (omega (arith, A.parent-lower j c.after))))))

  -- The load at a Steiner point or root is the sum over its children of edge C plus child load (01, Timing rule; source 001, section 2).
  pub load_is : (l i : ℕ) → load n l i ≡ sum (map (λ j. edge_cap n l j + lower_load n (load n l) j) (children_of n i))
  unfolding load
  load_is l i = sym (load-more l (length n.nodes + 1) i (omega arith)) ∙ (unfold load_from in refl)

  -- The parent of an edge is a root or a Steiner point, and at a Steiner point there is no via.
  no_via : (l j : ℕ) → 1 ≤ j → j ≤ length n.nodes → is_root n (at n j).parent ≡ false → terminal_via n l (at n j).parent ≡ 0
  unfolding terminal_via
  no_via l j h b e = go (at n p).kind (sym (root-is-buffer n p (not_root A p e).0) ∙ e) (A.parent_no_sink j h b)
    where
      p : ℕ
      p = (at n j).parent

      go : (k : Kind) → is_buffer k ≡ false → is_sink k ≡ false → 2 * (layer n l).via_res * input_cap k ≡ 0
      go Steiner r s = omega arith
      go (Buffer c r d) r' s = let z : ◌≡◌ {A = ℕ} 0 1 = cc in absurd (omega arith)
      go (Sink c t) r s = let z : ◌≡◌ {A = ℕ} 0 1 = cc in absurd (omega arith)

  -- The delay of the wire to j: that of the edge itself and of the via at j, and below a Steiner point that of the wire to the point.
  pub wire-root : (l j : ℕ) → 1 ≤ j → is_root n (at n j).parent ≡ true → wire_delay n l j ≡ edge_delay n l j + terminal_via n l j
  unfolding wire_delay
  wire-root l j h e = rw (between-root A j h e, add-zero (edge_delay n l j)) refl

  pub wire-up : (l j : ℕ) → 1 ≤ j → j ≤ length n.nodes → is_root n (at n j).parent ≡ false
      → wire_delay n l j ≡ edge_delay n l j + terminal_via n l j + wire_delay n l (at n j).parent
  unfolding wire_delay
  wire-up l j h b e = rw (between-up A j h e) (omega (arith, no_via l j h b e))

  -- One more on the bound changes nothing here either.
  required-more : (x : List ℕ) (k t : ℕ) → t < stages n → stages n ≤ k + t → required_from (suc k) n x t ≡ required_from k n x t
  unfolding required_from
  required-more x zero t h a = absurd (omega arith)
  required-more x (suc k) t h a =
      ap least_of (map_same (asked n (required_from (suc k) n x) (on x t) t) (asked n (required_from k n x) (on x t) t) (terminals n t)
      (λ j m. let e = (terminal_mem n m).edge in
      ap (λ (z : ℤ). (z -ℤ pos (gate_delay n (on x t) t)) -ℤ pos (wire_delay n (on x t) j)) (time_same n (required_from (suc k) n x) (required_from k n x) j
      (λ b. required-more x k (drives n j) (drives-below n j e.inside) (omega (arith, stage-less A j e.after b, e.stage))))))

  -- The required time at the root of a stage is the least that its terminals ask (01, Timing rule; source 001, section 2).
  pub required-is : (x : List ℕ) (t : ℕ) → t < stages n → required n x t ≡ least_of (map (asked n (required n x) (on x t) t) (terminals n t))
  unfolding required
  required-is x t h = sym (required-more x (stages n) t h (omega arith)) ∙ (unfold required_from in refl)
