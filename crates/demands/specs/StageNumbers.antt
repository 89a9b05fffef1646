-- The tree of stages of a net: the numbers by which the search knows it (01, The tree; source 001, section 2). In an accepted net a stage is driven by
-- one of lower number and has a terminal, which is all that the search asks of a tree.
-- As in the rules, i and j name nodes, t and u stages, l a layer, x a plan.
use Rattle.std.specs.Prelude.{◌≡◌, true, ℤ, pos, ◌-ℤ◌}
use Rattle.std.proofs.Math.Path.{refl, ap}
use Rattle.std.proofs.Common.{◌∙◌, inl, arith}
use mathlib.Core.List.{List, map, Memᴰ}
use Prim.Native.Nat.{ℕ, suc, ◌+◌, ◌≤◌, ◌<◌}
use Rattle.std.proofs.Math.Decide.{dec_lt}
use Rattle.std.proofs.Math.ListN.{get_or-eq_default}
use Rattle.laws.specs.Basic.{keep}
use Rattle.laws.specs.Lists.{mem-keep, keep-mem, mem-map, map-mem, some-mem}
use Rattle.rules.specs.declared.Kind.{Kind}
use Rattle.rules.specs.declared.Kind.TheVariants.{Steiner, Buffer, Sink}
use Rattle.rules.specs.Tree.{Net, is_sink, is_buffer, is_terminal, at, roots, stages, root, layer_count, drives, root_from, stage_of, edges_of}
use Rattle.rules.specs.Timing.{gate_delay, wire_delay, terminal_time, stage_cost}
use Rattle.facts.specs.Accepted.{Accepted}
use Rattle.facts.specs.Stages.{EdgeOf, root-is-buffer, root-drives, stage_at, stage-buffer, stages-some, drives-below, edge-mem, mem-edge}
use Rattle.facts.specs.Stages.{stage-less, stage-ends}
use Rattle.oracle.specs.Stages.{StageTree, WellFormed, HasTerminal, driven_terminal}

-- The stage that drives stage t: the one that the edge above its root belongs to (01, The tree).
unfoldable pub driving_stage : Net → ℕ → ℕ
driving_stage n t = stage_of n (root n t)

-- The delay to stage t, the stage that drives it on layer l: that stage's gate delay plus the edge delays between (01, Timing rule; source 001, section 2).
unfoldable pub stage_delay : Net → ℕ → ℕ → ℕ
stage_delay n t l = gate_delay n l (driving_stage n t) + wire_delay n l (root n t)

-- The sinks of stage t (01, The tree: its terminals are buffers and sinks).
unfoldable pub sinks_of : Net → ℕ → List ℕ
sinks_of n t = keep (λ j. is_sink (at n j).kind) (edges_of n t)

-- The limit that sink j sets stage t on layer l: its required time minus gate delay and the edge delays between (01, Timing rule; source 001, section 2).
-- A sink's required time is given, so no stage is asked for its own.
unfoldable pub sink_limit : Net → ℕ → ℕ → ℕ → ℤ
sink_limit n t l j = terminal_time n (λ u. pos 0) j -ℤ pos (gate_delay n l t + wire_delay n l j)

-- The limits that its sinks set stage t on layer l.
unfoldable pub sink_limits : Net → ℕ → ℕ → List ℤ
sink_limits n t l = map (sink_limit n t l) (sinks_of n t)

-- The tree of stages of a net. The cost of a stage is the sum of its edge costs (01, Timing rule; source 001, section 2: tree cost).
abbrev pub tree_of : Net → StageTree
tree_of n = record {
  stages = stages n;
  layers = layer_count n;
  driver = driving_stage n;
  delay = stage_delay n;
  limits = sink_limits n;
  cost = λ t l. stage_cost n l t;
  arrival = n.driver.arrival;
}

-- Node j is a sink of stage t.
pub record SinkOf (n : Net) (t j : ℕ) : Type 0 where
  pub edge : EdgeOf n t j
  pub sink : is_sink (at n j).kind ≡ true

-- The members of the lists of sinks and of limits.
pub sink-mem : (n : Net) {t j : ℕ} → Memᴰ j (sinks_of n t) → SinkOf n t j
unfolding sinks_of
sink-mem n {t} m = let (k, e) = keep-mem (λ j. is_sink (at n j).kind) (edges_of n t) m in record { edge = edge-mem n k; sink = e }

pub mem-sink : (n : Net) {t j : ℕ} → SinkOf n t j → Memᴰ j (sinks_of n t)
unfolding sinks_of
mem-sink n {t} s = mem-keep (λ j. is_sink (at n j).kind) (edges_of n t) (mem-edge n s.edge) s.sink

pub limit_mem : (n : Net) (t l : ℕ) {z : ℤ} → Memᴰ z (sink_limits n t l) → (j : ℕ) × SinkOf n t j × (z ≡ sink_limit n t l j)
unfolding sink_limits
limit_mem n t l m = let (j, k, e) = map-mem (sink_limit n t l) (sinks_of n t) m in (j, sink-mem n k, e)

pub mem_limit : (n : Net) (l : ℕ) {t j : ℕ} → SinkOf n t j → Memᴰ (sink_limit n t l j) (sink_limits n t l)
unfolding sink_limits
mem_limit n l {t} s = mem-map (sink_limit n t l) (mem-sink n s)

module _ {n : Net} (A : Accepted n) where
  -- A buffer's stage is driven by the stage at whose wire's end it stands, ..
  pub driven-at : {t j : ℕ} → EdgeOf n t j → is_buffer (at n j).kind ≡ true → driving_stage n (drives n j) ≡ t
  unfolding driving_stage
  driven-at {t} {j} e b = ap (stage_of n) (root-drives n j e.inside (root-is-buffer n j e.after ∙ b)) ∙ e.stage

  -- .. and has a higher number.
  pub driven_higher : {t j : ℕ} → EdgeOf n t j → is_buffer (at n j).kind ≡ true → t < drives n j
  driven_higher {t} {j} e b = omega (arith, stage-less A j e.after b, e.stage)

  -- The root of every stage but the driver's stands at the end of an edge of the stage that drives it.
  pub root-edge : (u : ℕ) → 1 ≤ u → u < stages n → EdgeOf n (driving_stage n u) (root n u)
  unfolding driving_stage
  root-edge u a b = record { after = (stage-buffer n u a b).0; inside = (stage_at n u b).inside; stage = refl }

  -- A stage is driven by one of lower number. (Where there is no stage suc t, its root counts as the driver.)
  driver-lower : (t : ℕ) → driving_stage n (suc t) ≤ t
  unfolding driving_stage
  driver-lower t = go (dec_lt (suc t) (stages n))
    where
      go : Dec (suc t < stages n) → stage_of n (root n (suc t)) ≤ t
      go (yes h) =
          let (a, b) = stage-buffer n (suc t) (omega arith) h in
          omega (arith, stage-less A (root n (suc t)) a b, (stage_at n (suc t) h).drives_it)
      go (no h) = unfold root stages stage_of root_from drives in rw (get_or-eq_default (roots n) 0 {n = suc t} (omega arith)) (omega arith)

  -- Every stage has a terminal.
  terminal_of : (t l : ℕ) → t < stages n → HasTerminal (tree_of n) t l
  terminal_of t l h = let (j, e) = stage-ends A t h in go j e.edge e.ends (at n j).kind refl
    where
      go : (j : ℕ) → EdgeOf n t j → is_terminal (at n j).kind ≡ true → (k : Kind) → (at n j).kind ≡ k → HasTerminal (tree_of n) t l
      go j e s Steiner q = let z : ◌≡◌ {A = ℕ} 0 1 = let y = ap is_terminal q in cc in absurd (omega arith)
      go j e s (Buffer c r d) q =
          let b = ap is_buffer q in
          driven_terminal (tree_of n) t (drives n j) l (driven_higher e b) (drives-below n j e.inside) (driven-at e b)
      go j e s (Sink c r) q = inl (some-mem (sink_limits n t l) (mem_limit n l (record { edge = e; sink = ap is_sink q })))

  -- The numbers of an accepted net are a tree of stages.
  pub well_formed : WellFormed (tree_of n)
  well_formed = record {
    some-stage = stages-some n;
    some-layer = A.some-layer;
    lower = driver-lower;
    ends = λ t l h b. terminal_of t l h;
  }
