-- Required times, meeting timing and costs by the tree of stages are those of 01. The terminals of a stage are its sinks and the roots of the stages
-- that it drives, and the least over them does not depend on their order.
use Rattle.std.specs.Prelude.{◌≡◌, refl, true, ◌⊎◌, ℕ, zero, suc, ◌+◌, ◌≤◌, ◌<◌, ℤ, pos, ◌-ℤ◌}
use Rattle.std.proofs.Math.Path.{ap, sym}
use Rattle.std.proofs.Common.{◌∙◌, inl, inr, arith}
use mathlib.Core.List.Memᴰ
use mathlib.Core.List.{List, ◌++◌, map, Memᴰ}
use Rattle.std.specs.Int.Signed.{le_z}
use Rattle.laws.specs.Basic.{least_of}
use Rattle.laws.specs.Integers.{least_members, minus_minus, zero_minus}
use Rattle.laws.specs.Lists.{mem-map, map-mem, map_same, some-mem}
use Rattle.rules.specs.declared.Kind.{Kind}
use Rattle.rules.specs.declared.Kind.TheVariants.{Steiner, Buffer, Sink}
use Rattle.rules.specs.Tree.{Net, is_sink, is_buffer, is_terminal, at, stages, root, drives, terminals, on}
use Rattle.rules.specs.Timing.{gate_delay, wire_delay, required, slack, meets, stage_costs}
use Rattle.facts.specs.Accepted.{Accepted}
use Rattle.facts.specs.Stages.{EdgeOf, root-is-buffer, root-drives, stage_at, stage-buffer, stages-some, drives-below, terminal_mem, mem_terminal, stage-ends}
use Rattle.facts.specs.Words.{sink_time, buffer_time, asked, required-is}
use Rattle.oracle.specs.Stages.{driven_by, plan_costs, mem-driven, driven-mem}
use Rattle.oracle.specs.Timing.{required_time, meets_timing, required_time-is}
use Rattle.demands.specs.StageNumbers.{stage_delay, sink_limit, sink_limits, tree_of, limit_mem, mem_limit, driven-at, driven_higher, root-edge}

-- What the stages that stage t drives ask of its root on layer l, where f gives the required times of stages.
abbrev driven_times : Net → (ℕ → ℤ) → ℕ → ℕ → List ℤ
driven_times n f l t = map (λ u. f u -ℤ pos (stage_delay n u l)) (driven_by (tree_of n) t)

-- What a sink asks of its root is the limit that it sets the stage, ..
asked-sink : (n : Net) (f : ℕ → ℤ) (l t j : ℕ) → is_sink (at n j).kind ≡ true → asked n f l t j ≡ sink_limit n t l j
unfolding sink_limit
asked-sink n f l t j s = go (at n j).kind refl s
  where
    go : (k : Kind) → (at n j).kind ≡ k → is_sink k ≡ true → asked n f l t j ≡ sink_limit n t l j
    go Steiner e s = let z : ◌≡◌ {A = ℕ} 0 1 = cc in absurd (omega arith)
    go (Buffer c r d) e s = let z : ◌≡◌ {A = ℕ} 0 1 = cc in absurd (omega arith)
    go (Sink c r) e s = rw (sink_time n f j e, sink_time n (λ u. pos 0) j e) (minus_minus r (gate_delay n l t) (wire_delay n l j))

module _ {n : Net} (A : Accepted n) where
  -- .. and what a buffer asks is the required time of the stage that it drives, less the delay to that stage.
  asked-buffer : (f : ℕ → ℤ) (l : ℕ) {t j : ℕ} → EdgeOf n t j → is_buffer (at n j).kind ≡ true
      → asked n f l t j ≡ f (drives n j) -ℤ pos (stage_delay n (drives n j) l)
  unfolding stage_delay
  asked-buffer f l {t} {j} e b =
      rw (buffer_time n f j b, driven-at A e b, root-drives n j e.inside (root-is-buffer n j e.after ∙ b))
      (minus_minus (f (drives n j)) (gate_delay n l t) (wire_delay n l j))

  -- One stage, where f gives the required times of stages: what its sinks and the stages that it drives ask is what its terminals ask.
  module _ (f : ℕ → ℤ) (t l : ℕ) (h : t < stages n) where
    is-asked : (z : ℤ) → Memᴰ z (sink_limits n t l ++ driven_times n f l t) → Memᴰ z (map (asked n f l t) (terminals n t))
    is-asked z m = go (Memᴰ.append_cases (sink_limits n t l) m)
      where
        at_terminal : (j : ℕ) → EdgeOf n t j → is_terminal (at n j).kind ≡ true → z ≡ asked n f l t j → Memᴰ z (map (asked n f l t) (terminals n t))
        at_terminal j e s q = Memᴰ.cast q (mem-map (asked n f l t) (mem_terminal n (record { edge = e; ends = s })))

        sink_ends : (k : Kind) → is_sink k ≡ true → is_terminal k ≡ true
        sink_ends Steiner e = e
        sink_ends (Buffer c r d) e = refl
        sink_ends (Sink c r) e = refl

        buffer-ends : (k : Kind) → is_buffer k ≡ true → is_terminal k ≡ true
        buffer-ends k e = rw e refl

        go : Memᴰ z (sink_limits n t l) ⊎ Memᴰ z (driven_times n f l t) → Memᴰ z (map (asked n f l t) (terminals n t))
        go (inl m) =
            let (j, s, q) = limit_mem n t l m in
            at_terminal j s.edge (sink_ends (at n j).kind s.sink) (q ∙ sym (asked-sink n f l t j s.sink))
        go (inr m) =
            let (u, d, q) = map-mem (λ u. f u -ℤ pos (stage_delay n u l)) (driven_by (tree_of n) t) m in
            let (higher, below, by) = driven-mem (tree_of n) t u h d in
            let j = root n u in
            let e : EdgeOf n t j = rw by at (root-edge A u (omega arith) below) in
            let b = (stage-buffer n u (omega arith) below).1 in
            at_terminal j e (buffer-ends (at n j).kind b)
            (q ∙ ap (λ (v : ℕ). f v -ℤ pos (stage_delay n v l)) (sym (stage_at n u below).drives_it) ∙ sym (asked-buffer f l e b))

    asked_is : (z : ℤ) → Memᴰ z (map (asked n f l t) (terminals n t)) → Memᴰ z (sink_limits n t l ++ driven_times n f l t)
    asked_is z m =
        let (j, k, q) = map-mem (asked n f l t) (terminals n t) m in
        let d = terminal_mem n k in
        go j d.edge d.ends q (at n j).kind refl
      where
        go : (j : ℕ) → EdgeOf n t j → is_terminal (at n j).kind ≡ true → z ≡ asked n f l t j → (k : Kind) → (at n j).kind ≡ k
            → Memᴰ z (sink_limits n t l ++ driven_times n f l t)
        go j e s q Steiner r = let z : ◌≡◌ {A = ℕ} 0 1 = let y = ap is_terminal r in cc in absurd (omega arith)
        go j e s q (Buffer c g d) r =
            let b = ap is_buffer r in
            let m = mem-driven (tree_of n) t (drives n j) (driven_higher A e b) (drives-below n j e.inside) (driven-at A e b) in
            Memᴰ.append_right (sink_limits n t l) (Memᴰ.cast (q ∙ asked-buffer f l e b) (mem-map (λ u. f u -ℤ pos (stage_delay n u l)) m))
        go j e s q (Sink c g) r =
            let b = ap is_sink r in
            Memᴰ.append_left (driven_times n f l t)
            (Memᴰ.cast (q ∙ asked-sink n f l t j b) (mem_limit n l (record { edge = e; sink = b })))

    one-stage : least_of (sink_limits n t l ++ driven_times n f l t) ≡ least_of (map (asked n f l t) (terminals n t))
    one-stage =
        let (j, e) = stage-ends A t h in
        let m = mem-map (asked n f l t) (mem_terminal n e) in
        least_members (sink_limits n t l ++ driven_times n f l t) (map (asked n f l t) (terminals n t))
        (some-mem (sink_limits n t l ++ driven_times n f l t) (asked_is (asked n f l t j) m)) (some-mem (map (asked n f l t) (terminals n t)) m) asked_is is-asked

  -- k bounds the stages still to come.
  required-from : (x : List ℕ) (k t : ℕ) → t < stages n → stages n ≤ k + t → required_time (tree_of n) x t ≡ required n x t
  required-from x zero t h b = absurd (omega arith)
  required-from x (suc k) t h b =
      required_time-is (tree_of n) x t h
      ∙ ap (λ (zs : List ℤ). least_of (sink_limits n t (on x t) ++ zs))
      (map_same (λ u. required_time (tree_of n) x u -ℤ pos (stage_delay n u (on x t))) (λ u. required n x u -ℤ pos (stage_delay n u (on x t))) (driven_by (tree_of n) t)
      (λ u m. let (higher, below, by) = driven-mem (tree_of n) t u h m in
      ap (λ (z : ℤ). z -ℤ pos (stage_delay n u (on x t))) (required-from x k u below (omega arith))))
      ∙ one-stage (required n x) t (on x t) h
      ∙ sym (required-is A x t h)

  -- The required time at the root of every stage is that of 01 (Timing rule; source 001, section 2), ..
  pub required-same : (x : List ℕ) (t : ℕ) → t < stages n → required_time (tree_of n) x t ≡ required n x t
  required-same x t h = required-from x (stages n) t h (omega arith)

  -- .. so the same plans meet timing.
  pub meets-same : (x : List ℕ) → meets_timing (tree_of n) x ≡ meets n x
  unfolding meets slack
  meets-same x = ap (le_z n.driver.arrival) (required-same x 0 (stages-some n)) ∙ sym (zero_minus (required n x 0) n.driver.arrival)

-- The cost of each stage under a plan, in any net.
pub costs-same : (n : Net) (x : List ℕ) → plan_costs (tree_of n) x ≡ stage_costs n x
unfolding stage_costs
costs-same n x = refl
