-- How large delays, required times and slack of an accepted net can be; every number is computed from the ranges of 01. On a path downward the node
-- numbers rise, so the edges and gates on it are at most as many as the numbers between its ends, and no sum over paths is needed.
use Rattle.std.specs.Prelude.{◌≡◌, refl, Bool, true, false, List, map, ℕ, zero, suc, ◌+◌, ◌*◌, ◌-◌, ◌≤◌, ◌<◌, length, ℤ, pos, ◌-ℤ◌}
use Rattle.std.proofs.Common.{ap, ◌∙◌}
use native.Mathlib.Omega.{arith}
use Rattle.std.proofs.Math.Nat.{mul-le-mul}
use Rattle.laws.specs.Integers.{up, down, pos_view, least-mem, minus_up, minus_down}
use Rattle.laws.specs.Lists.{mem-map, map-mem, some-mem}
use Rattle.rules.specs.declared.Kind.{Kind}
use Rattle.rules.specs.declared.Kind.TheVariants.{Steiner, Buffer, Sink}
use Rattle.rules.specs.Tree.{Net, is_buffer, is_terminal, at, is_root, stages, root, drives, stage_of, terminals, on}
use Rattle.rules.specs.Bytes.{max_via_res, max_gate_res, max_input_cap, max_intrinsic, max_time, max_nodes}
use Rattle.rules.specs.Timing.{layer, edge_cap, lower_load, load, edge_delay, gate_res, root_via, gate_delay, input_cap, terminal_via, wire_delay}
use Rattle.rules.specs.Timing.{terminal_time, required, slack}
use Rattle.facts.specs.Accepted.{Accepted}
use Rattle.facts.specs.Stages.{EdgeOf, TerminalOf, root-is-buffer, root-drives, stages-some, drives-below, terminal_mem, mem_terminal}
use Rattle.facts.specs.Stages.{not_root, stage-up, root_before, stage-less, stage-ends}
use Rattle.facts.specs.Words.{sink_time, buffer_time, asked, wire-root, wire-up, required-is}
use Rattle.facts.specs.Ranges.{max_edge_res, max_edge_cap, kind_in_lem, edge_res_in, edge_cap_in, via_res_in, input_cap_in, gate_res_in, gate_intrinsic_in}
use Rattle.facts.specs.Ranges.{arrival_in}
use Rattle.facts.specs.Loads.{max_load, load_in, lower_in}

-- The greatest edge delay and gate delay.
abbrev pub max_edge_delay : ℕ
max_edge_delay = max_edge_res * (max_edge_cap + 2 * max_load)

abbrev pub max_gate_delay : ℕ
max_gate_delay = 2 * max_gate_res * max_load + max_intrinsic + 2 * max_via_res * max_load

-- The most that is paid for the via at a terminal.
abbrev pub max_terminal_via : ℕ
max_terminal_via = 2 * max_via_res * max_input_cap

-- The most delay that one node accounts for: the edge to it, the via at it, and one gate.
abbrev pub max_node_delay : ℕ
max_node_delay = max_edge_delay + max_terminal_via + max_gate_delay

-- The greatest delay on the way from the driver to a sink: a way has at most as many edges, vias at terminals and gates as there are nodes.
abbrev pub max_way_delay : ℕ
max_way_delay = max_nodes * max_node_delay

-- The farthest from 0 that a required time and a slack can be.
abbrev pub max_required : ℕ
max_required = max_time + max_way_delay

abbrev pub max_slack : ℕ
max_slack = max_required + max_time

-- z is in the range of a required time at node i, where so many nodes follow the driver: the range of times of 01 bounds it
-- from above, that range and the delay of the nodes after i from below.
pub record RequiredIn (nodes i : ℕ) (z : ℤ) : Type 0 where
  pub high : up z ≤ max_time
  pub low : down z ≤ max_time + (nodes - i) * max_node_delay

module _ {n : Net} (A : Accepted n) where
  pub edge_in : (l j : ℕ) → edge_delay n l j ≤ max_edge_delay
  unfolding edge_delay
  edge_in l j =
      let c : edge_cap n l j + 2 * lower_load n (load n l) j ≤ max_edge_cap + 2 * max_load = omega (arith, edge_cap_in A l j, lower_in A l j) in
      mul-le-mul (edge_res_in A l j) c

  pub gate_in : (l t : ℕ) → gate_delay n l t ≤ max_gate_delay
  unfolding gate_delay root_via
  gate_in l t =
      let i = root n t in
      let p : gate_res n i * load n l i ≤ max_gate_res * max_load = mul-le-mul (gate_res_in A i) (load_in A l i) in
      let v : (layer n l).via_res * load n l i ≤ max_via_res * max_load = mul-le-mul (via_res_in A l) (load_in A l i) in
      omega (arith, gate_intrinsic_in A i)

  pub via_in : (l j : ℕ) → terminal_via n l j ≤ max_terminal_via
  unfolding terminal_via
  via_in l j =
      let v : (layer n l).via_res * input_cap (at n j).kind ≤ max_via_res * max_input_cap = mul-le-mul (via_res_in A l) (input_cap_in A j) in
      omega arith

  -- k bounds the edges on the way.
  wire-most : (l k j : ℕ) → j ≤ k → 1 ≤ j → j ≤ length n.nodes → wire_delay n l j ≤ (j - root n (stage_of n j)) * (max_edge_delay + max_terminal_via)
  wire-most l zero j h a b = absurd (omega arith)
  wire-most l (suc k) j h a b = go (is_root n p) refl (λ c. wire-most l k p (omega (arith, A.parent-lower j a)) c (omega (arith, A.parent-lower j a)))
    where
      p : ℕ
      p = (at n j).parent

      go : (r : Bool) → is_root n p ≡ r → (1 ≤ p → wire_delay n l p ≤ (p - root n (stage_of n p)) * (max_edge_delay + max_terminal_via))
          → wire_delay n l j ≤ (j - root n (stage_of n j)) * (max_edge_delay + max_terminal_via)
      go true e r = omega (arith, root_before A j a b, wire-root A l j a e, edge_in l j, via_in l j)
      go false e r =
          let q = ap (root n) (stage-up A j a e) in
          let c = (not_root A p e).0 in
          let d = A.parent-lower j a in
          omega (arith, r c, root_before A p c (omega arith), wire-up A l j a b e, edge_in l j, via_in l j)

  -- The delay of the wire between a node and the root of its stage: at most one edge, and one via, for each number from the root on.
  pub wire_in : (l j : ℕ) → 1 ≤ j → j ≤ length n.nodes → wire_delay n l j ≤ (j - root n (stage_of n j)) * (max_edge_delay + max_terminal_via)
  wire_in l j = wire-most l j j (omega arith)

  -- The gate delay of a stage with the edge delays down to the lower end of one of its edges.
  pub delay_in : (l : ℕ) {t j : ℕ} → EdgeOf n t j → gate_delay n l t + wire_delay n l j ≤ (j - root n t) * max_node_delay
  delay_in l {t} {j} e = rw (← e.stage) (omega (arith, gate_in l (stage_of n j), wire_in l j e.after e.inside, root_before A j e.after e.inside))

  -- What a terminal asks of its root, if its own time is in bounds.
  pub asked_in_range : (f : ℕ → ℤ) (l : ℕ) {t j : ℕ} → EdgeOf n t j → RequiredIn (length n.nodes) j (terminal_time n f j)
      → RequiredIn (length n.nodes) (root n t) (asked n f l t j)
  asked_in_range f l {t} {j} e h =
      let z = terminal_time n f j in
      let g = pos (gate_delay n l t) in
      let w = pos (wire_delay n l j) in
      let d = delay_in l e in
      let r : root n t < j = rw e.stage at (root_before A j e.after e.inside) in
      record {
        high = omega (arith, h.high, minus_up z g, minus_up (z -ℤ g) w, pos_view (gate_delay n l t), pos_view (wire_delay n l j));
        low = omega (arith, h.low, minus_down z g, minus_down (z -ℤ g) w, pos_view (gate_delay n l t), pos_view (wire_delay n l j), e.inside);
      }

  -- A terminal's own time: a sink's is in its range, a buffer's is that of its stage.
  terminal_from : (f : ℕ → ℤ) {t j : ℕ} → TerminalOf n t j → (is_buffer (at n j).kind ≡ true → RequiredIn (length n.nodes) (root n (drives n j)) (f (drives n j)))
      → RequiredIn (length n.nodes) j (terminal_time n f j)
  terminal_from f {t} {j} d r = go (at n j).kind refl
    where
      go : (k : Kind) → (at n j).kind ≡ k → RequiredIn (length n.nodes) j (terminal_time n f j)
      go Steiner e = let z : ◌≡◌ {A = ℕ} 0 1 = let y = ap is_terminal e in cc in absurd (omega arith)
      go (Buffer c g i) e =
          let b = ap is_buffer e in
          rw (buffer_time n f j b) (rw (root-drives n j d.edge.inside (root-is-buffer n j d.edge.after ∙ b)) at (r b))
      go (Sink c s) e = let (cap, (high, low)) = rw e at (kind_in_lem A j) in rw (sink_time n f j e) (record { high = high; low = omega arith })

  -- k bounds the stages still to come.
  required-from : (x : List ℕ) (k t : ℕ) → t < stages n → stages n ≤ k + t → RequiredIn (length n.nodes) (root n t) (required n x t)
  required-from x zero t h b = absurd (omega arith)
  required-from x (suc k) t h b =
      let ask = asked n (required n x) (on x t) t in
      let m = mem-map ask (mem_terminal n (stage-ends A t h).1) in
      let (j, k', q) = map-mem ask (terminals n t) (least-mem (map ask (terminals n t)) (some-mem (map ask (terminals n t)) m)) in
      let d = terminal_mem n k' in
      let own = terminal_from (required n x) d
      (λ bf. required-from x k (drives n j) (drives-below n j d.edge.inside) (omega (arith, stage-less A j d.edge.after bf, d.edge.stage))) in
      rw (required-is A x t h ∙ q) (asked_in_range (required n x) (on x t) d.edge own)

  -- The required time at the root of a stage, and that of a terminal.
  pub required_in : (x : List ℕ) (t : ℕ) → t < stages n → RequiredIn (length n.nodes) (root n t) (required n x t)
  required_in x t h = required-from x (stages n) t h (omega arith)

  pub terminal_in : (x : List ℕ) {t j : ℕ} → TerminalOf n t j → RequiredIn (length n.nodes) j (terminal_time n (required n x) j)
  terminal_in x {t} {j} d = terminal_from (required n x) d (λ b. required_in x (drives n j) (drives-below n j d.edge.inside))

  pub slack_in : (x : List ℕ) → (up (slack n x) ≤ max_slack) × (down (slack n x) ≤ max_slack)
  unfolding slack
  slack_in x =
      let r = required_in x 0 (omega (arith, stages-some n)) in
      let (high, low) = arrival_in A in
      let a = n.driver.arrival in
      (omega (arith, minus_up (required n x 0) a), omega (arith, minus_down (required n x 0) a, A.few-nodes))
