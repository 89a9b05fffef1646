-- The ranges of an accepted net's numbers, as inequalities with the named numbers of 01. Each holds for every node and layer number, since what stands
-- for a node or layer that there is not has zeros.
use Rattle.std.specs.Prelude.{◌≡◌, refl, true, ◌⊎◌, ℕ, ◌*◌, ◌-◌, ◌≤◌, leb, ℤ, pos, negsuc}
use Rattle.std.proofs.Common.{inl, inr}
use native.Mathlib.Omega.{arith}
use Rattle.std.proofs.Math.Nat.{mul-le-mul}
use Rattle.std.specs.Int.Signed.{le_z}
use borrow.Author.Tests.{leb-true}
use Rattle.laws.specs.Basic.{within}
use Rattle.laws.specs.Integers.{up, down, le_true, thin}
use Rattle.laws.specs.Booleans.{and_both, and_three, within-true}
use Rattle.laws.specs.Lists.{all_get_d}
use Rattle.rules.specs.declared.Kind.{Kind}
use Rattle.rules.specs.declared.Kind.TheVariants.{Steiner, Buffer, Sink}
use Rattle.rules.specs.Tree.{Layer, Net, at}
use Rattle.rules.specs.Bytes.{max_unit, max_via_res, max_length, max_cost, max_gate_res, max_input_cap, max_intrinsic, max_time}
use Rattle.rules.specs.Bytes.{is_time, is_layer, is_driver, is_kind, is_costs, is_node}
use Rattle.rules.specs.Timing.{layer, edge_res, edge_cap, lower_load, gate_res, gate_intrinsic, input_cap, edge_cost}
use Rattle.facts.specs.Accepted.{Accepted}

-- The greatest R and C of an edge: length × unit value.
abbrev pub max_edge_res : ℕ
max_edge_res = max_length * max_unit

abbrev pub max_edge_cap : ℕ
max_edge_cap = max_length * max_unit

-- A time in the range of 01.
abbrev pub TimeInRange : ℤ → Type 0
TimeInRange t = (up t ≤ max_time) × (down t ≤ max_time)

-- A layer's numbers in their ranges.
abbrev pub LayerInRange : Layer → Type 0
LayerInRange x = (x.unit_res ≤ max_unit) × (x.unit_cap ≤ max_unit) × (x.via_res ≤ max_via_res)

-- A kind's own numbers in their ranges.
abbrev pub KindInRange : Kind → Type 0
KindInRange Steiner = Unit {0}
KindInRange (Buffer c r d) = (c ≤ max_input_cap) × (r ≤ max_gate_res) × (d ≤ max_intrinsic)
KindInRange (Sink c t) = (c ≤ max_input_cap) × TimeInRange t

-- What the reader's tests of times, layers and kinds say.
time_range : (t : ℤ) → is_time t ≡ true → TimeInRange t
unfolding is_time up down
time_range t e =
    let (a, b) = and_both (le_z (negsuc (max_time - 1)) t) (le_z t (pos max_time)) e in
    let low = le_true (negsuc (max_time - 1)) t a in
    let high = le_true t (pos max_time) b in
    (omega (arith, thin t), omega (arith, thin t))

layer-range : (x : Layer) → is_layer x ≡ true → LayerInRange x
unfolding is_layer
layer-range x e =
    let (r, c, v) = and_three (within 1 max_unit x.unit_res) (within 1 max_unit x.unit_cap) (leb x.via_res max_via_res) e in
    ((within-true 1 max_unit x.unit_res r).1, (within-true 1 max_unit x.unit_cap c).1, leb-true x.via_res max_via_res v)

kind-range : (k : Kind) → is_kind k ≡ true → KindInRange k
unfolding is_kind
kind-range Steiner e = tt
kind-range (Buffer c r d) e =
    let (p, q, s) = and_three (leb c max_input_cap) (leb r max_gate_res) (leb d max_intrinsic) e in
    (leb-true c max_input_cap p, leb-true r max_gate_res q, leb-true d max_intrinsic s)
kind-range (Sink c t) e =
    let (p, q) = and_both (leb c max_input_cap) (is_time t) e in
    (leb-true c max_input_cap p, time_range t q)

module _ {n : Net} (A : Accepted n) where
  node-range : (j : ℕ) → (leb (at n j).len max_length ≡ true) × (is_costs (at n j).costs ≡ true) × (is_kind (at n j).kind ≡ true)
  unfolding is_node
  node-range j = and_three (leb (at n j).len max_length) (is_costs (at n j).costs) (is_kind (at n j).kind) (A.node_in_range j)

  driver-range : (leb n.driver.gate_res max_gate_res ≡ true) × (leb n.driver.intrinsic max_intrinsic ≡ true) × (is_time n.driver.arrival ≡ true)
  unfolding is_driver
  driver-range = and_three (leb n.driver.gate_res max_gate_res) (leb n.driver.intrinsic max_intrinsic) (is_time n.driver.arrival) A.driver_in_range

  layer_in_lem : (l : ℕ) → LayerInRange (layer n l)
  unfolding layer
  layer_in_lem l = all_get_d is_layer LayerInRange layer-range (omega arith, omega arith, omega arith) n.layers l A.layers_in_range

  pub length_in : (j : ℕ) → (at n j).len ≤ max_length
  length_in j = leb-true (at n j).len max_length (node-range j).0

  pub kind_in_lem : (j : ℕ) → KindInRange (at n j).kind
  kind_in_lem j = kind-range (at n j).kind (node-range j).2

  pub edge-cost_in : (l j : ℕ) → edge_cost n l j ≤ max_cost
  unfolding edge_cost is_costs
  edge-cost_in l j = all_get_d (within 1 max_cost) (λ c. c ≤ max_cost) (λ c e. (within-true 1 max_cost c e).1) (omega arith) (at n j).costs l (node-range j).1

  pub unit_res_in : (l : ℕ) → (layer n l).unit_res ≤ max_unit
  unit_res_in l = (layer_in_lem l).0

  pub unit_cap_in : (l : ℕ) → (layer n l).unit_cap ≤ max_unit
  unit_cap_in l = (layer_in_lem l).1

  pub via_res_in : (l : ℕ) → (layer n l).via_res ≤ max_via_res
  via_res_in l = (layer_in_lem l).2

  pub edge_res_in : (l j : ℕ) → edge_res n l j ≤ max_edge_res
  unfolding edge_res
  edge_res_in l j = mul-le-mul (length_in j) (unit_res_in l)

  pub edge_cap_in : (l j : ℕ) → edge_cap n l j ≤ max_edge_cap
  unfolding edge_cap
  edge_cap_in l j = mul-le-mul (length_in j) (unit_cap_in l)

  -- The input capacitance of a terminal; none at a Steiner point.
  pub input_cap_in : (j : ℕ) → input_cap (at n j).kind ≤ max_input_cap
  input_cap_in j = go (at n j).kind (kind_in_lem j)
    where
      go : (k : Kind) → KindInRange k → input_cap k ≤ max_input_cap
      go Steiner h = omega arith
      go (Buffer c r d) h = h.0
      go (Sink c t) h = h.0

  -- The load at the lower end of an edge: in the range of input capacitances at a terminal, what f gives at a Steiner point.
  pub lower-range : (f : ℕ → ℕ) (j : ℕ) → (lower_load n f j ≤ max_input_cap) ⊎ (lower_load n f j ≡ f j)
  lower-range f j = go (at n j).kind (kind_in_lem j)
    where
      lower : Kind → ℕ
      lower k = elim k [ Steiner ↦ f j | Buffer c r d ↦ c | Sink c t ↦ c ]

      go : (k : Kind) → KindInRange k → (lower k ≤ max_input_cap) ⊎ (lower k ≡ f j)
      go Steiner h = inr refl
      go (Buffer c r d) h = inl h.0
      go (Sink c t) h = inl h.0

  pub gate_res_in : (i : ℕ) → gate_res n i ≤ max_gate_res
  unfolding gate_res
  gate_res_in i = go (at n i).kind (kind_in_lem i)
    where
      driver : n.driver.gate_res ≤ max_gate_res
      driver = leb-true n.driver.gate_res max_gate_res driver-range.0

      go : (k : Kind) → KindInRange k → elim k [ Steiner ↦ n.driver.gate_res | Buffer c r d ↦ r | Sink c t ↦ n.driver.gate_res ] ≤ max_gate_res
      go Steiner h = driver
      go (Buffer c r d) h = h.1
      go (Sink c t) h = driver

  pub gate_intrinsic_in : (i : ℕ) → gate_intrinsic n i ≤ max_intrinsic
  unfolding gate_intrinsic
  gate_intrinsic_in i = go (at n i).kind (kind_in_lem i)
    where
      driver : n.driver.intrinsic ≤ max_intrinsic
      driver = leb-true n.driver.intrinsic max_intrinsic driver-range.1

      go : (k : Kind) → KindInRange k → elim k [ Steiner ↦ n.driver.intrinsic | Buffer c r d ↦ d | Sink c t ↦ n.driver.intrinsic ] ≤ max_intrinsic
      go Steiner h = driver
      go (Buffer c r d) h = h.2
      go (Sink c t) h = driver

  pub arrival_in : TimeInRange n.driver.arrival
  arrival_in = time_range n.driver.arrival driver-range.2
