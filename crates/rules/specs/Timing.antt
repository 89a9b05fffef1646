-- 01, 'Timing rule': load, edge and gate delay, required time, slack, meeting timing; cost. With the vias of 02, wish 5.
-- Source 001, section 2 (Elmore delay; required and arrival time), intrinsic gate delay as in source 002, section 2.1. A tick is half the product of
-- the two units, so nothing is halved. A via is a resistance that the current to all load behind it passes, as Elmore delay counts every resistance (source
-- 001, section 2). That pins are reached by vias, and that vias have a delay: source 003, sections 7.3.3 and 7.4.1; how much is 02's. It has no
-- capacitance, so no load rests on it.
use Rattle.std.specs.Prelude.{Bool, List, map, ℕ, zero, suc, ◌+◌, ◌*◌, length, get_or, ℤ, pos, ◌-ℤ◌}
use Rattle.std.specs.Int.Signed.{le_z}
use Rattle.laws.specs.Basic.{from, sum, least_of}
use Rattle.rules.specs.declared.Kind.{Kind}
use Rattle.rules.specs.declared.Kind.TheVariants.{Steiner, Buffer, Sink}
use Rattle.rules.specs.Tree.{Layer, Net, at, edges, children_of, stages, root, drives, stage_of, between, edges_of, terminals, on}

-- Layer l of a net.
unfoldable pub layer : Net → ℕ → Layer
layer n l = get_or n.layers l (record { unit_res = 0; unit_cap = 0; via_res = 0 })

-- R of edge j on layer l: length × unit resistance (01, Timing rule; source 002, section 2.1: R_e = R l_e).
unfoldable pub edge_res : Net → ℕ → ℕ → ℕ
edge_res n l j = (at n j).len * (layer n l).unit_res

-- C of edge j on layer l: length × unit capacitance (01, Timing rule; source 002, section 2.1: C_e = C l_e).
unfoldable pub edge_cap : Net → ℕ → ℕ → ℕ
edge_cap n l j = (at n j).len * (layer n l).unit_cap

-- The load at the lower end of edge j: at a terminal its input capacitance, at a Steiner point what f gives (01, Timing rule).
abbrev pub lower_load : Net → (ℕ → ℕ) → ℕ → ℕ
lower_load n f j = elim (at n j).kind [ Steiner ↦ f j | Buffer c r d ↦ c | Sink c t ↦ c ]

-- The load at a Steiner point or root i on layer l: the sum over its children of edge C plus child load; k bounds the depth.
unfoldable pub load_from : ℕ → Net → ℕ → ℕ → ℕ
load_from zero n l i = 0
load_from (suc k) n l i = sum (map (λ j. edge_cap n l j + lower_load n (load_from k n l) j) (children_of n i))

-- The load at a Steiner point or root i, its wire on layer l (01, Timing rule; source 001, section 2, equation 1: all wire of the stage counts).
unfoldable pub load : Net → ℕ → ℕ → ℕ
load n l i = load_from (length n.nodes + 1) n l i

-- Edge delay: R × (C + 2 × load at the lower end) (01, Timing rule; source 001, section 2: d(e, l) = R_e (C_e / 2 + C_l), in ticks).
unfoldable pub edge_delay : Net → ℕ → ℕ → ℕ
edge_delay n l j = edge_res n l j * (edge_cap n l j + 2 * lower_load n (load n l) j)

-- The gate resistance at root i: a buffer's own, else the driver's.
unfoldable pub gate_res : Net → ℕ → ℕ
gate_res n i = elim (at n i).kind [ Steiner ↦ n.driver.gate_res | Buffer c r d ↦ r | Sink c t ↦ n.driver.gate_res ]

-- The intrinsic delay at root i: a buffer's own, else the driver's (source 002, section 2.1: τ_b).
unfoldable pub gate_intrinsic : Net → ℕ → ℕ
gate_intrinsic n i = elim (at n i).kind [ Steiner ↦ n.driver.intrinsic | Buffer c r d ↦ d | Sink c t ↦ n.driver.intrinsic ]

-- What stage t on layer l pays for the via at its root: 2 × via resistance × root load (02, wish 5).
unfoldable pub root_via : Net → ℕ → ℕ → ℕ
root_via n l t = 2 * (layer n l).via_res * load n l (root n t)

-- Gate delay of stage t on layer l: 2 × gate resistance × load at the root, plus intrinsic delay (01, Timing rule; source 001, section 2, equation 1), and the
-- via at the root (02, wish 5).
unfoldable pub gate_delay : Net → ℕ → ℕ → ℕ
gate_delay n l t = 2 * gate_res n (root n t) * load n l (root n t) + gate_intrinsic n (root n t) + root_via n l t

-- The input capacitance of a terminal; a Steiner point has no pin and so none.
abbrev pub input_cap : Kind → ℕ
input_cap k = elim k [ Steiner ↦ 0 | Buffer c r d ↦ c | Sink c t ↦ c ]

-- What a stage on layer l pays for the via at terminal j, on the way to that terminal: 2 × via resistance × input capacitance (02, wish 5).
unfoldable pub terminal_via : Net → ℕ → ℕ → ℕ
terminal_via n l j = 2 * (layer n l).via_res * input_cap (at n j).kind

-- The edge delays between terminal j and the root of its stage, on layer l (01, Timing rule; source 001, section 2: root-terminal path delay), and the via at
-- the terminal (02, wish 5).
unfoldable pub wire_delay : Net → ℕ → ℕ → ℕ
wire_delay n l j = sum (map (edge_delay n l) (between n j)) + terminal_via n l j

-- The required time of terminal j: a sink's is given, a buffer's is that of the stage it drives, which f gives.
abbrev pub terminal_time : Net → (ℕ → ℤ) → ℕ → ℤ
terminal_time n f j = elim (at n j).kind [ Steiner ↦ pos 0 | Buffer c r d ↦ f (drives n j) | Sink c t ↦ t ]

-- The required time at the root of stage t under plan x: the least, over its terminals, of the terminal's required time minus gate delay minus the
-- edge delays between, each with its via. k bounds the stages on the way; s - t is enough, for a stage drives stages of higher number.
unfoldable pub required_from : ℕ → Net → List ℕ → ℕ → ℤ
required_from zero n x t = pos 0
required_from (suc k) n x t =
    least_of (map (λ j. (terminal_time n (required_from k n x) j -ℤ pos (gate_delay n (on x t) t)) -ℤ pos (wire_delay n (on x t) j)) (terminals n t))

-- The required time at the root of stage t under plan x (01, Timing rule; source 001, section 2: RAT propagated to the driver).
unfoldable pub required : Net → List ℕ → ℕ → ℤ
required n x t = required_from (stages n) n x t

-- The slack: the driver's required time minus its arrival time (01, Timing rule; source 003, section 2.1).
unfoldable pub slack : Net → List ℕ → ℤ
slack n x = required n x 0 -ℤ n.driver.arrival

-- A plan meets timing if slack is 0 or more (01, Timing rule; source 001, section 2).
unfoldable pub meets : Net → List ℕ → Bool
meets n x = le_z (pos 0) (slack n x)

-- The cost of edge j on layer l.
unfoldable pub edge_cost : Net → ℕ → ℕ → ℕ
edge_cost n l j = get_or (at n j).costs l 0

-- The cost of a plan: the sum of all edge costs on their layers (01, Timing rule; source 001, section 2: tree cost).
unfoldable pub cost : Net → List ℕ → ℕ
cost n x = sum (map (λ j. edge_cost n (on x (stage_of n j)) j) (edges n))

-- The cost of stage t on layer l.
unfoldable pub stage_cost : Net → ℕ → ℕ → ℕ
stage_cost n l t = sum (map (edge_cost n l) (edges_of n t))

-- The cost of each stage under plan x.
unfoldable pub stage_costs : Net → List ℕ → List ℕ
stage_costs n x = map (λ t. stage_cost n (on x t) t) (from 0 (stages n))
