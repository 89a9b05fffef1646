-- The rules as they stood before vias (02, wish 5): 01, with the lengths of wish 3, and with the floor of wish 6, which no rule decided then. Timing and the
-- layers field stand as they were. What rests on timing and on reading stands once, with both handed in: handed those of today it is today's rules (`check-is`
-- to `report-is`), and so nothing else can differ.
use Rattle.std.specs.Prelude.{◌≡◌, refl, Bool, ◌&&◌, ℕ, zero, suc, ◌+◌, ◌*◌, ◌/◌, ◌-◌, ◌^◌, ◌%◌, leb, ltb, eqb, length, drop, ℤ, pos, ◌-ℤ◌, if◌then◌else◌}
use Rattle.std.proofs.Common.{ap}
use Rattle.std.proofs.Math.Option.{Option}
use mathlib.Core.List.{List, [], ◌++◌, map, head?}
use Rattle.std.specs.Int.Signed.{le_z}
use Rattle.laws.specs.Basic.{from, sum, all, keep, least_of, lowest, largest, within}
use Rattle.rules.specs.declared.Checked.{Checked}
use Rattle.rules.specs.declared.Judged.{Judged}
use Rattle.rules.specs.declared.Report.{Report}
use Rattle.rules.specs.Tree.{Layer, Net, stages, root, layer_count, between, terminals, on, are_layers, plans}
use Rattle.rules.specs.Bytes.{max_unit, max_layers, max_length, max_nodes, layers_tag, Field, next, number, due_driver, driver_at, is_driver}
use Rattle.rules.specs.Timing.{load, edge_delay, gate_res, gate_intrinsic, terminal_time, slack, meets, cost}
use Rattle.rules.specs.Grain.{max_exponent, rounded_cost, meeting_plans, least_rounded, floor, qualifies, grain_exponent, chosen, columns, columns_needed}
use Rattle.rules.specs.Reading.{Answer, accept, refuse, ◌>>=◌, ◌>>◌, ◌unless◌, field, nodes_from, is_whole, read, check}
use Rattle.rules.specs.Judging.{judged, judge}
use Rattle.rules.specs.Planning.{max_share, Choice, taken, planned, PlanAnswer, cleared, plan}
use Rattle.rules.specs.Program.{plan_line, refused_line, program_table, program_room, program_planned, program_line}
use Rattle.rules.specs.Block.{block, totals, no_totals, report}

-- Gate delay of stage t on layer l: 2 × gate resistance × load at the root, plus intrinsic delay (01, Timing rule).
unfoldable pub gate_delay_without : Net → ℕ → ℕ → ℕ
gate_delay_without n l t = 2 * gate_res n (root n t) * load n l (root n t) + gate_intrinsic n (root n t)

-- The edge delays between terminal j and the root of its stage, on layer l (01, Timing rule).
unfoldable pub wire_delay_without : Net → ℕ → ℕ → ℕ
wire_delay_without n l j = sum (map (edge_delay n l) (between n j))

-- The required time at the root of stage t under plan x: the least, over its terminals, of the terminal's required time minus gate delay minus the
-- edge delays between (01, Timing rule). k bounds the stages on the way.
unfoldable pub required_from_without : ℕ → Net → List ℕ → ℕ → ℤ
required_from_without zero n x t = pos 0
required_from_without (suc k) n x t =
    least_of (map (λ j. (terminal_time n (required_from_without k n x) j -ℤ pos (gate_delay_without n (on x t) t)) -ℤ pos (wire_delay_without n (on x t) j))
    (terminals n t))

unfoldable pub required_without : Net → List ℕ → ℕ → ℤ
required_without n x t = required_from_without (stages n) n x t

-- The slack: the driver's required time minus its arrival time (01, Timing rule).
unfoldable pub slack_without : Net → List ℕ → ℤ
slack_without n x = required_without n x 0 -ℤ n.driver.arrival

-- What rests on timing, where f gives the slack of each plan. A plan meets timing if slack is 0 or more (01, Timing rule).
unfoldable pub meets_by : (List ℕ → ℤ) → List ℕ → Bool
meets_by f x = le_z (pos 0) (f x)

-- The plans of the net that meet timing, in plan order.
unfoldable pub meeting_by : (List ℕ → ℤ) → Net → List (List ℕ)
meeting_by f n = keep (meets_by f) (plans n)

-- V(k) (01, Rounded cost and the grain).
unfoldable pub least_by : (List ℕ → ℤ) → Net → ℕ → ℕ
least_by f n k = lowest (rounded_cost n k) (meeting_by f n)

-- The floor at k (02, wish 6).
unfoldable pub floor_by : (List ℕ → ℤ) → Net → ℕ → ℕ
floor_by f n k = 2 ^ k * least_by f n k

-- The test of k at share p/q.
unfoldable pub qualifies_by : (List ℕ → ℤ) → Net → ℕ → ℕ → ℕ → Bool
qualifies_by f n p q k = leb (q * stages n * (2 ^ k - 1)) (p * 2 ^ k * least_by f n k)

-- The k of the grain 2^k.
unfoldable pub grain_by : (List ℕ → ℤ) → Net → ℕ → ℕ → ℕ
grain_by f n p q = largest (qualifies_by f n p q) max_exponent

-- The plan chosen at k.
unfoldable pub chosen_by : (List ℕ → ℤ) → Net → ℕ → Option (List ℕ)
chosen_by f n k = head? (keep (λ x. meets_by f x && eqb (rounded_cost n k x) (least_by f n k)) (plans n))

-- The columns needed at k.
unfoldable pub needed_by : (List ℕ → ℤ) → Net → ℕ → ℕ
needed_by f n k = least_by f n k + 1

-- What checking answers, by what reading answers (01, Reading).
abbrev pub check_by : Answer Net → Checked
check_by a = elim a [
  | accept n ↦ record { refusal = 0; nodes = length n.nodes + 1; stages = stages n; layers = layer_count n }
  | refuse r ↦ record { refusal = r; nodes = 0; stages = 0; layers = 0 }
]

-- Judging, by what reading answers, where f gives the slack of each net's plans (01, Judging): the net that is judged,
unfoldable pub judged_by : Answer Net → List ℕ → Answer Net
judged_by a x = do
  n ← a
  7 unless eqb (length x) (stages n)
  8 unless are_layers n x
  accept n

-- what is answered with it,
abbrev pub judged_answer : (Net → List ℕ → ℤ) → List ℕ → Answer Net → Judged
judged_answer f x a = elim a [
  | accept n ↦ record { refusal = 0; cost = cost n x; slack = f n x }
  | refuse r ↦ record { refusal = r; cost = 0; slack = pos 0 }
]

-- and both.
abbrev pub judge_by : (Net → List ℕ → ℤ) → Answer Net → List ℕ → Judged
judge_by f a x = judged_answer f x (judged_by a x)

-- Planning, in the same way (01, Planning): what is settled,
unfoldable pub planned_by : (Net → List ℕ → ℤ) → Answer Net → ℕ → ℕ → ℕ → ℕ → Answer Choice
planned_by f a p q entries room = do
  n ← a
  9 unless leb p max_share && within 1 max_share q
  10 unless leb (stages n) room
  11 unless ltb 0 (length (meeting_by (f n) n))
  12 unless leb (needed_by (f n) n (grain_by (f n) n p q)) (columns n entries)
  x ← taken (chosen_by (f n) n (grain_by (f n) n p q))
  accept (record { net = n; k = grain_by (f n) n p q; plan = x })

-- what is answered and left with it,
abbrev pub planned_answer : (Net → List ℕ → ℤ) → List ℤ → List ℕ → Answer Choice → PlanAnswer
planned_answer f table buffer a = elim a [
  | accept c ↦ record {
    refusal = 0;
    cost = cost c.net c.plan;
    slack = f c.net c.plan;
    k = c.k;
    floor = floor_by (f c.net) c.net c.k;
    buffer = c.plan ++ drop (length c.plan) buffer;
    table = cleared table;
  }
  | refuse r ↦ record { refusal = r; cost = 0; slack = pos 0; k = 0; floor = 0; buffer = buffer; table = if eqb r 12 then cleared table else table }
]

-- and both.
abbrev pub plan_by : (Net → List ℕ → ℤ) → Answer Net → ℕ → ℕ → List ℤ → List ℕ → PlanAnswer
plan_by f a p q table buffer = planned_answer f table buffer (planned_by f a p q (length table) (length buffer))

-- How the program plans (01, Program),
abbrev pub program_by : (Net → List ℕ → ℤ) → Answer Net → Answer Choice
program_by f a = planned_by f a 1 4 program_table program_room

-- and its line, by what planning answers.
abbrev pub line_by : (Net → List ℕ → ℤ) → Answer Choice → List ℕ
line_by f a = elim a [
  | accept c ↦ plan_line (cost c.net c.plan) (2 ^ c.k) (f c.net c.plan) c.plan
  | refuse r ↦ refused_line r
]

-- The report over a block, by its nets, where f plans each of them (02, wish 2).
abbrev pub report_by : (List ℕ → Answer Choice) → Answer (List (List ℕ)) → Report
report_by f a = elim a [ accept ns ↦ totals (map f ns) | refuse r ↦ no_totals r ]

-- With today's reading and timing these are today's rules, word for word.
pub check-is : (bs : List ℕ) → check bs ≡ check_by (read bs)
unfolding check
check-is bs = refl

pub judge-is : (bs x : List ℕ) → judge bs x ≡ judge_by slack (read bs) x
unfolding judge judged judged_by
judge-is bs x = refl

pub planned-is : (bs : List ℕ) (p q entries room : ℕ) → planned bs p q entries room ≡ planned_by slack (read bs) p q entries room
unfolding planned planned_by meets meets_by meeting_plans meeting_by least_rounded least_by qualifies qualifies_by grain_exponent grain_by chosen chosen_by columns_needed needed_by
planned-is bs p q entries room = refl

pub plan-is : (bs : List ℕ) (p q : ℕ) (table : List ℤ) (buffer : List ℕ) → plan bs p q table buffer ≡ plan_by slack (read bs) p q table buffer
unfolding plan meets meets_by meeting_plans meeting_by least_rounded least_by floor floor_by
plan-is bs p q table buffer = ap (planned_answer slack table buffer) (planned-is bs p q (length table) (length buffer))

pub program_is : (bs : List ℕ) → program_planned bs ≡ program_by slack (read bs)
program_is bs = planned-is bs 1 4 program_table program_room

pub line-is : (bs : List ℕ) → program_line bs ≡ line_by slack (program_planned bs)
unfolding program_line
line-is bs = refl

pub report-is : (bs : List ℕ) → report bs ≡ report_by program_planned (block bs)
unfolding report
report-is bs = refl

-- A layers field has tag 1 and 4 to 64 bytes, a multiple of 4 (01, Net bytes): two bytes each for unit resistance and unit capacitance.
unfoldable pub due_layers_first : ℕ → ℕ → Bool
due_layers_first tag size = eqb tag layers_tag && within 4 (4 * max_layers) size && eqb (size % 4) 0

-- The layer at i: unit resistance, unit capacitance; and via resistance 0, of which 01 does not speak.
unfoldable pub layer_first : List ℕ → ℕ → Layer
layer_first bs i = record { unit_res = number bs i 2; unit_cap = number bs (i + 2) 2; via_res = 0 }

-- The layers of a layers field.
unfoldable pub layers_first : List ℕ → Field → List Layer
layers_first bs f = map (λ k. layer_first bs (f.start + 4 * k)) (from 0 (f.size / 4))

-- A layer whose unit values are in their range.
unfoldable pub is_layer_first : Layer → Bool
is_layer_first l = within 1 max_unit l.unit_res && within 1 max_unit l.unit_cap

-- Reading of the first edition: first layers, then driver, then nodes 1, 2, ... in order (01, Reading).
unfoldable pub read_first : List ℕ → Answer Net
read_first bs = do
  f ← field due_layers_first bs 0
  3 unless all (map is_layer_first (layers_first bs f))
  g ← field due_driver bs (next f)
  3 unless is_driver (driver_at bs g.start)
  ns ← nodes_from max_length (max_nodes + 1) bs (f.size / 4) [] (next g)
  6 unless is_whole ns
  accept (record { layers = layers_first bs f; driver = driver_at bs g.start; nodes = ns })

-- Checking, judging and planning before vias: by that reading, and by timing without vias.
abbrev pub check_first : List ℕ → Checked
check_first bs = check_by (read_first bs)

abbrev pub judge_first : List ℕ → List ℕ → Judged
judge_first bs x = judge_by slack_without (read_first bs) x

abbrev pub plan_first : List ℕ → ℕ → ℕ → List ℤ → List ℕ → PlanAnswer
plan_first bs p q table buffer = plan_by slack_without (read_first bs) p q table buffer

-- How the program planned, its line and the report before vias.
abbrev pub program_planned_first : List ℕ → Answer Choice
program_planned_first bs = program_by slack_without (read_first bs)

abbrev pub program_line_first : List ℕ → List ℕ
program_line_first bs = line_by slack_without (program_planned_first bs)

abbrev pub report_first : List ℕ → Report
report_first bs = report_by program_planned_first (block bs)
