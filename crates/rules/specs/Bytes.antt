-- 01, 'Net bytes': numbers and times in bytes, fields, the ranges, and the records that the payloads hold.
use Rattle.std.specs.Prelude.{Bool, true, ◌&&◌, ◌||◌, List, map, ℕ, zero, suc, ◌+◌, ◌*◌, ◌/◌, ◌-◌, ◌^◌, ◌%◌, leb, ltb, eqb, get_or, ℤ, pos, negsuc, if◌then◌else◌}
use Rattle.laws.specs.Basic.{from, all, within, within_z}
use Rattle.rules.specs.declared.Kind.{Kind}
use Rattle.rules.specs.declared.Kind.TheVariants.{Steiner, Buffer, Sink}
use Rattle.rules.specs.Tree.{Layer, Driver, Node}

-- Unit values are 1 to 1,000.
abbrev pub max_unit : ℕ
max_unit = 1000

-- Via resistance 0 to 1,000 (02, wish 5).
abbrev pub max_via_res : ℕ
max_via_res = 1000

-- Layers 1 to 16.
abbrev pub max_layers : ℕ
max_layers = 16

-- Lengths 0 to 4,000 (02, wish 3; 01 had 1,000).
abbrev pub max_length : ℕ
max_length = 4000

-- Costs 1 to 1,000,000.
abbrev pub max_cost : ℕ
max_cost = 1000000

-- Gate resistance and input capacitance 0 to 100,000.
abbrev pub max_gate_res : ℕ
max_gate_res = 100000

-- The same range as gate resistance (01 gives one number for both).
abbrev pub max_input_cap : ℕ
max_input_cap = max_gate_res

-- Intrinsic delay 0 to 1,000,000,000.
abbrev pub max_intrinsic : ℕ
max_intrinsic = 1000000000

-- Times from minus 10^15 to 10^15.
abbrev pub max_time : ℕ
max_time = 1000000000000000

-- At most 255 nodes after the driver.
abbrev pub max_nodes : ℕ
max_nodes = 255

-- At most 64 stages.
abbrev pub max_stages : ℕ
max_stages = 64

-- A parent has at most two children.
abbrev pub max_children : ℕ
max_children = 2

-- The tags of the fields: the layers without vias (01),
abbrev pub layers_tag : ℕ
layers_tag = 1

-- and the layers of the second edition, with vias, which take the place of tag 1 (02, wish 5).
abbrev pub via_layers_tag : ℕ
via_layers_tag = 7

-- The driver's field.
abbrev pub driver_tag : ℕ
driver_tag = 2

-- A Steiner point's field.
abbrev pub steiner_tag : ℕ
steiner_tag = 3

-- A buffer's field.
abbrev pub buffer_tag : ℕ
buffer_tag = 4

-- A sink's field.
abbrev pub sink_tag : ℕ
sink_tag = 5

-- The number in the w bytes from i on: numbers are big-endian.
unfoldable pub number : List ℕ → ℕ → ℕ → ℕ
number bs i zero = 0
number bs i (suc w) = number bs i w * 256 + get_or bs (i + w) 0

-- A time from its 64 bits: the two times are two's complement.
unfoldable pub signed : ℕ → ℤ
signed x = if ltb x (2 ^ 63) then pos x else negsuc (2 ^ 64 - 1 - x)

-- A field: one tag byte, two bytes of payload length, payload. Its tag, where its payload starts, and the payload's length.
pub record Field : Type 0 where
  pub tag : ℕ
  pub start : ℕ
  pub size : ℕ

-- The field whose head stands at i.
unfoldable pub field_at : List ℕ → ℕ → Field
field_at bs i = record { tag = number bs i 1; start = i + 3; size = number bs (i + 1) 2 }

-- Where the next field starts.
unfoldable pub next : Field → ℕ
next f = f.start + f.size

-- How many bytes a layer takes: two each for unit resistance and unit capacitance, and under tag 7 two more for via resistance (02, wish 5).
abbrev pub layer_size : ℕ → ℕ
layer_size tag = if eqb tag via_layers_tag then 6 else 4

-- A layers field has tag 1 and 4 to 64 bytes, a multiple of 4, or tag 7 and 6 to 96 bytes, a multiple of 6: 1 to 16 layers (01, Net bytes; 02, wish 5).
unfoldable pub due_layers : ℕ → ℕ → Bool
due_layers tag size =
    (eqb tag layers_tag || eqb tag via_layers_tag) && within (layer_size tag) (layer_size tag * max_layers) size && eqb (size % layer_size tag) 0

-- A driver field has 4 + 4 + 8 bytes.
unfoldable pub due_driver : ℕ → ℕ → Bool
due_driver tag size = eqb tag driver_tag && eqb size 16

-- How many bytes a kind's own numbers take: none for a Steiner point, 4 + 4 + 4 for a buffer, 4 + 8 for a sink.
abbrev pub kind_size : ℕ → ℕ
kind_size tag = if eqb tag steiner_tag then 0 else 12

-- A node's field, with L layers: parent and length, one cost for each layer, then the kind's own numbers.
unfoldable pub due_node : ℕ → ℕ → ℕ → Bool
due_node L tag size = within steiner_tag sink_tag tag && eqb size (4 + 4 * L + kind_size tag)

-- The layer at i of a layers field with this tag: unit resistance, unit capacitance, via resistance, which is 0 under tag 1 (02, wish 5).
unfoldable pub layer_at : List ℕ → ℕ → ℕ → Layer
layer_at bs tag i = record { unit_res = number bs i 2; unit_cap = number bs (i + 2) 2; via_res = if eqb tag via_layers_tag then number bs (i + 4) 2 else 0 }

-- The layers of a layers field.
unfoldable pub layers_at : List ℕ → Field → List Layer
layers_at bs f = map (λ k. layer_at bs f.tag (f.start + layer_size f.tag * k)) (from 0 (f.size / layer_size f.tag))

-- The driver at i: gate resistance, intrinsic delay, arrival time.
unfoldable pub driver_at : List ℕ → ℕ → Driver
driver_at bs i = record { gate_res = number bs i 4; intrinsic = number bs (i + 4) 4; arrival = signed (number bs (i + 8) 8) }

-- The kind of a tag, with its own numbers at i: a buffer's input capacitance, gate resistance and intrinsic delay, a sink's input capacitance and
-- required time.
unfoldable pub kind_at : List ℕ → ℕ → ℕ → Kind
kind_at bs tag i =
    if eqb tag steiner_tag then Steiner else
    if eqb tag buffer_tag then Buffer (number bs i 4) (number bs (i + 4) 4) (number bs (i + 8) 4) else
    Sink (number bs i 4) (signed (number bs (i + 4) 8))

-- The L costs from i on, one for each layer.
unfoldable pub costs_at : List ℕ → ℕ → ℕ → List ℕ
costs_at bs L i = map (λ k. number bs (i + 4 * k) 4) (from 0 L)

-- The node of a field, with L layers: parent, length, costs, then the kind's own numbers.
unfoldable pub node_at : List ℕ → ℕ → Field → Node
node_at bs L f = record {
  parent = number bs f.start 2;
  len = number bs (f.start + 2) 2;
  costs = costs_at bs L (f.start + 4);
  kind = kind_at bs f.tag (f.start + 4 + 4 * L);
}

-- A time in its range.
unfoldable pub is_time : ℤ → Bool
is_time = within_z (negsuc (max_time - 1)) (pos max_time)

-- A layer whose numbers are in their ranges.
unfoldable pub is_layer : Layer → Bool
is_layer l = within 1 max_unit l.unit_res && within 1 max_unit l.unit_cap && leb l.via_res max_via_res

-- A driver whose numbers are in their ranges.
unfoldable pub is_driver : Driver → Bool
is_driver d = leb d.gate_res max_gate_res && leb d.intrinsic max_intrinsic && is_time d.arrival

-- A kind whose own numbers are in their ranges.
unfoldable pub is_kind : Kind → Bool
is_kind Steiner = true
is_kind (Buffer c r d) = leb c max_input_cap && leb r max_gate_res && leb d max_intrinsic
is_kind (Sink c t) = leb c max_input_cap && is_time t

-- Costs that are all in their range.
unfoldable pub is_costs : List ℕ → Bool
is_costs cs = all (map (within 1 max_cost) cs)

-- A node whose numbers are in their ranges, where lengths go up to `most`; a parent is judged apart, by refusal 5.
unfoldable pub is_node : ℕ → Node → Bool
is_node most n = leb n.len most && is_costs n.costs && is_kind n.kind
