-- 01, 'Nets to try', the rows marked †, with their floors (02, wish 6), lengths (02, wish 3), vias (02, wish 5), rounds (02, wish 7), blocks (02, wish 2)
-- and runs of calls on a desk (02, wish 8) to try: lists of inputs and results, and one proof that settles them against the rules.
use Rattle.std.specs.Prelude.{Bool, true, false, ◌&&◌, List, [], ◌∷◌, ◌++◌, map, ℕ, zero, suc, ◌+◌, ◌*◌, ◌/◌, ◌^◌, ◌%◌, T, eqb, length, drop, replicate, ℤ, pos, negsuc, if◌then◌else◌}
use Rattle.std.proofs.Math.Option.{none}
use Rattle.std.specs.Int.Signed.{le_z}
use Rattle.laws.specs.Basic
use Rattle.laws.specs.Basic.{all}
use Rattle.rules.specs.Tree
use Rattle.rules.specs.Bytes
use Rattle.rules.specs.Timing
use Rattle.rules.specs.Grain
use Rattle.rules.specs.Reading
use Rattle.rules.specs.Reading.{check}
use Rattle.rules.specs.Judging
use Rattle.rules.specs.Judging.{judge}
use Rattle.rules.specs.Planning
use Rattle.rules.specs.Planning.{PlanAnswer, plan}
use Rattle.rules.specs.Rounds
use Rattle.rules.specs.Rounds.{RoundsAnswer, plan_rounds}
use Rattle.rules.specs.Text
use Rattle.rules.specs.Text.{ascii}
use Rattle.rules.specs.Program
use Rattle.rules.specs.Block
use Rattle.rules.specs.Block.{report_text}
use Rattle.rules.specs.Desk
use Rattle.rules.specs.Desk.{Call, to_open, to_set, to_lock, to_unlock, to_read, Reply, counts_reply, number_reply, figures_reply, replies}

-- A number in w bytes, most significant first.
abbrev pub bytes : ℕ → ℕ → List ℕ
bytes zero x = []
bytes (suc w) x = (x / 256 ^ w % 256) ∷ bytes w x

-- 'Two layers: (4, 1) and (1, 1)'.
abbrev pub two_layers : List ℕ
two_layers = bytes 1 1 ++ (bytes 2 8 ++ (bytes 2 4 ++ (bytes 2 1 ++ (bytes 2 1 ++ bytes 2 1))))

-- The same with via resistance 0 on layer 0 and v on layer 1 (02, wish 5).
abbrev pub two_via_layers : ℕ → List ℕ
two_via_layers v = bytes 1 7 ++ (bytes 2 12 ++ (bytes 2 4 ++ (bytes 2 1 ++ (bytes 2 0 ++ (bytes 2 1 ++ (bytes 2 1 ++ bytes 2 v))))))

-- 'driver resistance 1, intrinsic 0, arrival 0'.
abbrev pub plain_driver : List ℕ
plain_driver = bytes 1 2 ++ (bytes 2 16 ++ (bytes 4 1 ++ (bytes 4 0 ++ bytes 8 0)))

-- A sink: parent, length, the two costs, input capacitance, required time.
abbrev pub sink_field : ℕ → ℕ → ℕ → ℕ → ℕ → ℕ → List ℕ
sink_field p len a b c t = bytes 1 5 ++ (bytes 2 24 ++ (bytes 2 p ++ (bytes 2 len ++ (bytes 4 a ++ (bytes 4 b ++ (bytes 4 c ++ bytes 8 t))))))

-- A buffer: parent, length, the two costs, input capacitance, gate resistance, intrinsic delay.
abbrev pub buffer_field : ℕ → ℕ → ℕ → ℕ → ℕ → ℕ → ℕ → List ℕ
buffer_field p len a b c r d =
    bytes 1 4 ++ (bytes 2 24 ++ (bytes 2 p ++ (bytes 2 len ++ (bytes 4 a ++ (bytes 4 b ++ (bytes 4 c ++ (bytes 4 r ++ bytes 4 d)))))))

-- Net A on these layers, with another length and required time t.
abbrev pub net_a_on : List ℕ → ℕ → ℕ → List ℕ
net_a_on layers len t = layers ++ (plain_driver ++ sink_field 0 len 10 20 5 t)

-- Net A with another length and required time t.
abbrev pub net_a_long : ℕ → ℕ → List ℕ
net_a_long len t = net_a_on two_layers len t

-- Net A with required time t.
abbrev pub net_a : ℕ → List ℕ
net_a t = net_a_long 10 t

-- Net A with via resistance v on layer 1, and required time t.
abbrev pub net_a_via : ℕ → ℕ → List ℕ
net_a_via v t = net_a_on (two_via_layers v) 10 t

-- Net B on these layers, with costs a and b of its first edge, c and d of its second.
abbrev pub net_b_costs : List ℕ → ℕ → ℕ → ℕ → ℕ → List ℕ
net_b_costs layers a b c d = layers ++ (plain_driver ++ (buffer_field 0 10 a b 5 1 3 ++ sink_field 1 10 c d 5 1063))

-- Net B on these layers.
abbrev pub net_b_on : List ℕ → List ℕ
net_b_on layers = net_b_costs layers 10 20 12 25

-- Net B.
abbrev pub net_b : List ℕ
net_b = net_b_on two_layers

-- Net B with costs such that the plans 0 1 and 1 0 cost 32 both: 8 and 24, 23 and 9.
abbrev pub net_b_even : List ℕ
net_b_even = net_b_costs two_layers 8 23 9 24

-- The number 1 so many times, in w bytes each.
abbrev pub ones : ℕ → ℕ → List ℕ
ones w zero = []
ones w (suc m) = bytes w 1 ++ ones w m

-- A net whose layers field has this tag and m numbers, each 1 and of two bytes, and whose sink has costs for L layers.
abbrev pub layers_of : ℕ → ℕ → ℕ → List ℕ
layers_of tag m L =
    bytes 1 tag ++ (bytes 2 (2 * m) ++ (ones 2 m ++ (plain_driver ++
    (bytes 1 5 ++ (bytes 2 (16 + 4 * L) ++ (bytes 2 0 ++ (bytes 2 10 ++ (ones 4 L ++ (bytes 4 5 ++ bytes 8 830)))))))))

-- The field of a net in a block.
abbrev pub in_block : List ℕ → List ℕ
in_block net = bytes 1 6 ++ (bytes 2 (length net) ++ net)

-- Net A as 01 prints it, in hexadecimal.
abbrev pub net_a_hex : List ℕ
net_a_hex = 0x01 ∷ 0x00 ∷ 0x08 ∷ 0x00 ∷ 0x04 ∷ 0x00 ∷ 0x01 ∷ 0x00 ∷ 0x01 ∷ 0x00 ∷ 0x01 ∷ 0x02 ∷ 0x00 ∷ 0x10 ∷ 0x00 ∷ 0x00 ∷ 0x00 ∷ 0x01 ∷ 0x00 ∷ 0x00 ∷ 0x00 ∷ 0x00 ∷ 0x00 ∷ 0x00 ∷ 0x00 ∷ 0x00 ∷ 0x00 ∷ 0x00 ∷ 0x00 ∷ 0x00 ∷ 0x05 ∷ 0x00 ∷ 0x18 ∷ 0x00 ∷ 0x00 ∷ 0x00 ∷ 0x0A ∷ 0x00 ∷ 0x00 ∷ 0x00 ∷ 0x0A ∷ 0x00 ∷ 0x00 ∷ 0x00 ∷ 0x14 ∷ 0x00 ∷ 0x00 ∷ 0x00 ∷ 0x05 ∷ 0x00 ∷ 0x00 ∷ 0x00 ∷ 0x00 ∷ 0x00 ∷ 0x00 ∷ 0x03 ∷ 0x3E ∷ []

-- Equal times, and lists of equal members.
abbrev pub same_z : ℤ → ℤ → Bool
same_z a b = le_z a b && le_z b a

-- Equal lists, where `eq` says which members are equal.
abbrev pub same {ℓ} : {A : Type ℓ} → (A → A → Bool) → List A → List A → Bool
same eq [] [] = true
same eq [] (y ∷ ys) = false
same eq (x ∷ xs) [] = false
same eq (x ∷ xs) (y ∷ ys) = eq x y && same eq xs ys

-- A row: an input and the results that 01 or 02 gives for it.
pub data Row : Type 0 where
  -- checked: net; refusal, nodes, stages, layers
  Checks : List ℕ → ℕ → ℕ → ℕ → ℕ → Row
  -- judged: net, plan; cost, slack
  Judges : List ℕ → List ℕ → ℕ → ℤ → Row
  -- planned: net, p, q, table entries; plan, cost, slack, k, floor
  Plans : List ℕ → ℕ → ℕ → ℕ → List ℕ → ℕ → ℤ → ℕ → ℕ → Row
  -- planned and refused: net, p, q, table entries; refusal
  Refuses : List ℕ → ℕ → ℕ → ℕ → ℕ → Row
  -- planned by rounds: net, r, table entries; plan, cost, slack, floor, rounds
  PlansRounds : List ℕ → ℕ → ℕ → List ℕ → ℕ → ℤ → ℕ → ℕ → Row
  -- planned by rounds and refused: net, r, table entries, bytes of the plan buffer; refusal
  RefusesRounds : List ℕ → ℕ → ℕ → ℕ → ℕ → Row
  -- reported: block; text
  Reports : List ℕ → List ℕ → Row
  -- called on a fresh desk, one call after the other: each with the numbers of its reply
  Calls : List (Call × List ℤ) → Row

-- A plan buffer of so many bytes and a table, with something in them beforehand.
abbrev pub used_bytes : ℕ → List ℕ
used_bytes room = replicate room 77

-- The plan buffer of 64 bytes.
abbrev pub used_buffer : List ℕ
used_buffer = used_bytes 64

-- The table of so many entries.
abbrev pub used_table : ℕ → List ℤ
used_table entries = replicate entries (negsuc 5)

-- Planning on used buffers.
abbrev pub plan_on : List ℕ → ℕ → ℕ → ℕ → PlanAnswer
plan_on bs p q entries = plan bs p q (used_table entries) used_buffer

-- The answer has these results, the table these entries, the buffer these bytes.
abbrev pub answers : PlanAnswer → ℕ → ℕ → ℤ → ℕ → ℕ → List ℕ → List ℤ → Bool
answers a r c s k f buffer table =
    eqb a.refusal r && (eqb a.cost c && (same_z a.slack s && (eqb a.k k && (eqb a.floor f &&
    (same eqb a.buffer buffer && same same_z a.table table)))))

-- The same of planning by rounds.
abbrev pub answers_rounds : RoundsAnswer → ℕ → ℕ → ℤ → ℕ → ℕ → List ℕ → List ℤ → Bool
answers_rounds a r c s f m buffer table =
    eqb a.refusal r && (eqb a.cost c && (same_z a.slack s && (eqb a.floor f && (eqb a.rounds m &&
    (same eqb a.buffer buffer && same same_z a.table table)))))

-- A table that was refused with r.
abbrev pub refused_table : ℕ → ℕ → List ℤ
refused_table r m = (if eqb r 12 then replicate m (pos 0) else used_table m)

-- The numbers of a reply: of an opening the refusal and three counts, of a change the refusal, of a reading the refusal, cost and slack.
abbrev pub reply_numbers : Reply → List ℤ
reply_numbers (counts_reply c) = pos c.refusal ∷ pos c.nodes ∷ pos c.stages ∷ pos c.layers ∷ []
reply_numbers (number_reply r) = pos r ∷ []
reply_numbers (figures_reply j) = pos j.refusal ∷ pos j.cost ∷ j.slack ∷ []

-- An opening, with the counts of nodes, stages and layers.
abbrev pub opens : List ℕ → ℕ → ℕ → ℕ → Call × List ℤ
opens net i s l = (to_open net, pos 0 ∷ pos i ∷ pos s ∷ pos l ∷ [])

-- An opening that is refused, with its number.
abbrev pub opens_not : List ℕ → ℕ → Call × List ℤ
opens_not net r = (to_open net, pos r ∷ pos 0 ∷ pos 0 ∷ pos 0 ∷ [])

-- A change, with the number that it gives.
abbrev pub gives : Call → ℕ → Call × List ℤ
gives c r = (c, pos r ∷ [])

-- A reading, with cost and slack.
abbrev pub reads : ℕ → ℤ → Call × List ℤ
reads c s = (to_read, pos 0 ∷ pos c ∷ s ∷ [])

-- A reading that is refused, with its number.
abbrev pub reads_not : ℕ → Call × List ℤ
reads_not r = (to_read, pos r ∷ pos 0 ∷ pos 0 ∷ [])

-- A row holds.
abbrev pub holds : Row → Bool
holds (Checks bs r i s l) =
    eqb (check bs).refusal r && (eqb (check bs).nodes i && (eqb (check bs).stages s && eqb (check bs).layers l))
holds (Judges bs x c s) = eqb (judge bs x).refusal 0 && (eqb (judge bs x).cost c && same_z (judge bs x).slack s)
holds (Plans bs p q m x c s k f) = answers (plan_on bs p q m) 0 c s k f (x ++ drop (length x) used_buffer) (replicate m (pos 0))
holds (Refuses bs p q m r) = answers (plan_on bs p q m) r 0 (pos 0) 0 0 used_buffer (refused_table r m)
holds (PlansRounds bs r m x c s f i) =
    answers_rounds (plan_rounds bs r (used_table m) used_buffer) 0 c s f i (x ++ drop (length x) used_buffer) (replicate m (pos 0))
holds (RefusesRounds bs r m room t) =
    answers_rounds (plan_rounds bs r (used_table m) (used_bytes room)) t 0 (pos 0) 0 0 (used_bytes room) (refused_table t m)
holds (Reports bs text) = same eqb (report_text bs) text
holds (Calls cs) = same (same same_z) (map reply_numbers (replies none (map (λ c. c.0) cs))) (map (λ c. c.1) cs)

-- The rows, in the order of 01. Where 01 names no table, it has 200 entries. Floors: net B has V(3) = 3 and V(4) = 1, by the plans of cost 32 (20 and 12)
-- and 35 (10 and 25); at share 0 the floor is the cost.
abbrev pub rows : List Row
rows =
    Judges net_a_hex (0 ∷ []) 10 (pos 0) ∷
    Judges (net_a 830) (1 ∷ []) 20 (pos 600) ∷
    Plans (net_a 829) 0 1 200 (1 ∷ []) 20 (pos 599) 0 20 ∷
    Plans (net_a 230) 0 1 200 (1 ∷ []) 20 (pos 0) 0 20 ∷
    Refuses (net_a 229) 0 1 200 11 ∷
    Judges net_b (0 ∷ 0 ∷ []) 22 (negsuc 599) ∷
    Judges net_b (1 ∷ 1 ∷ []) 45 (pos 600) ∷
    Plans net_b 0 1 132 (1 ∷ 0 ∷ []) 32 (pos 0) 0 32 ∷
    Refuses net_b 0 1 131 12 ∷
    Plans net_b 1 1 200 (1 ∷ 0 ∷ []) 32 (pos 0) 3 24 ∷
    Plans net_b 2 1 8 (0 ∷ 1 ∷ []) 35 (pos 0) 4 16 ∷
    Refuses net_b 2 1 7 12 ∷
    []

-- Lengths (02, wish 3): 4,000 is read, 4,001 and 65,535 give 3. On layer 0 the edge of 4,000 takes 16,000 × (4,000 + 2 × 5) ticks and the gate
-- 2 × (4,000 + 5), on layer 1 the edge a quarter of that.
abbrev pub length_rows : List Row
length_rows =
    Judges (net_a_long 4000 64168010) (0 ∷ []) 10 (pos 0) ∷
    Judges (net_a_long 4000 64168009) (0 ∷ []) 10 (negsuc 0) ∷
    Plans (net_a_long 4000 64168009) 0 1 200 (1 ∷ []) 20 (pos 48119999) 0 20 ∷
    Refuses (net_a_long 4000 16048009) 0 1 200 11 ∷
    Refuses (net_a_long 4001 64168010) 0 1 200 3 ∷
    Refuses (net_a_long 65535 64168010) 0 1 200 3 ∷
    []

-- Vias (02, wish 5). Net A on layer 1 takes 230 ticks and, with via resistance 2, 2 × 2 × 15 at the root and 2 × 2 × 5 at the sink: 310. In net B the
-- buffer's pin pays by the layer of the stage above it. Via resistance 1,000 is read, 1,001 gives 3, before the driver's field is looked at. Tag 7 has a
-- multiple of 6 bytes from 6 to 96, tag 1 a multiple of 4: 12 bytes are two layers or three.
abbrev pub via_rows : List Row
via_rows =
    Judges (net_a_via 2 830) (1 ∷ []) 20 (pos 520) ∷
    Judges (net_a_via 2 830) (0 ∷ []) 10 (pos 0) ∷
    Plans (net_a_via 2 310) 0 1 200 (1 ∷ []) 20 (pos 0) 0 20 ∷
    Refuses (net_a_via 2 309) 0 1 200 11 ∷
    Judges (net_b_on (two_via_layers 2)) (1 ∷ 0 ∷ []) 32 (negsuc 79) ∷
    Judges (net_b_on (two_via_layers 2)) (0 ∷ 1 ∷ []) 35 (negsuc 79) ∷
    Judges (net_b_on (two_via_layers 2)) (1 ∷ 1 ∷ []) 45 (pos 440) ∷
    Judges (net_a_via 1000 40230) (1 ∷ []) 20 (pos 0) ∷
    Checks (net_a_via 1001 40230) 3 0 0 0 ∷
    Checks (two_via_layers 1001) 3 0 0 0 ∷
    Checks (two_via_layers 1000) 1 0 0 0 ∷
    Checks (layers_of 7 2 1) 2 0 0 0 ∷
    Checks (layers_of 7 3 1) 0 2 1 1 ∷
    Checks (layers_of 7 4 1) 2 0 0 0 ∷
    Checks (layers_of 7 5 1) 2 0 0 0 ∷
    Checks (layers_of 7 6 2) 0 2 1 2 ∷
    Checks (layers_of 7 45 15) 0 2 1 15 ∷
    Checks (layers_of 7 48 16) 0 2 1 16 ∷
    Checks (layers_of 7 51 17) 2 0 0 0 ∷
    Checks (layers_of 1 3 1) 2 0 0 0 ∷
    Checks (layers_of 1 6 3) 0 2 1 3 ∷
    []

-- Rounds (02, wish 7). Net B is on four rows of columns, V(k) is 0 down to k = 5, then 1, 3, 8, 16, 32; plan 0 1 costs 35 and plan 1 0 costs 32. The rounds find
-- 0 1 down to k = 4, 1 0 at k = 3, 0 1 again at k = 2, then 1 0: after 27 rounds the last plan is not the cheapest. A table that is short ends the rounds early.
-- With even costs 0 1 is found first and 1 0 at k = 3: the larger k decides. Refusals in their order, 1 to 6, 14, 10, 11, 12.
abbrev pub rounds_rows : List Row
rounds_rows =
    PlansRounds net_b 1 132 (0 ∷ 1 ∷ []) 35 (pos 0) 0 1 ∷
    PlansRounds net_b 25 132 (0 ∷ 1 ∷ []) 35 (pos 0) 16 25 ∷
    PlansRounds net_b 26 132 (1 ∷ 0 ∷ []) 32 (pos 0) 24 26 ∷
    PlansRounds net_b 27 132 (1 ∷ 0 ∷ []) 32 (pos 0) 32 27 ∷
    PlansRounds net_b 29 132 (1 ∷ 0 ∷ []) 32 (pos 0) 32 29 ∷
    PlansRounds net_b 29 131 (1 ∷ 0 ∷ []) 32 (pos 0) 32 28 ∷
    PlansRounds net_b 29 36 (1 ∷ 0 ∷ []) 32 (pos 0) 32 27 ∷
    PlansRounds net_b 29 35 (1 ∷ 0 ∷ []) 32 (pos 0) 24 26 ∷
    PlansRounds net_b 29 15 (0 ∷ 1 ∷ []) 35 (pos 0) 16 25 ∷
    PlansRounds net_b 29 4 (0 ∷ 1 ∷ []) 35 (pos 0) 0 24 ∷
    RefusesRounds net_b 29 3 64 12 ∷
    RefusesRounds net_b 0 3 1 14 ∷
    RefusesRounds net_b 30 3 1 14 ∷
    RefusesRounds net_b 29 3 1 10 ∷
    RefusesRounds (net_a 229) 29 2 0 10 ∷
    RefusesRounds (net_a 229) 29 2 1 11 ∷
    RefusesRounds (two_via_layers 1001) 0 2 0 3 ∷
    PlansRounds net_b_even 25 132 (0 ∷ 1 ∷ []) 32 (pos 0) 16 25 ∷
    PlansRounds net_b_even 26 132 (0 ∷ 1 ∷ []) 32 (pos 0) 24 26 ∷
    []

-- Blocks: the one of 02, the empty file, a net of no bytes; and 13 for another tag, for a head and for a payload cut short after a net that is whole.
abbrev pub report_rows : List Row
report_rows =
    Reports (in_block net_b ++ in_block (net_a 229)) (ascii "nets 2\nplanned 1\nrefused 11 1\ncost 35\nlength 0 10\nlength 1 10\n") ∷
    Reports [] (ascii "nets 0\nplanned 0\ncost 0\n") ∷
    Reports (in_block []) (ascii "nets 1\nplanned 0\nrefused 1 1\ncost 0\n") ∷
    Reports net_b (ascii "refused 13\n") ∷
    Reports (in_block net_b ++ (6 ∷ 0 ∷ [])) (ascii "refused 13\n") ∷
    Reports (in_block net_b ++ (6 ∷ 0 ∷ 1 ∷ [])) (ascii "refused 13\n") ∷
    []

-- Runs of calls on a fresh desk (02, wish 8). Each number of each call is given but 4, which takes 64 buffers; 16 comes before 7 and 8, 7 before 8, 8 before
-- 17, 15 before 2. Net B is as it is judged above. Refused calls keep net, plan and locks, an opening replaces all three, and reading alters nothing. The
-- limits: stages 1 and 2, layers 1 and 2, 4,096 bytes, which are read and have a wrong tag, and 4,097.
abbrev pub desk_rows : List Row
desk_rows =
    Calls (
    reads_not 16 ∷
    gives (to_set 0 0) 16 ∷
    gives (to_lock 0) 16 ∷
    gives (to_unlock 0) 16 ∷
    opens_not [] 1 ∷
    opens_not (replicate 4096 0) 2 ∷
    opens_not (replicate 4097 0) 15 ∷
    opens_not (net_a_long 4001 830) 3 ∷
    opens_not (two_layers ++ (plain_driver ++ sink_field 1 10 10 20 5 830)) 5 ∷
    opens_not (two_layers ++ plain_driver) 6 ∷
    reads_not 16 ∷
    []) ∷
    Calls (
    opens net_b 3 2 2 ∷
    reads 22 (negsuc 599) ∷
    gives (to_set 0 1) 0 ∷
    reads 32 (pos 0) ∷
    gives (to_lock 1) 0 ∷
    gives (to_lock 1) 0 ∷
    gives (to_set 1 0) 17 ∷
    gives (to_set 1 2) 8 ∷
    gives (to_set 2 2) 7 ∷
    gives (to_lock 2) 7 ∷
    gives (to_unlock 2) 7 ∷
    opens_not [] 1 ∷
    opens_not (replicate 4097 0) 15 ∷
    reads 32 (pos 0) ∷
    gives (to_set 1 1) 17 ∷
    gives (to_unlock 1) 0 ∷
    gives (to_unlock 1) 0 ∷
    gives (to_set 1 1) 0 ∷
    reads 45 (pos 600) ∷
    []) ∷
    Calls (
    opens net_b 3 2 2 ∷
    gives (to_set 0 1) 0 ∷
    gives (to_lock 0) 0 ∷
    opens (net_a 830) 2 1 2 ∷
    reads 10 (pos 0) ∷
    gives (to_set 1 0) 7 ∷
    gives (to_set 0 1) 0 ∷
    reads 20 (pos 600) ∷
    []) ∷
    []

-- All rows hold, by computing the definitions on them.
pub settled : T (all (map holds (rows ++ (length_rows ++ (via_rows ++ (rounds_rows ++ (report_rows ++ desk_rows)))))))
unfolding Basic.largest Tree.node Tree.edges Tree.children_of Tree.roots Tree.stages Tree.root Tree.layer_count Tree.drives Tree.root_from Tree.path_from Tree.stage_of Tree.between Tree.edges_of Tree.terminals Tree.are_layers Tree.is_plan Tree.plans Bytes.number Bytes.signed Bytes.field_at Bytes.next Bytes.due_layers Bytes.due_driver Bytes.due_node Bytes.layer_at Bytes.layers_at Bytes.driver_at Bytes.kind_at Bytes.costs_at Bytes.node_at Bytes.is_time Bytes.is_layer Bytes.is_driver Bytes.is_kind Bytes.is_costs Bytes.is_node Timing.layer Timing.edge_res Timing.edge_cap Timing.load_from Timing.load Timing.edge_delay Timing.gate_res Timing.gate_intrinsic Timing.root_via Timing.gate_delay Timing.terminal_via Timing.wire_delay Timing.required_from Timing.required Timing.slack Timing.meets Timing.edge_cost Timing.cost Timing.stage_cost Timing.stage_costs Grain.rounded_cost Grain.meeting_plans Grain.least_rounded Grain.floor Grain.qualifies Grain.grain_exponent Grain.chosen Grain.columns Grain.columns_needed Reading.field Reading.children Reading.buffers Reading.has_room Reading.is_parent Reading.node_field Reading.nodes_from Reading.is_whole Reading.read_to Reading.read Reading.check Judging.judged Judging.judge Planning.planned Planning.cleared Planning.plan Rounds.due_rounds Rounds.rounds_run Rounds.seen_plans Rounds.cheapest_seen Rounds.highest_floor Rounds.planned_rounds Rounds.plan_rounds Text.decimal_from Text.decimal Program.refused_line Block.due_net Block.net_field Block.payload Block.nets_from Block.block Block.length_on Block.over_planned Block.refused_nets Block.totals Block.no_totals Block.report Block.count_line Block.met_line Block.met_from Block.totals_text Block.answer_text Block.report_text Desk.laid_out Desk.open_desk Desk.at_stage Desk.set_stage Desk.mark_stage Desk.called Desk.replies
settled = tt
