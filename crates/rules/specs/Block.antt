-- 02, wish 2, 'A report over a whole block': the nets of a block, the totals over them, and the report's text.
use Rattle.std.specs.Prelude.{◌≡◌, Bool, true, false, List, [], ◌∷◌, ◌++◌, map, ℕ, zero, suc, ◌+◌, ◌*◌, ◌≤◌, leb, eqb, length, take, drop, replicate, if◌then◌else◌}
use Rattle.laws.specs.Basic.{from, sum, keep}
use Rattle.rules.specs.declared.Report.{Report}
use Rattle.rules.specs.Tree.{Net, at, edges, stage_of, on, is_plan}
use Rattle.rules.specs.Bytes.{Field, max_layers, next}
use Rattle.rules.specs.Timing.{meets, cost}
use Rattle.rules.specs.Reading.{Answer, accept, refuse, ◌>>=◌, ◌>>◌, ◌unless◌, field}
use Rattle.rules.specs.Planning.{Choice, Plannable}
use Rattle.rules.specs.Text.{ascii, space, line_feed, number_field}
use Rattle.rules.specs.Program.{cost_word, refused_word, refused_line, program_planned}

-- 'Files are at most 65,536 bytes.'
abbrev pub max_block : ℕ
max_block = 65536

-- The tag of a net in a block.
abbrev pub net_tag : ℕ
net_tag = 6

-- 'fields of tag 6, each with a net as payload': any length is allowed, for what the payload holds is planning's to judge.
unfoldable pub due_net : ℕ → ℕ → Bool
due_net tag size = eqb tag net_tag

-- The net's field at i. It is read as every field is (01, Reading); another tag, or a field that is cut short, is 13.
unfoldable pub net_field : List ℕ → ℕ → Answer Field
net_field bs i = elim (field due_net bs i) [ accept f ↦ accept f | refuse r ↦ refuse 13 ]

-- The bytes of a field's payload.
unfoldable pub payload : List ℕ → Field → List ℕ
payload bs f = take f.size (drop f.start bs)

-- The nets from i to the end: a field is due as long as a byte is left. k bounds the nets to come; one more than the bytes is enough, for a field has three
-- or more.
unfoldable pub nets_from : ℕ → List ℕ → ℕ → Answer (List (List ℕ))
nets_from zero bs i = refuse 13
nets_from (suc k) bs i =
    elim (leb (length bs) i) [
      | true ↦ accept []
      | false ↦ net_field bs i >>= λ f. nets_from k bs (next f) >>= λ ns. accept (payload bs f ∷ ns)
    ]

-- The nets of a block, each as its bytes, or 13 'for a block that is longer, has another tag or is cut short'. An empty file is a block of no nets.
unfoldable pub block : List ℕ → Answer (List (List ℕ))
block bs = do
  13 unless leb (length bs) max_block
  nets_from (length bs + 1) bs 0

-- The total edge length on layer l under plan x: that of the edges whose stage is on it.
unfoldable pub length_on : Net → List ℕ → ℕ → ℕ
length_on n x l = sum (map (λ j. (at n j).len) (keep (λ j. eqb (on x (stage_of n j)) l) (edges n)))

-- The wire of a net: its total edge length.
unfoldable pub wire : Net → ℕ
wire n = sum (map (λ j. (at n j).len) (edges n))

-- What a net adds to a sum over the planned nets: a refused one adds nothing.
abbrev pub if_planned : (Choice → ℕ) → Answer Choice → ℕ
if_planned f (accept c) = f c
if_planned f (refuse r) = 0

-- A sum over the nets that were planned, from what planning answered for each net.
unfoldable pub over_planned : (Choice → ℕ) → List (Answer Choice) → ℕ
over_planned f xs = sum (map (if_planned f) xs)

-- Planning refused with number r.
abbrev pub is_refused : ℕ → Answer Choice → Bool
is_refused r (accept c) = false
is_refused r (refuse s) = eqb s r

-- How many nets were refused with number r.
unfoldable pub refused_nets : ℕ → List (Answer Choice) → ℕ
refused_nets r xs = length (keep (is_refused r) xs)

-- The refusal numbers of a net that are counted: those below this one, which is the block's own.
abbrev pub net_numbers : ℕ
net_numbers = 13

-- The totals, from what planning answered for each net: nets, planned, how many were refused with each number, cost, and the total edge length on each
-- layer, by layer number over all nets.
unfoldable pub totals : List (Answer Choice) → Report
totals xs = record {
  refusal = 0;
  nets = length xs;
  planned = over_planned (λ c. 1) xs;
  refused = map (λ r. refused_nets r xs) (from 0 net_numbers);
  cost = over_planned (λ c. cost c.net c.plan) xs;
  lengths = map (λ l. over_planned (λ c. length_on c.net c.plan l) xs) (from 0 max_layers);
}

-- No totals: a refusal number and zeros.
unfoldable pub no_totals : ℕ → Report
no_totals r = record { refusal = r; nets = 0; planned = 0; refused = replicate net_numbers 0; cost = 0; lengths = replicate max_layers 0 }

-- What the report tells: the totals over the nets of the block, each planned 'as 01's program does'; or 13 and zeros.
unfoldable pub report : List ℕ → Report
report bs = elim (block bs) [ accept ns ↦ totals (map program_planned ns) | refuse r ↦ no_totals r ]

-- A sum over the planned nets of a block; 0 for bytes that are none.
unfoldable pub over_block : (Choice → ℕ) → List ℕ → ℕ
over_block f bs = elim (block bs) [ accept ns ↦ over_planned f (map program_planned ns) | refuse r ↦ 0 ]

-- What a report says in words, whatever bytes are handed in.
pub record BlockPromise (bs : List ℕ) (r : Report) : Type 0 where
  -- 'The lengths over layers must add up to the wire of the planned nets.'
  pub wire-whole : sum r.lengths ≡ over_block (λ c. wire c.net) bs
  -- Every net is counted once: as planned, or with the number that planning refused it with.
  pub nets_whole : r.nets ≡ r.planned + sum r.refused
  -- Demand 3 for the block: whichever plan that meets timing is given to each net of which one does, 4 × cost is at most 5 × what the planned nets then cost.
  pub near : (x : Net → List ℕ) → ((n : Net) → Plannable n → (is_plan n (x n) ≡ true) × (meets n (x n) ≡ true))
      → 4 * r.cost ≤ 5 * over_block (λ c. cost c.net (x c.net)) bs

-- The output words of the report that 01's program has not. Before the number of nets.
abbrev pub nets_word : List ℕ
nets_word = ascii "nets "

-- Before the number of planned nets.
abbrev pub planned_word : List ℕ
planned_word = ascii "planned "

-- Before a layer and the total edge length on it.
abbrev pub length_word : List ℕ
length_word = ascii "length "

-- A line of one number.
unfoldable pub count_line : List ℕ → ℕ → List ℕ
count_line word n = number_field word n ++ line_feed

-- A line of a refusal number or layer i and what was counted for it; none if that is 0.
unfoldable pub met_line : List ℕ → ℕ → ℕ → List ℕ
met_line word i c = if eqb c 0 then [] else number_field word i ++ number_field space c ++ line_feed

-- The lines for what was counted from i on, rising.
unfoldable pub met_from : List ℕ → ℕ → List ℕ → List ℕ
met_from word i [] = []
met_from word i (c ∷ cs) = met_line word i c ++ met_from word (suc i) cs

-- The text of totals: `nets`, `planned`, `refused` for each number met, `cost`, `length` for each layer where it is above 0.
unfoldable pub totals_text : Report → List ℕ
totals_text r =
    count_line nets_word r.nets ++ count_line planned_word r.planned ++ met_from refused_word 0 r.refused ++ count_line cost_word r.cost ++
    met_from length_word 0 r.lengths

-- The text of an answer: for a block that is none 'it prints `refused 13` only'.
unfoldable pub answer_text : Report → List ℕ
answer_text r = if eqb r.refusal 0 then totals_text r else refused_line r.refusal

-- The report's text for an input.
unfoldable pub report_text : List ℕ → List ℕ
report_text bs = answer_text (report bs)
