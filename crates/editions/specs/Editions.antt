-- The two editions of the file format (02, wish 5). A via of resistance 0 adds 0 to every delay, so a net without vias is timed and planned as 01 says.
-- Whatever does not open with tag 7 is read as before, and every net that was read before is without vias: so such a file answers as before, in all.
use Rattle.std.specs.Prelude.{◌≡◌, Bool, true, false, ◌&&◌, ◌||◌, ◌⊎◌, leb, ltb, eqb, length, get_or, ℤ, ◌-ℤ◌}
use Rattle.std.proofs.Math.Path.{refl, ap, ap₂, fun_ext}
use Rattle.std.proofs.Common.{sym, ◌∙◌, inl, inr, arith, ne_eqb}
use Rattle.std.proofs.Math.Bool.{and-true}
use mathlib.Core.List.{List, [], ◌∷◌, map, Memᴰ}
use Prim.Native.Nat.{ℕ, zero, suc, ◌+◌, ◌*◌, ◌/◌, ◌%◌}
use Rattle.std.proofs.lemmas.List.{length-map}
use Rattle.std.proofs.Math.IntN.{pos}
use Rattle.laws.specs.Basic.{from, sum, all, least_of, within}
use Rattle.laws.specs.Booleans.{same_or}
use Rattle.laws.specs.Lists.{length_from, map-map, map_same}
use Rattle.rules.specs.Tree.{Layer, Net, at, edges, children_of, stages, terminals, on, are_layers}
use Rattle.rules.specs.Bytes.{max_unit, max_length, max_nodes, layers_tag, via_layers_tag, Field, field_at, next, number, due_layers, due_driver}
use Rattle.rules.specs.Bytes.{layer_at, layers_at, is_layer, driver_at, is_driver}
use Rattle.rules.specs.Timing.{layer, edge_cap, lower_load, load_from, load, root_via, gate_delay, terminal_via, wire_delay}
use Rattle.rules.specs.Timing.{terminal_time, required_from, required, slack, meets}
use Rattle.rules.specs.Grain.{meeting_plans, least_rounded, qualifies, grain_exponent, chosen, columns}
use Rattle.rules.specs.Reading.{Answer, accept, refuse, ◌>>=◌, ◌>>◌, ◌unless◌, field, nodes_from, is_whole, read_to, read, check}
use Rattle.rules.specs.Judging.{judge}
use Rattle.rules.specs.Planning.{max_share, Choice, taken, plan}
use Rattle.rules.specs.Program.{program_table, program_room, program_planned, program_line}
use Rattle.rules.specs.Block.{block, totals, report}
use Rattle.facts.specs.Answers.{accept_injective, then_accepted, unless_accepted}
use Rattle.facts.specs.Fields.{field-there}
use Rattle.facts.specs.Layers.{NoVias}
use Rattle.editions.specs.WithoutVias.{gate_delay_without, wire_delay_without, required_from_without, required_without, slack_without}
use Rattle.editions.specs.WithoutVias.{meets_by, meeting_by, least_by, qualifies_by, grain_by, chosen_by, needed_by}
use Rattle.editions.specs.WithoutVias.{check_by, judged_by, judged_answer, judge_by, planned_by, planned_answer, plan_by, program_by, line_by, report_by}
use Rattle.editions.specs.WithoutVias.{check-is, judge-is, plan-is, program_is, line-is, report-is}
use Rattle.editions.specs.WithoutVias.{due_layers_first, layer_first, layers_first, is_layer_first, read_first, check_first, judge_first, plan_first}
use Rattle.editions.specs.WithoutVias.{program_planned_first, program_line_first, report_first}

-- Such a net has the delays, required times, slacks, meeting plans, V(k), grain and plans of the rule without vias.
pub record TimedWithout (n : Net) : Type 0 where
  pub gate_delays : (l t : ℕ) → gate_delay n l t ≡ gate_delay_without n l t
  pub wire-delays : (l j : ℕ) → wire_delay n l j ≡ wire_delay_without n l j
  pub required_times : (x : List ℕ) (t : ℕ) → required n x t ≡ required_without n x t
  pub slacks : (x : List ℕ) → slack n x ≡ slack_without n x
  pub meeting-plans : meeting_plans n ≡ meeting_by (slack_without n) n
  pub least-costs : (k : ℕ) → least_rounded n k ≡ least_by (slack_without n) n k
  pub grains : (p q : ℕ) → grain_exponent n p q ≡ grain_by (slack_without n) n p q
  pub chosen-plans : (k : ℕ) → chosen n k ≡ chosen_by (slack_without n) n k

module _ (n : Net) (free : NoVias n) where
  gate_free : (l t : ℕ) → gate_delay n l t ≡ gate_delay_without n l t
  unfolding gate_delay root_via gate_delay_without
  gate_free l t = rw (free l) (omega arith)

  wire-free : (l j : ℕ) → wire_delay n l j ≡ wire_delay_without n l j
  unfolding wire_delay terminal_via wire_delay_without
  wire-free l j = rw (free l) (omega arith)

  required-free : (k : ℕ) (x : List ℕ) (t : ℕ) → required_from k n x t ≡ required_from_without k n x t
  unfolding required_from required_from_without
  required-free zero x t = refl
  required-free (suc k) x t =
      ap₂ (λ (f : ℕ → ℤ) (w : ℕ → ℕ). least_of (map (λ j. (terminal_time n f j -ℤ pos (gate_delay n (on x t) t)) -ℤ pos (w j)) (terminals n t)))
      (fun_ext (required-free k x)) (fun_ext (wire-free (on x t)))
      ∙ ap (λ (g : ℕ). least_of (map (λ j. (terminal_time n (required_from_without k n x) j -ℤ pos g) -ℤ pos (wire_delay_without n (on x t) j)) (terminals n t)))
      (gate_free (on x t) t)

  slack-free : (x : List ℕ) → slack n x ≡ slack_without n x
  unfolding slack slack_without required required_without
  slack-free x = ap (λ (z : ℤ). z -ℤ n.driver.arrival) (required-free (stages n) x 0)

  pub slack_without_lem : slack n ≡ slack_without n
  slack_without_lem = fun_ext slack-free

  pub timed_without : TimedWithout n
  unfolding required required_without meets meets_by meeting_plans meeting_by least_rounded least_by qualifies qualifies_by grain_exponent grain_by chosen chosen_by
  timed_without = record {
    gate_delays = gate_free;
    wire-delays = wire-free;
    required_times = required-free (stages n);
    slacks = slack-free;
    meeting-plans = ap (λ (f : List ℕ → ℤ). meeting_by f n) slack_without_lem;
    least-costs = λ k. ap (λ (f : List ℕ → ℤ). least_by f n k) slack_without_lem;
    grains = λ p q. ap (λ (f : List ℕ → ℤ). grain_by f n p q) slack_without_lem;
    chosen-plans = λ k. ap (λ (f : List ℕ → ℤ). chosen_by f n k) slack_without_lem;
  }

-- The net with other layers.
abbrev pub with_layers : Net → List Layer → Net
with_layers n ls = record { layers = ls; driver = n.driver; nodes = n.nodes }

-- A load rests on no via: two nets with the same nodes and unit capacitance have the same loads, whatever their vias.
module _ (n : Net) (ls : List Layer) (l : ℕ) (units : (layer (with_layers n ls) l).unit_cap ≡ (layer n l).unit_cap) where
  load-free : (k i : ℕ) → load_from k (with_layers n ls) l i ≡ load_from k n l i
  unfolding load_from children_of edges edge_cap
  load-free zero i = refl
  load-free (suc k) i =
      ap₂ (λ (c : ℕ) (f : ℕ → ℕ). sum (map (λ j. (at n j).len * c + lower_load n f j) (children_of n i))) units (fun_ext (load-free k))

  pub load_any_via : (i : ℕ) → load (with_layers n ls) l i ≡ load n l i
  unfolding load
  load_any_via i = load-free (length n.nodes + 1) i

-- A layers field that has not tag 7 is due, or not, as before,
due-before : (tag size : ℕ) → (tag ≡ via_layers_tag → ⊥) → due_layers tag size ≡ due_layers_first tag size
unfolding due_layers due_layers_first
due-before tag size old = rw (ne_eqb tag via_layers_tag old) (go (eqb tag layers_tag))
  where
    go : (t : Bool) → (t || false) && within 4 64 size && eqb (size % 4) 0 ≡ t && within 4 64 size && eqb (size % 4) 0
    go true = refl
    go false = refl

field-before : (bs : List ℕ) → (number bs 0 1 ≡ via_layers_tag → ⊥) → field due_layers bs 0 ≡ field due_layers_first bs 0
unfolding field field_at
field-before bs old = rw (due-before (number bs 0 1) (number bs (0 + 1) 2) old) refl

-- and has the same layers,
layers-before : (bs : List ℕ) (f : Field) → (f.tag ≡ via_layers_tag → ⊥) → layers_at bs f ≡ layers_first bs f
unfolding layers_at layer_at layers_first layer_first
layers-before bs f old = rw (ne_eqb f.tag via_layers_tag old) refl

count-before : (bs : List ℕ) (f : Field) → length (layers_first bs f) ≡ f.size / 4
unfolding layers_first
count-before bs f = length-map (from 0 (f.size / 4)) (λ k. layer_first bs (f.start + 4 * k)) ∙ length_from 0 (f.size / 4)

-- which are in range, or not, as before.
in_range-before : (l : Layer) → l.via_res ≡ 0 → is_layer l ≡ is_layer_first l
unfolding is_layer is_layer_first
in_range-before l e = rw e (and-true (within 1 max_unit l.unit_res && within 1 max_unit l.unit_cap))

range-before : (bs : List ℕ) (f : Field) → all (map is_layer (layers_first bs f)) ≡ all (map is_layer_first (layers_first bs f))
unfolding layers_first layer_first
range-before bs f =
    let place : ℕ → Layer = λ k. layer_first bs (f.start + 4 * k) in
    let ks = from 0 (f.size / 4) in
    ap all (map-map is_layer place ks ∙ map_same (λ k. is_layer (place k)) (λ k. is_layer_first (place k)) ks (λ k m. in_range-before (place k) refl)
    ∙ sym (map-map is_layer_first place ks))

-- What both readings do after the layers field f, by its layers, their number and whether they are in range.
unfoldable pub after_layers : List ℕ → Field → List Layer → ℕ → Bool → Answer Net
after_layers bs f ls L in_range = do
  3 unless in_range
  g ← field due_driver bs (next f)
  3 unless is_driver (driver_at bs g.start)
  ns ← nodes_from max_length (max_nodes + 1) bs L [] (next g)
  6 unless is_whole ns
  accept (record { layers = ls; driver = driver_at bs g.start; nodes = ns })

after-before : (bs : List ℕ) (f : Field) → (f.tag ≡ via_layers_tag → ⊥)
    → after_layers bs f (layers_at bs f) (length (layers_at bs f)) (all (map is_layer (layers_at bs f)))
    ≡ after_layers bs f (layers_first bs f) (f.size / 4) (all (map is_layer_first (layers_first bs f)))
after-before bs f old = rw (layers-before bs f old, count-before bs f, range-before bs f) refl

tag_is : (bs : List ℕ) (f : Field) → field due_layers_first bs 0 ≡ accept f → f.tag ≡ number bs 0 1
unfolding field_at
tag_is bs f a = ap (λ (f : Field). f.tag) (field-there due_layers_first bs 0 a).is

-- Bytes that do not open with tag 7 are read as before.
pub read-before : (bs : List ℕ) → (number bs 0 1 ≡ via_layers_tag → ⊥) → read bs ≡ read_first bs
unfolding read read_to read_first after_layers
read-before bs old = rw (field-before bs old) (go (field due_layers_first bs 0) (λ f a e. old (sym (tag_is bs f a) ∙ e)))
  where
    go : (a : Answer Field) → ((f : Field) → a ≡ accept f → f.tag ≡ via_layers_tag → ⊥)
        → (a >>= λ f. after_layers bs f (layers_at bs f) (length (layers_at bs f)) (all (map is_layer (layers_at bs f))))
        ≡ (a >>= λ f. after_layers bs f (layers_first bs f) (f.size / 4) (all (map is_layer_first (layers_first bs f))))
    go (accept f) h = after-before bs f (h f refl)
    go (refuse r) h = refl

-- Every net that was read before is without vias.
no_via-at : (place : ℕ → Layer) → ((k : ℕ) → (place k).via_res ≡ 0) → (ks : List ℕ) (l : ℕ)
    → (get_or (map place ks) l (record { unit_res = 0; unit_cap = 0; via_res = 0 })).via_res ≡ 0
no_via-at place h [] l = refl
no_via-at place h (k ∷ ks) zero = h k
no_via-at place h (k ∷ ks) (suc l) = no_via-at place h ks l

pub first_no_vias : (bs : List ℕ) (n : Net) → read_first bs ≡ accept n → NoVias n
unfolding read_first layer layers_first layer_first
first_no_vias bs n e l =
    let (f, a1, b1) = then_accepted (field due_layers_first bs 0) _ e in
    let (layers, b2) = unless_accepted 3 (all (map is_layer_first (layers_first bs f))) _ b1 in
    let (g, a2, b3) = then_accepted (field due_driver bs (next f)) _ b2 in
    let (driver, b4) = unless_accepted 3 (is_driver (driver_at bs g.start)) _ b3 in
    let (ns, a3, b5) = then_accepted (nodes_from max_length (max_nodes + 1) bs (f.size / 4) [] (next g)) _ b4 in
    let (whole, b6) = unless_accepted 6 (is_whole ns) _ b5 in
    let are : n.layers ≡ layers_first bs f = sym (ap (λ (m : Net). m.layers) (accept_injective b6)) in
    rw are (no_via-at (λ k. layer_first bs (f.start + 4 * k)) (λ k. refl) (from 0 (f.size / 4)) l)

-- A file with another first tag than 1 was refused, with 1 or 2: so what opens with tag 7 is new.
pub others-refused : (bs : List ℕ) → (number bs 0 1 ≡ layers_tag → ⊥) → (read_first bs ≡ refuse 1) ⊎ (read_first bs ≡ refuse 2)
unfolding read_first field field_at due_layers_first
others-refused bs other = go (leb 3 (length bs)) refl
  where
    go : (long : Bool) → leb 3 (length bs) ≡ long → (read_first bs ≡ refuse 1) ⊎ (read_first bs ≡ refuse 2)
    go true e = inr (rw (e, ne_eqb (number bs 0 1) layers_tag other) refl)
    go false e = inl (rw e refl)

-- And no other file is accepted anew.
pub only-vias : (bs : List ℕ) (n : Net) → read bs ≡ accept n → (read_first bs ≡ accept n) ⊎ (number bs 0 1 ≡ via_layers_tag)
only-vias bs n e = go (same_or via_layers_tag (number bs 0 1))
  where
    go : (number bs 0 1 ≡ via_layers_tag) ⊎ (number bs 0 1 ≡ via_layers_tag → ⊥) → (read_first bs ≡ accept n) ⊎ (number bs 0 1 ≡ via_layers_tag)
    go (inl via) = inr via
    go (inr old) = inl (sym (read-before bs old) ∙ e)

-- The net that is judged or planned is the one read.
judged-net : (a : Answer Net) (x : List ℕ) (n : Net) → judged_by a x ≡ accept n → a ≡ accept n
unfolding judged_by
judged-net a x n e =
    let (m, is, e1) = then_accepted a _ e in
    let (t7, e2) = unless_accepted 7 (eqb (length x) (stages m)) _ e1 in
    let (t8, e3) = unless_accepted 8 (are_layers m x) _ e2 in
    is ∙ e3

planned-net : (f : Net → List ℕ → ℤ) (a : Answer Net) (p q entries room : ℕ) (c : Choice) → planned_by f a p q entries room ≡ accept c → a ≡ accept c.net
unfolding planned_by
planned-net f a p q entries room c e =
    let (n, is, e1) = then_accepted a _ e in
    let (t9, e2) = unless_accepted 9 (leb p max_share && within 1 max_share q) _ e1 in
    let (t10, e3) = unless_accepted 10 (leb (stages n) room) _ e2 in
    let (t11, e4) = unless_accepted 11 (ltb 0 (length (meeting_by (f n) n))) _ e3 in
    let (t12, e5) = unless_accepted 12 (leb (needed_by (f n) n (grain_by (f n) n p q)) (columns n entries)) _ e4 in
    let (x, t, e6) = then_accepted (taken (chosen_by (f n) n (grain_by (f n) n p q))) _ e5 in
    is ∙ ap (λ (c : Choice). accept c.net) (accept_injective e6)

-- So judging and planning rest on the slacks of that net alone.
module _ (f g : Net → List ℕ → ℤ) (a : Answer Net) (same : (n : Net) → a ≡ accept n → f n ≡ g n) where
  judge_timed : (x : List ℕ) → judge_by f a x ≡ judge_by g a x
  judge_timed x = go (judged_by a x) (judged-net a x)
    where
      go : (b : Answer Net) → ((n : Net) → b ≡ accept n → a ≡ accept n) → judged_answer f x b ≡ judged_answer g x b
      go (accept n) h = ap (λ (s : List ℕ → ℤ). judged_answer (λ m. s) x (accept n)) (same n (h n refl))
      go (refuse r) h = refl

  planned_timed : (p q entries room : ℕ) → planned_by f a p q entries room ≡ planned_by g a p q entries room
  unfolding planned_by
  planned_timed p q entries room = go a same
    where
      go : (b : Answer Net) → ((n : Net) → b ≡ accept n → f n ≡ g n) → planned_by f b p q entries room ≡ planned_by g b p q entries room
      go (accept n) h = ap (λ (s : List ℕ → ℤ). planned_by (λ m. s) (accept n) p q entries room) (h n refl)
      go (refuse r) h = refl

  -- What rests on the choice and on the slacks of the net chosen for, by both.
  choice_timed : {B : Type 0} (h : (Net → List ℕ → ℤ) → Answer Choice → B) → ((c : Choice) → f c.net ≡ g c.net → h f (accept c) ≡ h g (accept c))
      → ((r : ℕ) → h f (refuse r) ≡ h g (refuse r)) → (p q entries room : ℕ) → h f (planned_by f a p q entries room) ≡ h g (planned_by g a p q entries room)
  choice_timed h each none p q entries room =
      ap (h f) (planned_timed p q entries room) ∙ go (planned_by g a p q entries room) (planned-net g a p q entries room)
    where
      go : (b : Answer Choice) → ((c : Choice) → b ≡ accept c → a ≡ accept c.net) → h f b ≡ h g b
      go (accept c) is = each c (same c.net (is c refl))
      go (refuse r) is = none r

  plan_timed : (p q : ℕ) (table : List ℤ) (buffer : List ℕ) → plan_by f a p q table buffer ≡ plan_by g a p q table buffer
  plan_timed p q table buffer =
      choice_timed (λ s. planned_answer s table buffer) (λ c e. ap (λ (s : List ℕ → ℤ). planned_answer (λ m. s) table buffer (accept c)) e) (λ r. refl) p q
      (length table) (length buffer)

  line_timed : line_by f (program_by f a) ≡ line_by g (program_by g a)
  line_timed = choice_timed line_by (λ c e. ap (λ (s : List ℕ → ℤ). line_by (λ m. s) (accept c)) e) (λ r. refl) 1 4 program_table program_room

-- A file is read, checked, judged and planned as before vias, by the program too, and a net that it holds has none.
pub record AsBefore (bs : List ℕ) : Type 0 where
  pub read_same : read bs ≡ read_first bs
  pub no_vias : (n : Net) → read bs ≡ accept n → NoVias n
  pub check-same : check bs ≡ check_first bs
  pub judge-same : (x : List ℕ) → judge bs x ≡ judge_first bs x
  pub plan-same : (p q : ℕ) (table : List ℤ) (buffer : List ℕ) → plan bs p q table buffer ≡ plan_first bs p q table buffer
  pub program_same : program_planned bs ≡ program_planned_first bs
  pub line_same : program_line bs ≡ program_line_first bs

-- So is every file that does not open with tag 7,
pub before-vias : (bs : List ℕ) → (number bs 0 1 ≡ via_layers_tag → ⊥) → AsBefore bs
before-vias bs old =
    let e = read-before bs old in
    record {
      read_same = e;
      no_vias = λ n a. first_no_vias bs n (sym e ∙ a);
      check-same = check-is bs ∙ ap check_by e;
      judge-same = λ x. judge-is bs x ∙ ap (λ (a : Answer Net). judge_by slack a x) e ∙ judge_timed slack slack_without (read_first bs) same x;
      plan-same = λ p q table buffer.
          plan-is bs p q table buffer ∙ ap (λ (a : Answer Net). plan_by slack a p q table buffer) e ∙ plan_timed slack slack_without
          (read_first bs) same p q table buffer;
      program_same = by-reading ∙ planned_timed slack slack_without (read_first bs) same 1 4 program_table program_room;
      line_same = line-is bs ∙ ap (line_by slack) by-reading ∙ line_timed slack slack_without (read_first bs) same;
    }
  where
    by-reading : program_planned bs ≡ program_by slack (read_first bs)
    by-reading = program_is bs ∙ ap (program_by slack) (read-before bs old)

    same : (n : Net) → read_first bs ≡ accept n → slack n ≡ slack_without n
    same n e = slack_without_lem n (first_no_vias bs n e)

-- and with it every file of the first edition.
pub first_edition : (bs : List ℕ) → number bs 0 1 ≡ layers_tag → AsBefore bs
first_edition bs first = before-vias bs (λ e. let z : ◌≡◌ {A = ℕ} 1 7 = sym first ∙ e in omega arith)

-- None of the nets of a block opens with tag 7.
abbrev pub NoneOfSecond : Answer (List (List ℕ)) → Type 0
NoneOfSecond a = (ns : List (List ℕ)) → a ≡ accept ns → (m : List ℕ) → Memᴰ m ns → number m 0 1 ≡ via_layers_tag → ⊥

-- Such a block is reported as before vias.
pub report-before : (bs : List ℕ) → NoneOfSecond (block bs) → report bs ≡ report_first bs
report-before bs old = report-is bs ∙ go (block bs) old
  where
    go : (a : Answer (List (List ℕ))) → NoneOfSecond a → report_by program_planned a ≡ report_by program_planned_first a
    go (accept ns) h = ap totals (map_same program_planned program_planned_first ns (λ m i. (before-vias m (h ns refl m i)).program_same))
    go (refuse r) h = refl
