-- The totals over a block's nets (02, wish 2), as a walk over the nets adds them up: what one net more adds, and how large they can be.
use Rattle.std.specs.Prelude.{◌≡◌, refl, List, [], ◌∷◌, ◌++◌, map, ℕ, zero, suc, ◌+◌, ◌*◌, ◌≤◌, ◌<◌, eqb, length, get_or, set}
use Rattle.std.proofs.Common.{ap, sym, ◌∙◌, arith, zero-add, length-set, ext_get_or}
use Rattle.std.proofs.lemmas.List.{map-append, length-map}
use Rattle.laws.specs.Basic.{bit, from}
use Rattle.laws.specs.Lists.{length_from, from-mem, map_at, map_same, length_more, keep-more, keep_le, added}
use Rattle.rules.specs.declared.Report.{Report}
use Rattle.rules.specs.Bytes.{max_layers}
use Rattle.rules.specs.Timing.{cost}
use Rattle.rules.specs.Reading.{Answer, accept, refuse}
use Rattle.rules.specs.Planning.{Choice}
use Rattle.rules.specs.Program.{program_table, program_room, program_planned}
use Rattle.rules.specs.Block.{length_on, if_planned, over_planned, is_refused, refused_nets, net_numbers, totals}
use Rattle.facts.specs.Accepted.{Accepted, accepted}
use Rattle.facts.specs.Refusals.{Numbered}
use Rattle.facts.specs.Costs.{max_plan_cost, cost_in_lem}
use Rattle.facts.specs.Block.{max_wire, length-on_in}
use Rattle.demands.specs.Call.{planned-numbered, choice-settled}

-- Totals with one net more, for which planning answered this.
abbrev pub plus : Report → Answer Choice → Report
plus s (accept c) = record {
  refusal = 0;
  nets = s.nets + 1;
  planned = s.planned + 1;
  refused = s.refused;
  cost = s.cost + cost c.net c.plan;
  lengths = map (λ l. get_or s.lengths l 0 + length_on c.net c.plan l) (from 0 max_layers);
}
plus s (refuse r) = record {
  refusal = 0;
  nets = s.nets + 1;
  planned = s.planned;
  refused = set s.refused r (get_or s.refused r 0 + 1);
  cost = s.cost;
  lengths = s.lengths;
}

-- One net more in a sum over the planned nets, and in a count of the refused ones.
over-more : (f : Choice → ℕ) (xs : List (Answer Choice)) (a : Answer Choice) → over_planned f (xs ++ (a ∷ [])) ≡ over_planned f xs + if_planned f a
unfolding over_planned
over-more f [] a = omega arith
over-more f (x ∷ xs) a = omega (arith, over-more f xs a)

refused-more : (r : ℕ) (xs : List (Answer Choice)) (a : Answer Choice) → refused_nets r (xs ++ (a ∷ [])) ≡ refused_nets r xs + bit (is_refused r a)
unfolding refused_nets
refused-more r xs a = keep-more (is_refused r) xs a

-- Lists of m numbers: all entries with more added to each, and with 1 added to one.
each_more : (f g h : ℕ → ℕ) (m : ℕ) → ((l : ℕ) → f l ≡ g l + h l)
    → map f (from 0 m) ≡ map (λ l. get_or (map g (from 0 m)) l 0 + h l) (from 0 m)
each_more f g h m e =
    map_same f (λ l. get_or (map g (from 0 m)) l 0 + h l) (from 0 m) (λ l b.
    let inside : l < m = omega (arith, from-mem 0 m l b) in
    omega (arith, e l, map_at g 0 0 m l inside, ap g (zero-add l)))

one_more : (f g : ℕ → ℕ) (m r : ℕ) → r < m → ((i : ℕ) → f i ≡ g i + bit (eqb r i))
    → map f (from 0 m) ≡ set (map g (from 0 m)) r (get_or (map g (from 0 m)) r 0 + 1)
one_more f g m r h e = ext_get_or 0 (map f (from 0 m)) (set was r (get_or was r 0 + 1)) (long f ∙ sym (length-set was r (get_or was r 0 + 1) ∙ long g)) each
  where
    was : List ℕ
    was = map g (from 0 m)

    long : (k : ℕ → ℕ) → length (map k (from 0 m)) ≡ m
    long k = length-map (from 0 m) k ∙ length_from 0 m

    each : (i : ℕ) → i < length (map f (from 0 m)) → get_or (map f (from 0 m)) i 0 ≡ get_or (set was r (get_or was r 0 + 1)) i 0
    each i b =
        let c : i < m = omega (arith, long f) in
        let d : r < length was = omega (arith, long g) in
        omega (arith, map_at f 0 0 m i c, map_at g 0 0 m i c, ap f (zero-add i), ap g (zero-add i), e i, added was r i 1 d)

-- The totals over one net more.
totals-more : (xs : List (Answer Choice)) (a : Answer Choice) → Numbered 12 a → totals (xs ++ (a ∷ [])) ≡ plus (totals xs) a
unfolding totals
totals-more xs (accept c) N =
    let a : Answer Choice = accept c in
    let more : List (Answer Choice) = xs ++ (a ∷ []) in
    let refused : map (λ r. refused_nets r more) (from 0 net_numbers) ≡ map (λ r. refused_nets r xs) (from 0 net_numbers) =
    map_same (λ r. refused_nets r more) (λ r. refused_nets r xs) (from 0 net_numbers) (λ r m. omega (arith, refused-more r xs a)) in
    let on-layers = each_more (λ l. over_planned (λ c. length_on c.net c.plan l) more) (λ l. over_planned (λ c. length_on c.net c.plan l) xs)
    (λ l. length_on c.net c.plan l) max_layers (λ l. over-more (λ c. length_on c.net c.plan l) xs a) in
    cc (length_more xs a, over-more (λ c. 1) xs a, refused, over-more (λ c. cost c.net c.plan) xs a, on-layers)
totals-more xs (refuse r) N =
    let a : Answer Choice = refuse r in
    let more : List (Answer Choice) = xs ++ (a ∷ []) in
    let none : (f : Choice → ℕ) → over_planned f more ≡ over_planned f xs = λ f. omega (arith, over-more f xs a) in
    let refused = one_more (λ i. refused_nets i more) (λ i. refused_nets i xs) net_numbers r (omega (arith, N.low r refl)) (λ i. refused-more i xs a) in
    let on-layers : map (λ l. over_planned (λ c. length_on c.net c.plan l) more) (from 0 max_layers)
    ≡ map (λ l. over_planned (λ c. length_on c.net c.plan l) xs) (from 0 max_layers) =
    map_same (λ l. over_planned (λ c. length_on c.net c.plan l) more) (λ l. over_planned (λ c. length_on c.net c.plan l) xs) (from 0 max_layers)
    (λ l m. none (λ c. length_on c.net c.plan l)) in
    cc (length_more xs a, none (λ c. 1), refused, none (λ c. cost c.net c.plan), on-layers)

-- The same by the nets: one more, planned as 01's program does.
pub nets_more : (ns : List (List ℕ)) (bs : List ℕ)
    → totals (map program_planned (ns ++ (bs ∷ []))) ≡ plus (totals (map program_planned ns)) (program_planned bs)
nets_more ns bs =
    ap totals (map-append program_planned ns (bs ∷ [])) ∙
    totals-more (map program_planned ns) (program_planned bs) (planned-numbered bs 1 4 program_table program_room)

-- Totals over at most m nets: the size of each number, and of the lists.
pub record Small (m : ℕ) (s : Report) : Type 0 where
  pub few_nets : s.nets ≤ m
  pub few-planned : s.planned ≤ m
  pub few-refused : (r : ℕ) → get_or s.refused r 0 ≤ m
  pub refused-long : length s.refused ≡ net_numbers
  pub cost-low : s.cost ≤ m * max_plan_cost
  pub lengths_low : (l : ℕ) → get_or s.lengths l 0 ≤ m * max_wire
  pub lengths_long : length s.lengths ≡ max_layers

-- A net that was planned is one that reading accepts.
pub planned-accepted : (bs : List ℕ) {c : Choice} → program_planned bs ≡ accept c → Accepted c.net
planned-accepted bs {c} e = accepted bs c.net (choice-settled bs 1 4 program_table program_room e).holds

over-most : (f : Choice → ℕ) (most : ℕ) → ((bs : List ℕ) (c : Choice) → program_planned bs ≡ accept c → f c ≤ most)
    → (ns : List (List ℕ)) → over_planned f (map program_planned ns) ≤ length ns * most
unfolding over_planned
over-most f most h [] = omega arith
over-most f most h (bs ∷ ns) = omega (arith, one (program_planned bs) refl, over-most f most h ns)
  where
    one : (a : Answer Choice) → program_planned bs ≡ a → if_planned f a ≤ most
    one (accept c) e = h bs c e
    one (refuse r) e = omega arith

entries_in : (f : ℕ → ℕ) (most : ℕ) → ((i : ℕ) → f i ≤ most) → (xs : List ℕ) (k : ℕ) → get_or (map f xs) k 0 ≤ most
entries_in f most h [] k = omega arith
entries_in f most h (x ∷ xs) zero = h x
entries_in f most h (x ∷ xs) (suc k) = entries_in f most h xs k

-- The totals over at most m nets, each planned as 01's program does.
pub totals-small : (m : ℕ) (ns : List (List ℕ)) → length ns ≤ m → Small m (totals (map program_planned ns))
unfolding totals refused_nets
totals-small m ns few = record {
  few_nets = omega (arith, long);
  few-planned = omega (arith, over-most (λ c. 1) 1 (λ bs c e. omega arith) ns);
  few-refused = entries_in (λ r. refused_nets r (map program_planned ns)) m (λ r. omega (arith, long, keep_le (is_refused r) (map program_planned ns)))
      (from 0 net_numbers);
  refused-long = length-map (from 0 net_numbers) (λ r. refused_nets r (map program_planned ns)) ∙ length_from 0 net_numbers;
  cost-low = omega (arith, over-most (λ c. cost c.net c.plan) max_plan_cost (λ bs c e. cost_in_lem (planned-accepted bs e) c.plan) ns);
  lengths_low = entries_in (λ l. over_planned (λ c. length_on c.net c.plan l) (map program_planned ns)) (m * max_wire)
      (λ l. omega (arith, over-most (λ c. length_on c.net c.plan l) max_wire (λ bs c e. length-on_in (planned-accepted bs e) c.plan l) ns))
      (from 0 max_layers);
  lengths_long = length-map (from 0 max_layers) (λ l. over_planned (λ c. length_on c.net c.plan l) (map program_planned ns)) ∙ length_from 0 max_layers;
}
  where
    long : length (map program_planned ns) ≡ length ns
    long = length-map ns program_planned
