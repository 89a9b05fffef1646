-- What a report says in words (02, wish 2), for every input: each edge of a planned net is on one layer, so the lengths over layers add up to the wire of the
-- planned nets; each net is planned or refused with one of the numbers counted; and demand 3 holds for each planned net, so also for their sum.
use Rattle.std.specs.Prelude.{◌≡◌, Bool, true, false, ℕ, ◌+◌, ◌*◌, ◌<◌, ◌≤◌, length, if◌then◌else◌}
use Rattle.std.proofs.Math.Path.{refl}
use Rattle.std.proofs.Common.{ap, ◌∙◌}
use mathlib.Core.List.{List, [], ◌∷◌, map, Memᴰ}
use native.Mathlib.Omega.{arith}
use Rattle.std.proofs.lemmas.List.{length-map}
use Rattle.laws.specs.Basic.{from, sum, keep}
use Rattle.laws.specs.Lists.{from_low, from-mem, map_same}
use Rattle.laws.specs.Sums.{sum-none, sum_add, sum_one, sum-by_class}
use Rattle.rules.specs.Tree.{Net, at, edges, stage_of, on, is_plan}
use Rattle.rules.specs.Bytes.{max_layers}
use Rattle.rules.specs.Timing.{meets, cost}
use Rattle.rules.specs.Grain.{grain_exponent}
use Rattle.rules.specs.Reading.{Answer, accept, refuse}
use Rattle.rules.specs.Planning.{Choice, Plannable}
use Rattle.rules.specs.Program.{program_table, program_room, program_planned}
use Rattle.rules.specs.Block.{block, length_on, wire, if_planned, over_planned, is_refused, refused_nets, net_numbers, totals, no_totals, report, over_block}
use Rattle.rules.specs.Block.{BlockPromise}
use Rattle.facts.specs.Accepted.{Accepted}
use Rattle.facts.specs.Refusals.{Numbered}
use Rattle.facts.specs.Stages.{stage-below}
use Rattle.demands.specs.Plans.{plan-on-layer}
use Rattle.demands.specs.Demand2.{ChosenPlan, chosen_is}
use Rattle.demands.specs.Demand3.{near-cheapest}
use Rattle.demands.specs.Call.{planned-numbered, choice-settled}
use Rattle.demands.specs.Totals.{planned-accepted}

-- A net that was planned has the plan that 01 chooses at share 1/4.
planned-chosen : (bs : List ℕ) (c : Choice) → program_planned bs ≡ accept c → ChosenPlan c.net (grain_exponent c.net 1 4) c.plan
planned-chosen bs c e = chosen_is c.net (grain_exponent c.net 1 4) c.plan (choice-settled bs 1 4 program_table program_room e).chosen-here

-- The wire of a net is that on its layers: every edge is on one of them, that of its stage.
wire-by-layer : {n : Net} → Accepted n → (x : List ℕ) → is_plan n x ≡ true → sum (map (length_on n x) (from 0 max_layers)) ≡ wire n
unfolding length_on wire edges
wire-by-layer {n} A x p = sum-by_class (λ l j. (at n j).len) (λ j. on x (stage_of n j)) max_layers (from 1 (length n.nodes)) layered
  where
    layered : (j : ℕ) → Memᴰ j (from 1 (length n.nodes)) → on x (stage_of n j) < max_layers
    layered j m =
        let t = stage-below A j (from_low 1 (length n.nodes) j m) (omega (arith, from-mem 1 (length n.nodes) j m)) in
        omega (arith, plan-on-layer n x p (stage_of n j) t, A.few-layers)

planned-wire : (bs : List ℕ) (c : Choice) → program_planned bs ≡ accept c → sum (map (length_on c.net c.plan) (from 0 max_layers)) ≡ wire c.net
planned-wire bs c e = wire-by-layer (planned-accepted bs e) c.plan (planned-chosen bs c e).is-plan

-- If for each planned net f adds up to g over the numbers ls, the sums of f over the planned nets add up to that of g.
over-numbers : (f : ℕ → Choice → ℕ) (g : Choice → ℕ) (ls : List ℕ)
    → ((bs : List ℕ) (c : Choice) → program_planned bs ≡ accept c → sum (map (λ l. f l c) ls) ≡ g c)
    → (ns : List (List ℕ)) → sum (map (λ l. over_planned (f l) (map program_planned ns)) ls) ≡ over_planned g (map program_planned ns)
unfolding over_planned
over-numbers f g ls h [] = sum-none (λ l. 0) ls (λ l m. refl)
over-numbers f g ls h (bs ∷ ns) =
    let rest = over-numbers f g ls h ns in
    sum_add (λ l. if_planned (f l) (program_planned bs)) (λ l. over_planned (f l) (map program_planned ns)) ls ∙ omega (arith, one (program_planned bs) refl)
  where
    one : (a : Answer Choice) → program_planned bs ≡ a → sum (map (λ l. if_planned (f l) a) ls) ≡ if_planned g a
    one (accept c) e = h bs c e
    one (refuse r) e = sum-none (λ l. 0) ls (λ l m. refl)

-- The first net in the count of those refused with r.
refused-first : (r : ℕ) (a : Answer Choice) (xs : List (Answer Choice)) → refused_nets r (a ∷ xs) ≡ (if is_refused r a then 1 else 0) + refused_nets r xs
unfolding refused_nets
refused-first r a xs = go (is_refused r a)
  where
    go : (b : Bool) → length (if b then (a ∷ keep (is_refused r) xs) else keep (is_refused r) xs) ≡ (if b then 1 else 0) + length (keep (is_refused r) xs)
    go true = omega arith
    go false = omega arith

-- A net is planned or refused with one number that is counted.
each-once : (a : Answer Choice) → Numbered 12 a → if_planned (λ c. 1) a + sum (map (λ r. if is_refused r a then 1 else 0) (from 0 net_numbers)) ≡ 1
each-once (accept c) N = omega (arith, sum-none (λ r. 0) (from 0 net_numbers) (λ r m. refl))
each-once (refuse s) N = omega (arith, sum_one (λ r. 1) s 0 net_numbers (omega arith) (omega (arith, N.low s refl)))

-- So all nets are, where each is counted once over the numbers ls.
nets_once : (ls : List ℕ)
    → ((bs : List ℕ) → if_planned (λ c. 1) (program_planned bs) + sum (map (λ r. if is_refused r (program_planned bs) then 1 else 0) ls) ≡ 1)
    → (ns : List (List ℕ)) → length ns ≡ over_planned (λ c. 1) (map program_planned ns) + sum (map (λ r. refused_nets r (map program_planned ns)) ls)
unfolding over_planned refused_nets
nets_once ls once [] = omega (arith, sum-none (λ r. refused_nets r []) ls (λ r m. refl))
nets_once ls once (bs ∷ ns) =
    let xs = map program_planned ns in
    let a = program_planned bs in
    let first = map_same (λ r. refused_nets r (a ∷ xs)) (λ r. (if is_refused r a then 1 else 0) + refused_nets r xs) ls (λ r m. refused-first r a xs) in
    let both = sum_add (λ r. if is_refused r a then 1 else 0) (λ r. refused_nets r xs) ls in
    omega (arith, nets_once ls once ns, once bs, ap sum first, both)

-- Any choice of plans that meet timing, one for each net that has one.
module _ (x : Net → List ℕ) (good : (n : Net) → Plannable n → (is_plan n (x n) ≡ true) × (meets n (x n) ≡ true)) where
  -- Demand 3 for a planned net: 4 × cost is at most 5 × the cost of that plan.
  planned-near : (bs : List ℕ) (c : Choice) → program_planned bs ≡ accept c → 4 * cost c.net c.plan ≤ 5 * cost c.net (x c.net)
  planned-near bs c e =
      let C = planned-chosen bs c e in
      let (plan, met) = good c.net (c.plan, C.is-plan, C.meets_timing_lem) in
      near-cheapest (planned-accepted bs e) 1 4 c.plan (choice-settled bs 1 4 program_table program_room e).chosen-here (x c.net) plan met

  -- And for all of them.
  over-near : (ns : List (List ℕ))
      → 4 * over_planned (λ c. cost c.net c.plan) (map program_planned ns) ≤ 5 * over_planned (λ c. cost c.net (x c.net)) (map program_planned ns)
  unfolding over_planned
  over-near [] = omega arith
  over-near (bs ∷ ns) = omega (arith, one (program_planned bs) refl, over-near ns)
    where
      one : (a : Answer Choice) → program_planned bs ≡ a
          → 4 * if_planned (λ c. cost c.net c.plan) a ≤ 5 * if_planned (λ c. cost c.net (x c.net)) a
      one (accept c) e = planned-near bs c e
      one (refuse r) e = omega arith

-- What a report says in words.
pub block_promise : (bs : List ℕ) → BlockPromise bs (report bs)
unfolding report over_block totals no_totals
block_promise bs = go (block bs) refl
  where
    go : (a : Answer (List (List ℕ))) → block bs ≡ a → BlockPromise bs (report bs)
    go (accept ns) e = record {
      wire-whole = rw (e, report, over_block) (over-numbers (λ l c. length_on c.net c.plan l) (λ c. wire c.net) (from 0 max_layers) planned-wire ns);
      nets_whole = rw (e, report)
          (length-map ns program_planned ∙
          nets_once (from 0 net_numbers) (λ bs. each-once (program_planned bs) (planned-numbered bs 1 4 program_table program_room)) ns);
      near = λ x good. rw (e, report, over_block) (over-near x good ns);
    }
    go (refuse r) e = record {
      wire-whole = rw (e, report, over_block) refl;
      nets_whole = rw (e, report) refl;
      near = λ x good. rw (e, report, over_block) (omega arith);
    }
