-- The plan read off the table: at each stage in number order, the first layer with which the part of the tree at and below it is charged the least.
-- It is the first plan of least charge in plan order. The budget is the least itself, so every stage must spend just the least for the time at which it
-- is reached, and those times are settled by stages that come before it in plan order.
use Rattle.std.specs.Prelude.{◌≡◌, refl, Bool, true, false, ℕ, zero, suc, ◌+◌, ◌-◌, ◌≤◌, ◌<◌, leb, ℤ, if◌then◌else◌}
use Rattle.std.proofs.Common.{ap, ◌∙◌, arith, leb-true, leb-false, le-leb}
use Rattle.std.proofs.Math.Path.{fun_ext}
use Rattle.std.proofs.Math.Option
use Rattle.std.proofs.Math.Option.{none, some, get_or, or_else}
use mathlib.Core.List.{List, [], ◌∷◌, map, Memᴰ}
use Rattle.std.proofs.lemmas.Bool.{lt-leb}
use Rattle.laws.specs.Basic.{from}
use Rattle.laws.specs.Booleans.{leb-same}
use Rattle.laws.specs.Lists.{mem-from, from-mem, head-keep, find, find-keep}
use Rattle.laws.specs.Extremes.{lowest_le, lowest-some}
use Rattle.laws.specs.First.{find_append, find-map, find_none, find-some}
use Rattle.rules.specs.Tree.{before, plans_of}
use Rattle.oracle.specs.Stages.{StageTree, WellFormed, reach}
use Rattle.oracle.specs.Plans.{plans-mem}
use Rattle.oracle.specs.Programme.{reached-self, pending_sum, pending_reach, plan_charge, least_charge, least_charge_le, least, least_on, least-is, least-exact}

-- The first in plan order that passes begins with the first layer that can be completed, and goes on with the first completion of that.
find-before : (test : List ℕ → Bool) (rs : List (List ℕ)) (ok : ℕ → Bool) (rest : ℕ → List ℕ) (ls : List ℕ)
    → ((l : ℕ) → Memᴰ l ls → find (λ r. test (l ∷ r)) rs ≡ (if ok l then some (rest l) else none))
    → find test (before ls rs) ≡ Option.map (λ l. l ∷ rest l) (find ok ls)
unfolding or_else
find-before test rs ok rest [] h = refl
find-before test rs ok rest (l ∷ ls) h =
    find_append test (map (λ r. l ∷ r) rs) (before ls rs)
    ∙ rw (find-map test (λ r. l ∷ r) rs, h l (Memᴰ.head refl), find-before test rs ok rest ls (λ j m. h j (Memᴰ.tail m))) (one (ok l))
  where
    one : (b : Bool) → or_else (Option.map (λ r. l ∷ r) (if b then some (rest l) else none)) (Option.map (λ l. l ∷ rest l) (find ok ls))
        ≡ Option.map (λ l. l ∷ rest l) (if b then some l else find ok ls)
    one true = refl
    one false = refl

module _ (T : StageTree) (charge : ℕ → ℕ → ℤ → ℕ) where
  -- With stage i on layer l, reached at t, the part at and below it is charged no more than the least.
  abbrev pub attains : ℕ → ℤ → ℕ → Bool
  attains i t l = leb (least_on T charge i l t) (least T charge i t)

  -- The first layer of stage i that does.
  abbrev pub first_layer : ℕ → ℤ → ℕ
  first_layer i t = get_or (find (attains i t) (from 0 T.layers)) 0

  -- The plan of n stages from i on that is read off, where `times` says when stages are reached.
  abbrev pub read_off : ℕ → ℕ → (ℕ → ℤ) → List ℕ
  read_off zero i times = []
  read_off (suc n) i times = first_layer i (times i) ∷ read_off n (suc i) (reach T i (first_layer i (times i)) times)

  module _ (W : WellFormed T) where
    -- Some layer attains the least.
    layer-found : (i : ℕ) (t : ℤ) → i < T.stages → find (attains i t) (from 0 T.layers) ≡ some (first_layer i t)
    layer-found i t h =
        let (l, m, e) = lowest-some (λ l. least_on T charge i l t) (from 0 T.layers) (mem-from 0 T.layers 0 (omega arith) (omega (arith, W.some-layer))) in
        find-some (attains i t) 0 (from 0 T.layers) m (le-leb (least_on T charge i l t) (least T charge i t) (omega (arith, least-is T charge i t h)))

    least-below : (i : ℕ) (t : ℤ) → i < T.stages → (l : ℕ) → Memᴰ l (from 0 T.layers) → least T charge i t ≤ least_on T charge i l t
    least-below i t h l m = omega (arith, least-is T charge i t h, lowest_le (λ l. least_on T charge i l t) (from 0 T.layers) m)

    -- The layer read is a layer, and the part at and below the stage is charged just the least with it.
    pub first-attains : (i : ℕ) (t : ℤ) → i < T.stages → (first_layer i t < T.layers) × (least_on T charge i (first_layer i t) t ≡ least T charge i t)
    first-attains i t h =
        let l = first_layer i t in
        let (m, a) = head-keep (attains i t) (from 0 T.layers) (find-keep (attains i t) (from 0 T.layers) ∙ layer-found i t h) in
        (omega (arith, from-mem 0 T.layers l m), omega (arith, leb-true (least_on T charge i l t) (least T charge i t) a, least-below i t h l m))

    module _ (n i : ℕ) (times : ℕ → ℤ) (e : i + suc n ≡ T.stages) where
      -- The least charge of the stages from i on, by that of stage i and what else is pending.
      split : least_charge T charge (suc n) i times ≡ least T charge i (times i) + pending_sum T (least T charge) i times (from (suc i) n)
      split = least-exact T charge W (suc n) i times e ∙ rw (reached-self T W i)

      split-on : (l : ℕ) → charge i l (times i) + least_charge T charge n (suc i) (reach T i l times)
          ≡ least_on T charge i l (times i) + pending_sum T (least T charge) i times (from (suc i) n)
      split-on l =
          let same : T.stages - suc i ≡ n = omega arith in
          rw same (omega (arith, least-exact T charge W n (suc i) (reach T i l times) (omega arith), pending_reach T (least T charge) i l times i n))

      -- While the plan is read: what is left to pay bounds what the stage at hand needs, and its charge is taken off.
      pub read-least : least T charge i (times i) ≤ least_charge T charge (suc n) i times
      read-least = omega (arith, split)

      pub read_step : charge i (first_layer i (times i)) (times i) + least_charge T charge n (suc i) (reach T i (first_layer i (times i)) times)
          ≡ least_charge T charge (suc n) i times
      read_step = omega (arith, split, split-on (first_layer i (times i)), first-attains i (times i) (omega arith))

      -- The first completion of layer l: the first of least charge, if l attains the least, and none if not.
      complete : (l : ℕ) → Memᴰ l (from 0 T.layers) → (rest : List ℕ)
          → find (λ ls. leb (plan_charge T charge (suc i) (reach T i l times) ls) (least_charge T charge n (suc i) (reach T i l times))) (plans_of T.layers n)
          ≡ some rest
          → find (λ ls. leb (plan_charge T charge i times (l ∷ ls)) (least_charge T charge (suc n) i times)) (plans_of T.layers n)
          ≡ (if attains i (times i) l then some rest else none)
      complete l m rest r = go (attains i (times i) l) refl
        where
          c : ℕ
          c = charge i l (times i)

          own : List ℕ → ℕ
          own ls = plan_charge T charge (suc i) (reach T i l times) ls

          all : ℕ
          all = least_charge T charge (suc n) i times

          later : ℕ
          later = least_charge T charge n (suc i) (reach T i l times)

          go : (b : Bool) → attains i (times i) l ≡ b → find (λ ls. leb (c + own ls) all) (plans_of T.layers n) ≡ (if b then some rest else none)
          go true a =
              let k = leb-true (least_on T charge i l (times i)) (least T charge i (times i)) a in
              let same : c + later ≡ all = omega (arith, split, split-on l, least-below i (times i) (omega arith) l m) in
              ap (λ test. find test (plans_of T.layers n)) (fun_ext (λ ls. leb-same (c + own ls) all (own ls) later (omega arith) (omega arith))) ∙ r
          go false a = find_none (λ ls. leb (c + own ls) all) (plans_of T.layers n) (λ ls d.
              let (len, u) = plans-mem T.layers n ls d in
              let o : later ≤ own ls = rw len at (least_charge_le T charge (suc i) (reach T i l times) ls u) in
              lt-leb (c + own ls) all (omega (arith, split, split-on l, leb-false (least_on T charge i l (times i)) (least T charge i (times i)) a)))

    -- The plan read off is the first of least charge.
    pub read_first : (n i : ℕ) (times : ℕ → ℤ) → i + n ≡ T.stages
        → find (λ ls. leb (plan_charge T charge i times ls) (least_charge T charge n i times)) (plans_of T.layers n) ≡ some (read_off n i times)
    read_first zero i times e = refl
    read_first (suc n) i times e =
        find-before (λ ls. leb (plan_charge T charge i times ls) (least_charge T charge (suc n) i times)) (plans_of T.layers n) (attains i (times i))
        (λ l. read_off n (suc i) (reach T i l times)) (from 0 T.layers)
        (λ l m. complete n i times e l m (read_off n (suc i) (reach T i l times)) (read_first n (suc i) (reach T i l times) (omega arith)))
        ∙ ap (Option.map (λ l. l ∷ read_off n (suc i) (reach T i l times))) (layer-found i (times i) (omega arith))
