-- The dynamic programme is exact: the least charge of all plans is what the recursion over the stages gives (source 001, section 4.2.1).
-- No plan is put together from plans of the branches. The stages take their layers in number order, each passes its time on to the stages that it
-- drives, and what is left to pay is at every moment the sum of the least charges of the stages that are reached and have no layer yet.
use Rattle.std.specs.Prelude.{◌≡◌, refl, Bool, true, false, ltb, eqb, length, ℤ}
use Rattle.std.proofs.Math.Path.{ap, fun_ext}
use Rattle.std.proofs.Common.{◌∙◌, arith, eqb-true, ltb-true, ltb-false, lt-ltb, le-ltb}
use mathlib.Core.List.{List, [], ◌∷◌, map}
use Prim.Native.Nat.{ℕ, zero, suc, ◌+◌, ◌-◌, ◌≤◌, ◌<◌}
use Rattle.std.proofs.lemmas.Bool.{eqb-false}
use Rattle.laws.specs.Basic.{from, sum, keep, lowest}
use Rattle.laws.specs.Lists.{mem-from, from-mem, map_same, some-from}
use Rattle.laws.specs.Extremes.{lowest_le, lowest-some, lowest-plus}
use Rattle.oracle.specs.Stages.{StageTree, WellFormed, drives_stage, driven_by, arrive, reach, driven-mem}
use Rattle.oracle.specs.Plans.{EachBelow}

module _ (T : StageTree) where
  -- Stage j is reached by the stages before i: it is stage 0, or the stage that drives it stands before stage i.
  abbrev pub is_reached : ℕ → ℕ → Bool
  is_reached i zero = true
  is_reached i (suc j) = ltb (T.driver (suc j)) i

  -- Every stage is reached by the stages before it.
  pub reached-self : WellFormed T → (i : ℕ) → is_reached i i ≡ true
  reached-self W zero = refl
  reached-self W (suc i) = lt-ltb (T.driver (suc i)) (suc i) (omega (arith, W.lower i))

  -- For a function of stage and time: its sum over those of the stages js that stage i drives, i on layer l and reached at t, ..
  abbrev pub driven_sum : (ℕ → ℤ → ℕ) → ℕ → ℕ → ℤ → List ℕ → ℕ
  driven_sum f i l t js = sum (map (λ j. f j (arrive T j l t)) (keep (drives_stage T i) js))

  -- .. and over those that the stages before i have reached.
  abbrev pub pending_sum : (ℕ → ℤ → ℕ) → ℕ → (ℕ → ℤ) → List ℕ → ℕ
  pending_sum f i times js = sum (map (λ j. f j (times j)) (keep (is_reached i) js))

  -- Once stage i has its layer, what is pending grows by the stages that it drives.
  pub pending_reach : (f : ℕ → ℤ → ℕ) (i l : ℕ) (times : ℕ → ℤ) (j n : ℕ)
      → pending_sum f (suc i) (reach T i l times) (from (suc j) n) ≡ pending_sum f i times (from (suc j) n) + driven_sum f i l (times i) (from (suc j) n)
  pending_reach f i l times j zero = refl
  pending_reach f i l times j (suc n) = go (eqb d i) (ltb d i) refl refl (pending_reach f i l times (suc j) n)
    where
      d : ℕ
      d = T.driver (suc j)

      Grows : List ℕ → Type 0
      Grows js = pending_sum f (suc i) (reach T i l times) js ≡ pending_sum f i times js + driven_sum f i l (times i) js

      go : (a b : Bool) → eqb d i ≡ a → ltb d i ≡ b → Grows (from (suc (suc j)) n) → Grows (from (suc j) (suc n))
      go true b e g r = rw (e, lt-ltb d (suc i) (omega (arith, eqb-true d i e)), le-ltb d i (omega (arith, eqb-true d i e))) (rw e (omega arith))
      go false true e g r = rw (e, g, lt-ltb d (suc i) (omega (arith, ltb-true d i g))) (rw e (omega arith))
      go false false e g r = rw (e, g, le-ltb d (suc i) (omega (arith, ltb-false d i g, eqb-false d i e))) (omega arith)

  pending_none : (f : ℕ → ℤ → ℕ) (times : ℕ → ℤ) (j n : ℕ) → pending_sum f 0 times (from (suc j) n) ≡ 0
  pending_none f times j zero = refl
  pending_none f times j (suc n) = rw (le-ltb (T.driver (suc j)) 0 (omega arith)) (pending_none f times (suc j) n)

  -- At the start stage 0 alone is reached.
  pub pending_first : (f : ℕ → ℤ → ℕ) (times : ℕ → ℤ) (n : ℕ) → 0 < n → pending_sum f 0 times (from 0 n) ≡ f 0 (times 0)
  pending_first f times zero h = absurd (omega arith)
  pending_first f times (suc n) h = omega (arith, pending_none f times 0 n)

-- charge i l t: what stage i on layer l is charged if it is reached at t.
module _ (T : StageTree) (charge : ℕ → ℕ → ℤ → ℕ) where
  -- The charge of a plan of the stages from i on, which are reached at `times`.
  abbrev pub plan_charge : ℕ → (ℕ → ℤ) → List ℕ → ℕ
  plan_charge i times [] = 0
  plan_charge i times (l ∷ ls) = charge i l (times i) + plan_charge (suc i) (reach T i l times) ls

  -- The least charge of n stages from i on, by trying all their plans.
  abbrev pub least_charge : ℕ → ℕ → (ℕ → ℤ) → ℕ
  least_charge zero i times = 0
  least_charge (suc n) i times = lowest (λ l. charge i l (times i) + least_charge n (suc i) (reach T i l times)) (from 0 T.layers)

  -- It is at most the charge of each plan, and some plan's.
  pub least_charge_le : (i : ℕ) (times : ℕ → ℤ) (ls : List ℕ) → EachBelow T.layers ls → least_charge (length ls) i times ≤ plan_charge i times ls
  least_charge_le i times [] u = omega arith
  least_charge_le i times (l ∷ ls) (h, u) =
      let f : ℕ → ℕ = λ l. charge i l (times i) + least_charge (length ls) (suc i) (reach T i l times) in
      omega (arith, lowest_le f (from 0 T.layers) (mem-from 0 T.layers l (omega arith) (omega arith)), least_charge_le (suc i) (reach T i l times) ls u)

  pub least_charge-at : 0 < T.layers → (n i : ℕ) (times : ℕ → ℤ)
      → (ls : List ℕ) × (length ls ≡ n) × EachBelow T.layers ls × (plan_charge i times ls ≡ least_charge n i times)
  least_charge-at some zero i times = ([], refl, tt, refl)
  least_charge-at some (suc n) i times =
      let f : ℕ → ℕ = λ l. charge i l (times i) + least_charge n (suc i) (reach T i l times) in
      let (l, m, e) = lowest-some f (from 0 T.layers) (mem-from 0 T.layers 0 (omega arith) (omega arith)) in
      let (ls, len, u, g) = least_charge-at some n (suc i) (reach T i l times) in
      (l ∷ ls, ap suc len, (omega (arith, from-mem 0 T.layers l m), u), ap (λ c. charge i l (times i) + c) g ∙ e)

  -- The least charge of the part of the tree at and below stage i, which is reached at t; n bounds the stages on the way, and s - i is enough, for a
  -- stage drives stages of higher number.
  unfoldable pub least_from : ℕ → ℕ → ℤ → ℕ
  least_from zero i t = 0
  least_from (suc n) i t = lowest (λ l. charge i l t + sum (map (λ j. least_from n j (arrive T j l t)) (driven_by T i))) (from 0 T.layers)

  -- The least charge at and below stage i, reached at t: s stages are on the way at most.
  unfoldable pub least : ℕ → ℤ → ℕ
  least i t = least_from T.stages i t

  -- The same with stage i on layer l: its own charge, and the least charges of the stages that it drives. Branches add.
  abbrev pub least_on : ℕ → ℕ → ℤ → ℕ
  least_on i l t = charge i l t + sum (map (λ j. least j (arrive T j l t)) (driven_by T i))

  enough : (n m i : ℕ) (t : ℤ) → i < T.stages → T.stages ≤ n + i → T.stages ≤ m + i → least_from n i t ≡ least_from m i t
  unfolding least_from
  enough zero m i t h a b = absurd (omega arith)
  enough (suc n) zero i t h a b = absurd (omega arith)
  enough (suc n) (suc m) i t h a b = ap (λ f. lowest f (from 0 T.layers)) (fun_ext (λ l. ap (λ (js : List ℕ). charge i l t + sum js)
      (map_same (λ j. least_from n j (arrive T j l t)) (λ j. least_from m j (arrive T j l t)) (driven_by T i)
      (λ j d. let (u, v, e) = driven-mem T i j h d in enough n m j (arrive T j l t) v (omega arith) (omega arith)))))

  -- The recursion: the least over the layers of stage i.
  pub least-is : (i : ℕ) (t : ℤ) → i < T.stages → least i t ≡ lowest (λ l. least_on i l t) (from 0 T.layers)
  unfolding least least_from
  least-is i t h = enough T.stages (suc T.stages) i t h (omega arith) (omega arith)

  module _ (W : WellFormed T) where
    -- The least over all plans of the stages from i on is what the stages that are reached have still to pay.
    pub least-exact : (n i : ℕ) (times : ℕ → ℤ) → i + n ≡ T.stages → least_charge n i times ≡ pending_sum T least i times (from i n)
    least-exact zero i times e = refl
    least-exact (suc n) i times e =
        let h = pending_sum T least i times (from (suc i) n) in
        let f : ℕ → ℕ = λ l. least_on i l (times i) in
        let same : T.stages - suc i ≡ n = omega arith in
        let a : (l : ℕ) → charge i l (times i) + least_charge n (suc i) (reach T i l times) ≡ h + f l =
        λ l. rw same (omega (arith, least-exact n (suc i) (reach T i l times) (omega arith), pending_reach T least i l times i n)) in
        let b = lowest-plus h f (from 0 T.layers) (some-from 0 T.layers W.some-layer) in
        rw (reached-self T W i) (ap (λ g. lowest g (from 0 T.layers)) (fun_ext a) ∙ b ∙ omega (arith, least-is i (times i) (omega arith)))

    -- So the least charge of all plans is that of stage 0, at the time at which it is reached.
    pub least_of_all : (times : ℕ → ℤ) → least_charge T.stages 0 times ≡ least 0 (times 0)
    least_of_all times = least-exact T.stages 0 times (omega arith) ∙ pending_first T least times T.stages W.some-stage
