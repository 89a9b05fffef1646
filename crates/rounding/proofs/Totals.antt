-- Loops over the stages: the rounded cost of a plan and the sum of what is taken off, stage by stage. Both are sums over numbers in order.
use mathlib.Core.Path.{◌≡◌, refl, sym, subst, ◌∙◌}
use mathlib.Core.List.{List, [], ◌∷◌, map}
use mathlib.Core.Logic.{◌⊎◌, inl, inr}
use Prim.Native.Nat.{ℕ, zero, suc, ◌+◌, ◌*◌, ◌-◌, ◌/◌, ◌^◌, ◌≤◌, ◌<◌}
use native.Mathlib.Omega.{arith}
use native.Mathlib.Nat.{div-le_self, zero-add}
use lib.ListN.{length, get_or}
use lib.Seq.{get_or-take}
use Rattle.laws.specs.Basic.{from, sum, lowest}
use Rattle.laws.specs.Booleans.{same_or}
use Rattle.laws.specs.Extremes.{lowest_le, lowest-same}
use Rattle.laws.specs.Lists.{map_same, from-mem, mem-from}
use Rattle.laws.specs.Passing.{least_up_to, least_up_to-is}
use Rattle.laws.specs.Sums.{sum-from}
use Rattle.rules.specs.Bytes.{max_layers, max_stages}
use Rattle.rules.specs.Tree.{on}
use Rattle.rules.specs.Grain.{max_exponent, rounded}
use Rattle.oracle.specs.Stages.{StageTree}
use Rattle.oracle.specs.Plans.{each_at, plans-mem}
use Rattle.oracle.specs.Value.{plan_rounded, MeetingPlan}
use Rattle.oracle.specs.Excess.{stage_least, excess-less}
use Rattle.slices.specs.Rows.{RowSet, row_kept}
use Rattle.slices.specs.Laid.{on_layer, cost_in_range}
use Rattle.rounding.specs.Clauses.{Costs, plan_in, OnLayerIn, CostRow, ExcessRowIn, ExcessIn, Excess}

-- The sum of f over the stages before i, no term of which is above the largest grain.
pub record Total (f : ℕ → ℕ) (stages total i : ℕ) : Type 0 where
  pub inside : i ≤ stages
  pub is : total ≡ sum (map f (from 0 i))
  pub most : total ≤ i * 2 ^ max_exponent

pub total-more : {f : ℕ → ℕ} {stages total i c : ℕ} → Total f stages total i → i < stages → c ≡ f i → c ≤ 2 ^ max_exponent → Total f stages (total + c) (i + 1)
total-more {f} {stages} {total} {i} {c} S h e m =
    let z : i + 1 ≡ suc i = omega arith in
    let f0 = rw (zero-add i) at (sum-from f 0 i) in
    record { inside = omega arith; is = rw z (omega (arith, S.is, f0)); most = omega (arith, S.most) }

pub total_end : {f : ℕ → ℕ} {stages total i : ℕ} → Total f stages total i → stages ≤ i → total ≡ sum (map f (from 0 stages))
total_end {f} {stages} {total} {i} S h = let e : stages ≡ i = omega (arith, S.inside) in rw e S.is

rounded-sum : (g : ℕ) (f : ℕ → ℕ) (xs : List ℕ) → rounded g (map f xs) ≡ sum (map (λ i. f i / g) xs)
rounded-sum g f [] = refl
rounded-sum g f (x ∷ xs) = omega (arith, rounded-sum g f xs)

-- What stage i costs under the plan in `plan`, rounded.
abbrev pub rounds : List ℕ → List ℕ → ℕ → ℕ → ℕ
rounds cost plan g i = on_layer cost i (get_or plan i 0) / g

module _ {T : StageTree} {cost : List ℕ} (plan : List ℕ) {stages : ℕ} (C : Costs T cost stages) (M : MeetingPlan T (plan_in stages plan)) where
  -- The layer of a stage in the plan.
  on-is : (i : ℕ) → i < stages → on (plan_in stages plan) i ≡ get_or plan i 0
  on-is i h = get_or-take stages plan i 0 h

  pub plan-layer : (i : ℕ) → i < stages → get_or plan i 0 < T.layers
  plan-layer i h =
      let (len, u) = plans-mem T.layers T.stages (plan_in stages plan) M.plan in
      let b = each_at T.layers (plan_in stages plan) i u (omega (arith, C.stages-are)) in
      omega (arith, on-is i h)

  pub on-layer : {g : ℕ} → 0 < g → (i : ℕ) → i < stages → OnLayerIn cost g i (get_or plan i 0)
  on-layer h i b =
      record {
        stage_in = omega (arith, C.few-stages, C.stages-are);
        layer_in_lem = omega (arith, plan-layer i b, C.few-layers);
        long = omega (arith, C.laid.cost-long, C.stages-are);
        some-grain = h;
      }

  pub rounds-most : (g : ℕ) {i c : ℕ} → i < stages → c ≡ rounds cost plan g i → c ≤ 2 ^ max_exponent
  rounds-most g {i} h e =
      let low : i < T.stages = omega (arith, C.stages-are) in
      omega (arith, e, div-le_self (on_layer cost i (get_or plan i 0)) g, cost_in_range C.laid i (get_or plan i 0) low (plan-layer i h))

  pub rounded-is : (k : ℕ) {g : ℕ} → g ≡ 2 ^ k → sum (map (rounds cost plan g) (from 0 stages)) ≡ plan_rounded T k (plan_in stages plan)
  rounded-is k e = rw e (sym (rounded-sum (2 ^ k) (λ i. T.cost i (on (plan_in stages plan) i)) (from 0 T.stages) ∙ rw (sym C.stages-are) (same)))
    where
      same : sum (map (λ i. T.cost i (on (plan_in stages plan) i) / 2 ^ k) (from 0 stages)) ≡ sum (map (rounds cost plan (2 ^ k)) (from 0 stages))
      same =
          let s = map_same (λ i. T.cost i (on (plan_in stages plan) i) / 2 ^ k) (rounds cost plan (2 ^ k)) (from 0 stages)
          (λ i m.
          let h : i < stages = omega (arith, from-mem 0 stages i m) in
          let low : i < T.stages = omega (arith, C.stages-are) in
          rw (on-is i h, C.laid.cost-at i (get_or plan i 0) low (plan-layer i h))) in
          rw s

-- The least of the layers before l.
pub record Least (f : ℕ → ℕ) (layers least l : ℕ) : Type 0 where
  pub inside : l ≤ layers
  pub is : least ≡ least_up_to (f 0) f l

pub least_end : {f : ℕ → ℕ} {layers least l : ℕ} → 0 < layers → Least f layers least l → layers ≤ l → least ≡ lowest f (from 0 layers)
least_end {layers = zero} h L m = absurd (omega arith)
least_end {f = f} {layers = suc n} {least = least} {l = l} h L m =
    let e : l ≡ suc n = omega (arith, L.inside) in
    omega (
      arith,
      subst (λ n. least ≡ least_up_to (f 0) f n) e L.is,
      least_up_to-is (f 0) f n,
      lowest_le f (from 0 (suc n)) (mem-from 0 (suc n) 0 (omega arith) (omega arith)),
    )

-- The least rounded cost of stage i, by the slice.
abbrev pub least_slice : List ℕ → ℕ → ℕ → ℕ → ℕ
least_slice cost layers g i = lowest (λ l. on_layer cost i l / g) (from 0 layers)

-- The rows before i are done: what is taken off is added up, and the rest stands in `slice`.
pub record TakenOff (cost : List ℕ) (stages layers g : ℕ) (before slice : List ℕ) (total i : ℕ) : Type 0 where
  pub sum_is : Total (least_slice cost layers g) stages total i
  pub long : length slice ≡ length before
  pub rows : (j l : ℕ) → j < i → l < layers → on_layer slice j l ≡ on_layer cost j l / g - least_slice cost layers g j

module _ {cost before : List ℕ} {stages layers g : ℕ} (I : ExcessIn cost stages layers g before) where
  pub cost-row : (i : ℕ) → i < stages → CostRow cost layers g i
  cost-row i h =
      let C = I.costs in
      record {
        stage_in = omega (arith, C.few-stages, C.stages-are);
        some-layer = omega (arith, C.some-layer, I.layers-are);
        few-layers = omega (arith, C.few-layers, I.layers-are);
        long = omega (arith, C.laid.cost-long, C.stages-are);
        some-grain = I.some-grain;
      }

  least-small : (i l : ℕ) → l < layers → least_slice cost layers g i ≤ on_layer cost i l / g
  least-small i l h = lowest_le (λ l. on_layer cost i l / g) (from 0 layers) (mem-from 0 layers l (omega arith) (omega arith))

  pub excess-row_in : {slice : List ℕ} {total i least : ℕ} → TakenOff cost stages layers g before slice total i → i < stages
      → least ≡ least_slice cost layers g i → ExcessRowIn cost layers g i least slice
  excess-row_in {i = i} W h e =
      record {
        row = cost-row i h;
        excess-row = record { row_in = (cost-row i h).stage_in; long = omega (arith, W.long, I.excess-long) };
        least_le = λ l b. omega (arith, e, least-small i l b);
      }

  pub least-most : {i least : ℕ} → i < stages → least ≡ least_slice cost layers g i → least ≤ 2 ^ max_exponent
  least-most {i} h e =
      let C = I.costs in
      let some : 0 < layers = (cost-row i h).some-layer in
      let low : i < I.tree.stages = omega (arith, C.stages-are) in
      omega (arith, e, least-small i 0 some, div-le_self (on_layer cost i 0) g, cost_in_range C.laid i 0 low C.some-layer)

  pub taken_more : {slice after : List ℕ} {total i least : ℕ} → TakenOff cost stages layers g before slice total i → i < stages
      → least ≡ least_slice cost layers g i
      → RowSet 0 max_layers slice after i layers (λ l. on_layer cost i l / g - least) → TakenOff cost stages layers g before after (total + least) (i + 1)
  taken_more {slice} {after} {total} {i} {least} W h e R = record {
    sum_is = total-more W.sum_is h e (least-most h e);
    long = R.long ∙ W.long;
    rows = λ j l b c. row j l b c (same_or i j);
  }
    where
      row : (j l : ℕ) → j < i + 1 → l < layers → (j ≡ i) ⊎ (j ≡ i → ⊥) → on_layer after j l ≡ on_layer cost j l / g - least_slice cost layers g j
      row j l b c (inl q) = rw q (R.set_to l c ∙ rw e)
      row j l b c (inr ne) = row_kept R j l (omega (arith, (cost-row i h).few-layers)) ne ∙ W.rows j l (omega arith) c

pub taken_end : {cost before slice : List ℕ} {stages layers g total i : ℕ} → max_stages * max_layers ≤ length before
    → TakenOff cost stages layers g before slice total i → stages ≤ i
    → (T : StageTree) (k : ℕ) → Costs T cost stages → layers ≡ T.layers → g ≡ 2 ^ k → Excess T k slice total
taken_end {cost} {before} {slice} {stages} {layers} {g} long W h T k C same e = record {
  base-is =
      let same = map_same (least_slice cost layers g) (stage_least T k) (from 0 stages) (λ i m. least-is i (omega (arith, from-mem 0 stages i m))) in
      total_end W.sum_is h ∙ rw (same, C.stages-are);
  laid = record {
    cost-long = omega (arith, W.long, C.few-stages);
    cost-at = λ i l a b.
        let i-in : i < stages = omega (arith, C.stages-are) in
        W.rows i l (omega arith) (omega arith) ∙ rw (least-is i i-in, C.laid.cost-at i l a b, e);
    cost-most = λ i l a b. omega (arith, excess-less T k i l, C.laid.cost-most i l a b);
  };
}
  where
    least-is : (i : ℕ) → i < stages → least_slice cost layers g i ≡ stage_least T k i
    least-is i a =
        lowest-same (λ l. on_layer cost i l / g) (λ l. T.cost i l / 2 ^ k) (from 0 layers)
        (λ l m. rw (C.laid.cost-at i l (omega (arith, C.stages-are)) (omega (arith, from-mem 0 layers l m)), e))
        ∙ rw same
