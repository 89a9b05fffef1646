-- A tree of stages by plain numbers: all that the search knows of a net. How a net gives these numbers is no matter here.
-- In this crate i and j name stages, l a layer, x a plan (a layer for each stage), t a time at which a stage's gate input is reached, w a budget or
-- column, k the exponent of the grain 2^k.
use Rattle.std.specs.Prelude.{◌≡◌, Bool, ◌⊎◌, ℕ, suc, ◌-◌, ◌≤◌, ◌<◌, eqb, ℤ, pos, ◌+ℤ◌, if◌then◌else◌}
use Rattle.std.proofs.Common.{inr, arith, eqb-true, eq-eqb}
use mathlib.Core.List.{List, map, Memᴰ}
use Rattle.laws.specs.Basic.{from, keep}
use Rattle.laws.specs.Lists.{mem-from, from-mem, from_low, mem-keep, keep-mem, some-mem, Some}
use Rattle.rules.specs.Tree.{on, plans_of}

-- The numbers of a tree. The delay to a stage is that from the gate input of the stage that drives it, by gate and wire, to its own gate input; it
-- rests on the layer of the driving stage only. A limit of a stage is a sink's required time less the delay to it from the stage's gate input.
pub record StageTree : Type 0 where
  -- how many stages and layers there are
  pub stages : ℕ
  pub layers : ℕ
  -- the number of the stage that drives stage j (it is not asked of stage 0, whose root is the net's driver)
  pub driver : ℕ → ℕ
  -- the delay to stage j, the stage that drives it on layer l
  pub delay : ℕ → ℕ → ℕ
  -- the limits that its own sinks set stage i on layer l
  pub limits : ℕ → ℕ → List ℤ
  -- the cost of stage i on layer l
  pub cost : ℕ → ℕ → ℕ
  -- the arrival time at the gate input of stage 0
  pub arrival : ℤ

module _ (T : StageTree) where
  -- Stage i drives stage j (for j above 0).
  abbrev pub drives_stage : ℕ → ℕ → Bool
  drives_stage i j = eqb (T.driver j) i

  -- The stages that stage i drives: they have higher numbers.
  abbrev pub driven_by : ℕ → List ℕ
  driven_by i = keep (drives_stage i) (from (suc i) (T.stages - suc i))

  -- When stage j is reached, if its driving stage is reached at t and is on layer l.
  abbrev pub arrive : ℕ → ℕ → ℤ → ℤ
  arrive j l t = t +ℤ pos (T.delay j l)

  -- The times at which the stages are reached, once stage i is on layer l: it passes its own on to those that it drives.
  abbrev pub reach : ℕ → ℕ → (ℕ → ℤ) → ℕ → ℤ
  reach i l times j = if drives_stage i j then arrive j l (times i) else times j

  -- The plans in plan order (01, The tree).
  abbrev pub tree_plans : List (List ℕ)
  tree_plans = plans_of T.layers T.stages

  -- The cost of each stage under plan x.
  abbrev pub plan_costs : List ℕ → List ℕ
  plan_costs x = map (λ i. T.cost i (on x i)) (from 0 T.stages)

  -- Stage i on layer l has a terminal: a sink of its own, or a stage that it drives.
  abbrev pub HasTerminal : ℕ → ℕ → Type 0
  HasTerminal i l = Some (T.limits i l) ⊎ Some (driven_by i)

  -- What makes the numbers a tree: there are stages and layers, a stage is driven by one of lower number, and every stage has a terminal. (Beyond the last
  -- stage `driver` is not used, and must only be lower too.)
  pub record WellFormed : Type 0 where
    pub some-stage : 0 < T.stages
    pub some-layer : 0 < T.layers
    pub lower : (j : ℕ) → T.driver (suc j) ≤ j
    pub ends : (i l : ℕ) → i < T.stages → l < T.layers → HasTerminal i l

  -- The members of `driven_by`.
  pub mem-driven : (i j : ℕ) → i < j → j < T.stages → T.driver j ≡ i → Memᴰ j (driven_by i)
  mem-driven i j a b e =
      mem-keep (drives_stage i) (from (suc i) (T.stages - suc i)) (mem-from (suc i) (T.stages - suc i) j a (omega arith)) (eq-eqb (T.driver j) i e)

  pub driven-mem : (i j : ℕ) → i < T.stages → Memᴰ j (driven_by i) → (i < j) × (j < T.stages) × (T.driver j ≡ i)
  driven-mem i j h m =
      let (a, t) = keep-mem (drives_stage i) (from (suc i) (T.stages - suc i)) m in
      (from_low (suc i) (T.stages - suc i) j a, omega (arith, from-mem (suc i) (T.stages - suc i) j a), eqb-true (T.driver j) i t)

  -- A stage that it drives is a terminal of stage i.
  pub driven_terminal : (i j l : ℕ) → i < j → j < T.stages → T.driver j ≡ i → HasTerminal i l
  driven_terminal i j l a b e = inr (some-mem (driven_by i) (mem-driven i j a b e))
