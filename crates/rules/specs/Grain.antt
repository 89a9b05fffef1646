-- 01, 'Rounded cost and the grain': rounded cost, V(k), the grain, the plan chosen, the columns; and the floor (02, wish 6).
-- Rounding costs down to a grain and searching by rounded cost: source 000, section IV.B; source 001, section 5.
use Rattle.std.specs.Prelude.{Bool, ◌&&◌, ℕ, ◌+◌, ◌*◌, ◌/◌, ◌-◌, ◌^◌, leb, eqb}
use Rattle.std.proofs.Math.Option.{Option}
use mathlib.Core.List.{List, [], ◌∷◌, head?}
use Rattle.laws.specs.Basic.{keep, lowest, largest}
use Rattle.rules.specs.Tree.{Net, stages, plans}
use Rattle.rules.specs.Timing.{meets, stage_costs}

-- k runs from 0 to 28.
abbrev pub max_exponent : ℕ
max_exponent = 28

-- The sum of costs, each divided by g and rounded down.
abbrev pub rounded : ℕ → List ℕ → ℕ
rounded g [] = 0
rounded g (c ∷ cs) = c / g + rounded g cs

-- A plan's rounded cost: the sum over stages of the stage's cost divided by g = 2^k, rounded down (01; source 000, section IV.B).
unfoldable pub rounded_cost : Net → ℕ → List ℕ → ℕ
rounded_cost n k x = rounded (2 ^ k) (stage_costs n x)

-- The plans of the net that meet timing, in plan order.
unfoldable pub meeting_plans : Net → List (List ℕ)
meeting_plans n = keep (meets n) (plans n)

-- V(k): the least rounded cost of the plans that meet timing.
unfoldable pub least_rounded : Net → ℕ → ℕ
least_rounded n k = lowest (rounded_cost n k) (meeting_plans n)

-- The floor at k: g × V(k), with g = 2^k (02, wish 6). Costs are rounded down, so no plan that meets timing costs less (source 001, section 6.3).
unfoldable pub floor : Net → ℕ → ℕ
floor n k = 2 ^ k * least_rounded n k

-- The test of k at share p/q: q × s × (g − 1) ≤ p × g × V(k).
unfoldable pub qualifies : Net → ℕ → ℕ → ℕ → Bool
qualifies n p q k = leb (q * stages n * (2 ^ k - 1)) (p * 2 ^ k * least_rounded n k)

-- The k of the grain 2^k: the largest that qualifies.
unfoldable pub grain_exponent : Net → ℕ → ℕ → ℕ
grain_exponent n p q = largest (qualifies n p q) max_exponent

-- The first in plan order among the plans that meet timing with rounded cost V(k); there is none if no plan meets timing.
unfoldable pub chosen : Net → ℕ → Option (List ℕ)
chosen n k = head? (keep (λ x. meets n x && eqb (rounded_cost n k x) (least_rounded n k)) (plans n))

-- The columns of a work table of so many entries: its length divided by s + 2, rounded down.
unfoldable pub columns : Net → ℕ → ℕ
columns n entries = entries / (stages n + 2)

-- The columns needed at k: V(k) + 1.
unfoldable pub columns_needed : Net → ℕ → ℕ
columns_needed n k = least_rounded n k + 1
