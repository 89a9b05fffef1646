-- The links, made from the last number to the first.
use mathlib.Core.Path.{◌≡◌}
use mathlib.Core.List.{List}
use Prim.Native.Nat.{ℕ, ◌-◌, ◌≤◌, ◌<◌}
use lib.ListN.{length, get_or}
use Rattle.laws.specs.Links.{LinkedAfter}

-- What belongs to i by `owner`.
abbrev Owned : List ℕ → ℕ → ℕ → ℕ → Type 0
Owned owner count i m = (m < count) × (get_or owner m 0 ≡ i)

-- Those from j on are linked. Number 0, which belongs to none, is left out.
pub record Linking (owner first₀ next₀ : List ℕ) (count : ℕ) (first next : List ℕ) (j : ℕ) : Type 0 where
  pub some : 0 < count → 0 < j
  pub most : j ≤ count
  pub first-long : length first ≡ length first₀
  pub next-long : length next ≡ length next₀
  pub links : LinkedAfter (Owned owner count) count count first next (j - 1)
