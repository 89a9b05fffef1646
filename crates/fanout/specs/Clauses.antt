-- What belongs to each of a row of numbers, in number order, as links: `first` has for each number the first that belongs to it, `next` the next that
-- belongs to the same; `owner` says to which each belongs, and `count` stands for none. So are held the stages that each stage drives: the owner is the stage
-- that drives.
use Rattle.std.specs.Prelude.{◌≡◌, List, ℕ, suc, ◌≤◌, ◌<◌, length, get_or}

-- r is the first from j on that belongs to i, or `count`.
pub record NextOwned (owner : List ℕ) (count i j r : ℕ) : Type 0 where
  pub low : j ≤ r
  pub most : r ≤ count
  pub owned : r < count → get_or owner r 0 ≡ i
  pub passed : (m : ℕ) → j ≤ m → m < r → get_or owner m 0 ≡ i → ⊥

-- link: there is room for the links, and each belongs to one of lower number.
pub record LinkIn (owner first next : List ℕ) (count : ℕ) : Type 0 where
  pub owners : count ≤ length owner
  pub firsts : count ≤ length first
  pub nexts : count ≤ length next
  pub lower : (j : ℕ) → 0 < j → j < count → get_or owner j 0 < j

pub record Linked (owner first next : List ℕ) (count : ℕ) : Type 0 where
  pub firsts : count ≤ length first
  pub nexts : count ≤ length next
  pub first-is : (i : ℕ) → i < count → NextOwned owner count i (suc i) (get_or first i 0)
  pub next-is : (j : ℕ) → 0 < j → j < count → NextOwned owner count (get_or owner j 0) (suc j) (get_or next j 0)

-- unlink: to none of those before n belongs any.
pub record Unlinked (before first : List ℕ) (count n : ℕ) : Type 0 where
  pub inside : n ≤ count
  pub long : length first ≡ length before
  pub none : (i : ℕ) → i < n → get_or first i 0 ≡ count
