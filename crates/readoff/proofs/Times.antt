-- A stage passes its time on along the links: the times of the stages before j are passed on, the others are as they were.
use mathlib.Core.Path.{◌≡◌, refl, ◌∙◌}
use mathlib.Core.Logic.{◌⊎◌, inl, inr}
use mathlib.Core.List.{List}
use Prim.Native.Nat.{ℕ, suc, ◌≤◌, ◌<◌}
use native.Mathlib.Omega.{arith}
use native.Mathlib.Decide.{dec_le}
use lib.IntN.{ℤ, pos}
use lib.ListN.{length, get_or, set, length-set}
use lib.Seq.{get_or-set_same, get_or-set_other}
use borrow.Author.Tests.{eq-eqb, ne_eqb}
use Rattle.laws.specs.Booleans.{same_or}
use Rattle.fanout.specs.Clauses.{NextOwned, Linked}
use Rattle.oracle.specs.Stages.{StageTree, reach}
use Rattle.slices.specs.Laid.{time_at, LaidDelays}
use Rattle.readoff.specs.Clauses.{arrive_at, reach_at, Pushed}

-- Stages i + 1 to j - 1 have their times, and j is the next that stage i drives; `before` is the slice of times at the start.
pub record Pushing (driver delay : List ℕ) (before : List ℤ) (stages i l : ℕ) (times : List ℤ) (j : ℕ) : Type 0 where
  pub started : i < j
  pub inside : j ≤ stages
  pub driven : j < stages → get_or driver j 0 ≡ i
  pub long : length times ≡ length before
  pub passed : (m : ℕ) → i < m → m < j → time_at times m ≡ reach_at driver delay i l before m
  pub others : (m : ℕ) → j ≤ m → time_at times m ≡ time_at before m

-- A stage that stage i does not drive keeps its time.
stays : (driver delay : List ℕ) (before : List ℤ) (i l m : ℕ) → (get_or driver m 0 ≡ i → ⊥) → time_at before m ≡ reach_at driver delay i l before m
stays driver delay before i l m other = rw (ne_eqb (get_or driver m 0) i other) refl

module _ {driver delay : List ℕ} {before : List ℤ} {stages i l : ℕ} where
  module _ {first next : List ℕ} (links : Linked driver first next stages) where
    -- Stage j gets its time, and the stages up to the next that stage i drives keep theirs.
    pub pushing_more : {times : List ℤ} {j : ℕ} {x : ℤ} → Pushing driver delay before stages i l times j → stages ≤ length before → j < stages
        → x ≡ arrive_at delay j l (time_at before i) → Pushing driver delay before stages i l (set times j x) (get_or next j 0)
    pushing_more {times} {j} {x} here long h value = record {
      started = omega (arith, here.started, N.low);
      inside = N.most;
      driven = N.owned;
      long = length-set times j x ∙ here.long;
      passed = λ m a b. go m a b (same_or j m) (dec_le m j);
      others = λ m a. kept m (λ e. omega (arith, N.low)) ∙ here.others m (omega (arith, N.low));
    }
      where
        N : NextOwned driver stages i (suc j) (get_or next j 0)
        N = rw (here.driven h) at (links.next-is j (omega (arith, here.started)) h)

        kept : (m : ℕ) → (m ≡ j → ⊥) → time_at (set times j x) m ≡ time_at times m
        kept m n = get_or-set_other times j m x (pos 0) n

        go : (m : ℕ) → i < m → m < get_or next j 0 → (m ≡ j) ⊎ (m ≡ j → ⊥) → Dec (m ≤ j) → time_at (set times j x) m ≡ reach_at driver delay i l before m
        go m a b (inl e) d = rw (e, eq-eqb (get_or driver j 0) i (here.driven h)) (get_or-set_same times j x (pos 0) (omega (arith, here.long)) ∙ value)
        go m a b (inr n) (yes low) = kept m n ∙ here.passed m a (omega arith)
        go m a b (inr n) (no high) = kept m n ∙ here.others m (omega arith) ∙ stays driver delay before i l m (N.passed m (omega arith) b)

-- What is passed on is `reach` of the tree whose numbers the slices hold.
pub pushed_reach : {T : StageTree} {driver delay : List ℕ} {times after : List ℤ} {stages i l : ℕ} → LaidDelays T driver delay
    → stages ≡ T.stages → l < T.layers → Pushed driver delay times stages i l after → (j : ℕ) → i < j → j < T.stages
    → time_at after j ≡ reach T i l (time_at times) j
pushed_reach {l = l} L e small P j a b =
    P.is j a (omega arith) ∙ rw (L.driver-at j (omega arith) b, L.delay-at j l (omega arith) b small)
