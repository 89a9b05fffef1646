-- Numbers that belong to numbers, in number order, as links: `first` has for each number the first that belongs to it, `next` for each that belongs to one the
-- next that belongs to the same. They are made from the last on, each put in front of those that its number has.
use Rattle.std.specs.Prelude.{◌≡◌, ◌⊎◌, List, ℕ, ◌-◌, ◌≤◌, ◌<◌, length, get_or, set}
use Rattle.std.proofs.Common.{inl, inr, arith, get_or-set_same, get_or-set_other}
use Rattle.laws.specs.Booleans.{same_or}

-- Where `Of i m` says that m belongs to i: r is the first after j that belongs to i, or `none`.
pub record NextOf (Of : ℕ → ℕ → Type 0) (none i j r : ℕ) : Type 0 where
  pub low : j < r
  pub most : r ≤ none
  pub owned : r < none → Of i r
  pub passed : (m : ℕ) → j < m → m < r → Of i m → ⊥

-- Those after j are linked, of the numbers below `rows`.
pub record LinkedAfter (Of : ℕ → ℕ → Type 0) (none rows : ℕ) (first next : List ℕ) (j : ℕ) : Type 0 where
  pub first-is : (i : ℕ) → i < rows → NextOf Of none i j (get_or first i 0)
  pub next-is : {i m : ℕ} → Of i m → j < m → NextOf Of none i m (get_or next m 0)

module _ {Of : ℕ → ℕ → Type 0} {none : ℕ} where
  -- A link leads from the number before as well, if the number itself does not belong to i.
  from-before : {i j r : ℕ} → (Of i j → ⊥) → NextOf Of none i j r → NextOf Of none i (j - 1) r
  from-before {i} {j} {r} other N = record {
    low = omega (arith, N.low);
    most = N.most;
    owned = N.owned;
    passed = λ m a b d. before m a b d (same_or j m);
  }
    where
      before : (m : ℕ) → j - 1 < m → m < r → Of i m → (m ≡ j) ⊎ (m ≡ j → ⊥) → ⊥
      before m a b d (inl e) = other (rw e at d)
      before m a b d (inr ne) = N.passed m (omega arith) b d

  module _ {rows : ℕ} {first next : List ℕ} {j : ℕ} (L : LinkedAfter Of none rows first next j) where
    -- What belongs to none is passed over.
    pub link-skip : ((i : ℕ) → Of i j → ⊥) → LinkedAfter Of none rows first next (j - 1)
    link-skip other = record { first-is = λ i b. from-before (other i) (L.first-is i b); next-is = λ {i} {m} d b. next_of d b (same_or j m) }
      where
        next_of : {i m : ℕ} → Of i m → j - 1 < m → (m ≡ j) ⊎ (m ≡ j → ⊥) → NextOf Of none i m (get_or next m 0)
        next_of {i} d b (inl e) = absurd (other i (rw e at d))
        next_of d b (inr ne) = L.next-is d (omega arith)

    -- What belongs to d alone comes in front of those that d has.
    pub link-take : {d : ℕ} → 0 < j → j ≤ none → d < rows → d < length first → j < length next → Of d j → ((i : ℕ) → Of i j → i ≡ d)
        → LinkedAfter Of none rows (set first d j) (set next j (get_or first d 0)) (j - 1)
    link-take {d} a top row place spot own alone = record {
      first-is = λ i b. first_of i b (same_or d i);
      next-is = λ {i} {m} o b. next_of o b (same_or j m);
    }
      where
        first_of : (i : ℕ) → i < rows → (i ≡ d) ⊎ (i ≡ d → ⊥) → NextOf Of none i (j - 1) (get_or (set first d j) i 0)
        first_of i b (inl e) = rw (e, get_or-set_same first d j 0 place) (record {
          low = omega arith;
          most = top;
          owned = λ k. own;
          passed = λ m u v o. omega arith;
        })
        first_of i b (inr ne) = rw (get_or-set_other first d i j 0 ne) (from-before (λ o. ne (alone i o)) (L.first-is i b))

        next_of : {i m : ℕ} → Of i m → j - 1 < m → (m ≡ j) ⊎ (m ≡ j → ⊥) → NextOf Of none i m (get_or (set next j (get_or first d 0)) m 0)
        next_of {i} o b (inl e) = rw (e, alone i (rw e at o), get_or-set_same next j (get_or first d 0) 0 spot) (L.first-is d row)
        next_of {m = m} o b (inr ne) = rw (get_or-set_other next j m (get_or first d 0) 0 ne) (L.next-is o (omega arith))
