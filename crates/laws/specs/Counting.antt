-- Numbers that pass a test, in order: how many there are up to one, and which is the t-th.
use Rattle.std.specs.Prelude.{◌≡◌, refl, Bool, true, false, ◌∷◌, ℕ, zero, suc, ◌+◌, ◌≤◌, ◌<◌, length, get_or, cond}
use Rattle.std.proofs.Common.{ap, sym, ◌∙◌, arith, add-suc, suc-add, add-zero}
use Rattle.laws.specs.Basic.{from, keep}

module _ (p : ℕ → Bool) where
  -- the one at offset o stands at the place that counts those up to it (after one member in front)
  pub at_count : (d i m o : ℕ) → o < m → p (i + o) ≡ true → get_or (d ∷ keep p (from i m)) (length (keep p (from i (suc o)))) 0 ≡ i + o
  at_count d i zero o h e = absurd (omega arith)
  at_count d i (suc m) zero h e = rw (ap p (sym (add-zero i)) ∙ e) (sym (add-zero i))
  at_count d i (suc m) (suc o) h e = go (p i) (λ d. at_count d (suc i) m o (omega arith) (ap p (suc-add i o ∙ sym (add-suc i o)) ∙ e))
    where
      go : (b : Bool) → ((d : ℕ) → get_or (d ∷ keep p (from (suc i) m)) (length (keep p (from (suc i) (suc o)))) 0 ≡ suc i + o)
          → get_or (d ∷ (cond b (i ∷ keep p (from (suc i) m)) (keep p (from (suc i) m)))) (length (cond b (i ∷ keep p (from (suc i) (suc o))) (keep p (from (suc i) (suc o))))) 0 ≡ i + suc o
      go true r = r i ∙ omega arith
      go false r = r d ∙ omega arith

  -- the t-th passes, and t + 1 pass up to it
  pub record Nth (i m t j : ℕ) : Type 0 where
    pub o : ℕ
    pub inside : o < m
    pub is : j ≡ i + o
    pub passes : p (i + o) ≡ true
    pub count : length (keep p (from i (suc o))) ≡ suc t

  pub nth : (i m t : ℕ) → t < length (keep p (from i m)) → Nth i m t (get_or (keep p (from i m)) t 0)
  nth i zero t h = absurd (omega arith)
  nth i (suc m) t h = go (p i) refl t h (nth (suc i) m)
    where
      go : (b : Bool) → p i ≡ b → (t : ℕ) → t < length (cond b (i ∷ keep p (from (suc i) m)) (keep p (from (suc i) m)))
          → ((t : ℕ) → t < length (keep p (from (suc i) m)) → Nth (suc i) m t (get_or (keep p (from (suc i) m)) t 0))
          → Nth i (suc m) t (get_or (cond b (i ∷ keep p (from (suc i) m)) (keep p (from (suc i) m))) t 0)
      go true e zero h r = record { o = 0; inside = omega arith; is = omega arith; passes = ap p (add-zero i) ∙ e; count = rw e refl }
      go true e (suc t) h r =
          let k = r t (omega arith) in
          record { o = suc k.o; inside = omega (arith, k.inside); is = omega (arith, k.is); passes = ap p (add-suc i k.o ∙ sym (suc-add i k.o)) ∙ k.passes; count = rw e (ap suc k.count) }
      go false e t h r =
          let k = r t h in
          record { o = suc k.o; inside = omega (arith, k.inside); is = omega (arith, k.is); passes = ap p (add-suc i k.o ∙ sym (suc-add i k.o)) ∙ k.passes; count = rw e k.count }

  pub count_lt : (i a b : ℕ) → a ≤ b → p (i + b) ≡ true → length (keep p (from i a)) < length (keep p (from i (suc b)))
  count_lt i zero zero h e = rw (ap p (sym (add-zero i)) ∙ e) (omega arith)
  count_lt i zero (suc b) h e = go (p i) (count_lt (suc i) 0 b (omega arith) (ap p (suc-add i b ∙ sym (add-suc i b)) ∙ e))
    where
      go : (t : Bool) → 0 < length (keep p (from (suc i) (suc b))) → 0 < length (cond t (i ∷ keep p (from (suc i) (suc b))) (keep p (from (suc i) (suc b))))
      go true r = omega arith
      go false r = r
  count_lt i (suc a) zero h e = absurd (omega arith)
  count_lt i (suc a) (suc b) h e = go (p i) (count_lt (suc i) a b (omega arith) (ap p (suc-add i b ∙ sym (add-suc i b)) ∙ e))
    where
      go : (t : Bool) → length (keep p (from (suc i) a)) < length (keep p (from (suc i) (suc b)))
          → length (cond t (i ∷ keep p (from (suc i) a)) (keep p (from (suc i) a))) < length (cond t (i ∷ keep p (from (suc i) (suc b))) (keep p (from (suc i) (suc b))))
      go true r = omega arith
      go false r = r

  pub count_le : (i a b : ℕ) → a ≤ b → length (keep p (from i a)) ≤ length (keep p (from i b))
  count_le i zero b h = omega arith
  count_le i (suc a) zero h = absurd (omega arith)
  count_le i (suc a) (suc b) h = go (p i) (count_le (suc i) a b (omega arith))
    where
      go : (t : Bool) → length (keep p (from (suc i) a)) ≤ length (keep p (from (suc i) b))
          → length (cond t (i ∷ keep p (from (suc i) a)) (keep p (from (suc i) a))) ≤ length (cond t (i ∷ keep p (from (suc i) b)) (keep p (from (suc i) b)))
      go true r = omega arith
      go false r = r
