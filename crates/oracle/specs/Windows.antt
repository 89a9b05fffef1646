-- The times at which a stage can be reached, whatever the layers: from an earliest to a latest. They are all the times that reading V(k) and the plan asks
-- of its row, so a row need only be right for these (Band).
use Rattle.std.specs.Prelude.{◌≡◌, refl, Bool, true, ℕ, ◌/◌, ◌^◌, ◌≤◌, ◌<◌, ℤ}
use Rattle.std.proofs.Common.{arith}
use Rattle.std.specs.Int.Signed.{le_z}
use Rattle.laws.specs.Basic.{within_z}
use Rattle.laws.specs.Booleans.{and_both}
use Rattle.laws.specs.Integers.{le_true, true_le, plus_view}
use Rattle.oracle.specs.Stages.{StageTree, arrive}

module _ (T : StageTree) (k hi : ℕ) where
  -- A budget up to hi can pay stage i on layer l.
  abbrev pub Payable : ℕ → ℕ → Type 0
  Payable i l = T.cost i l / 2 ^ k ≤ hi

  -- No stage is reached before `early` or after `late`, by layers that can be paid.
  pub record Windows (early late : ℕ → ℤ) : Type 0 where
    pub from-arrival : le_z (early 0) T.arrival ≡ true
    pub to-arrival : le_z T.arrival (late 0) ≡ true
    pub earlier : (j l : ℕ) → 0 < j → j < T.stages → l < T.layers → Payable (T.driver j) l → le_z (early j) (arrive T j l (early (T.driver j))) ≡ true
    pub later : (j l : ℕ) → 0 < j → j < T.stages → l < T.layers → Payable (T.driver j) l → le_z (arrive T j l (late (T.driver j))) (late j) ≡ true

  module _ (early late : ℕ → ℤ) (N : Windows early late) where
    -- A time in the window of stage j.
    abbrev pub asked_at : ℕ → ℤ → Bool
    asked_at j t = within_z (early j) (late j) t

    within-is : (a b t : ℤ) → le_z a t ≡ true → le_z t b ≡ true → within_z a b t ≡ true
    within-is a b t x y = rw (x, y) refl

    pub arrival-asked : asked_at 0 T.arrival ≡ true
    arrival-asked = within-is (early 0) (late 0) T.arrival N.from-arrival N.to-arrival

    -- What stage j is asked if the stage that drives it is.
    pub passes_on : (j l : ℕ) → 0 < j → j < T.stages → l < T.layers → Payable (T.driver j) l → (t : ℤ) → asked_at (T.driver j) t ≡ true
        → asked_at j (arrive T j l t) ≡ true
    passes_on j l h b a p t q =
        let i = T.driver j in
        let (x, y) = and_both (le_z (early i) t) (le_z t (late i)) q in
        within-is (early j) (late j) (arrive T j l t)
        (true_le (early j) (arrive T j l t) (omega (
          arith,
          le_true (early j) (arrive T j l (early i)) (N.earlier j l h b a p),
          le_true (early i) t x,
          plus_view t (T.delay j l),
          plus_view (early i) (T.delay j l),
        )))
        (true_le (arrive T j l t) (late j) (omega (
          arith,
          le_true (arrive T j l (late i)) (late j) (N.later j l h b a p),
          le_true t (late i) y,
          plus_view t (T.delay j l),
          plus_view (late i) (T.delay j l),
        )))
