-- The scan over the terminals of a stage for the least that they ask (01, Timing rule).
use Rattle.std.specs.Prelude.{◌≡◌, refl, Bool, true, false, cond, ◌⊎◌, leb, length, pos, ◌-ℤ◌}
use Rattle.std.proofs.Math.Path.{ap, sym}
use Rattle.std.proofs.Common.{◌∙◌, inl, inr, arith, eq-or-lt_of_le, SFits, leb-true, leb-false}
use mathlib.Core.List.Memᴰ
use mathlib.Core.List.{List, map, Memᴰ}
use Prim.Native.Nat.{ℕ, suc, ◌≤◌, ◌<◌, ◌^◌}
use Rattle.std.proofs.Math.IntN.{ℤ}
use Rattle.std.specs.Int.Signed.{le_z}
use Rattle.std.specs.Int.{w64}
use Rattle.laws.specs.Basic.{min_z}
use Rattle.laws.specs.Integers.{up, down, pos_view, le_true, thin, same_view, least_of-is, min-left, min-right, le_trans, le_self, minus_minus}
use Rattle.rules.specs.Tree.{Net, stages, terminals, on}
use Rattle.rules.specs.Bytes.{max_time}
use Rattle.rules.specs.Timing.{gate_delay, wire_delay, terminal_time, required}
use Rattle.facts.specs.Accepted.{Accepted}
use Rattle.facts.specs.Stages.{TerminalOf, terminal_mem, mem_terminal, stage-ends}
use Rattle.facts.specs.Words.{asked, required-is}
use Rattle.facts.specs.Bounds.{terminal_in, asked_in_range}
use Rattle.facts.specs.Fits.{fits_signed, bounded-fits, delay-fits}
use Rattle.delays.specs.Delayed.{delay_to}

-- What terminal j asks of the root of stage t under plan x.
unfoldable pub asked_by : Net → List ℕ → ℕ → ℕ → ℤ
asked_by n x t j = asked n (required n x) (on x t) t j

-- r is the least that the terminals before node j ask, or the greatest time there can be.
pub record TerminalsSoFar (n : Net) (x : List ℕ) (t j : ℕ) (r : ℤ) : Type 0 where
  pub below : (m : ℕ) → m < j → TerminalOf n t m → le_z r (asked_by n x t m) ≡ true
  pub one : (r ≡ pos max_time) ⊎ ((m : ℕ) × TerminalOf n t m × (r ≡ asked_by n x t m))

-- Before the first node no terminal has asked.
pub terminals-start : (n : Net) (x : List ℕ) (t : ℕ) → TerminalsSoFar n x t 0 (pos max_time)
terminals-start n x t = record { below = λ m h d. absurd (omega arith); one = inl refl }

module _ {n : Net} {x : List ℕ} {t j : ℕ} {r : ℤ} (S : TerminalsSoFar n x t j r) where
  -- Nodes that are no terminals of the stage may be passed over.
  pub terminals_jump : {k : ℕ} → ((m : ℕ) → j ≤ m → m < k → TerminalOf n t m → ⊥) → TerminalsSoFar n x t k r
  terminals_jump {k} other = record { below = λ m h d. before m h d (leb j m) refl; one = S.one }
    where
      before : (m : ℕ) → m < k → TerminalOf n t m → (b : Bool) → leb j m ≡ b → le_z r (asked_by n x t m) ≡ true
      before m h d true e = absurd (other m (leb-true j m e) h d)
      before m h d false e = S.below m (leb-false j m e) d

  -- A terminal of the stage lowers the least.
  pub terminals-take : TerminalOf n t j → {a : ℤ} → a ≡ asked_by n x t j → TerminalsSoFar n x t (suc j) (min_z r a)
  terminals-take d {a} e = record { below = λ m h f. before m f (eq-or-lt_of_le {n = m} {m = j} (omega arith)); one = pick (le_z r a) S.one }
    where
      before : (m : ℕ) → TerminalOf n t m → (m ≡ j) ⊎ (m < j) → le_z (min_z r a) (asked_by n x t m) ≡ true
      before m f (inl q) = le_trans (min_z r a) a (asked_by n x t m) (min-right r a) (ap (le_z a) (ap (asked_by n x t) q ∙ sym e) ∙ le_self a)
      before m f (inr l) = le_trans (min_z r a) r (asked_by n x t m) (min-left r a) (S.below m l f)

      pick : (b : Bool) → (r ≡ pos max_time) ⊎ ((m : ℕ) × TerminalOf n t m × (r ≡ asked_by n x t m))
          → (cond b r a ≡ pos max_time) ⊎ ((m : ℕ) × TerminalOf n t m × (cond b r a ≡ asked_by n x t m))
      pick true o = o
      pick false o = inr (j, d, e)

  -- After the last node it is the required time of the stage.
  pub terminals_end : Accepted n → length n.nodes < j → t < stages n → r ≡ required n x t
  unfolding asked_by
  terminals_end A h l = sym (required-is A x t l ∙ least_of-is r (map ask (terminals n t)) member lowest)
    where
      ask : ℕ → ℤ
      ask = asked n (required n x) (on x t) t

      there : (m : ℕ) → TerminalOf n t m → r ≡ ask m → Memᴰ r (map ask (terminals n t))
      there m d e = Memᴰ.cast e (Memᴰ.map ask (mem_terminal n d))

      member : Memᴰ r (map ask (terminals n t))
      member = go S.one (stage-ends A t l)
        where
          go : (r ≡ pos max_time) ⊎ ((m : ℕ) × TerminalOf n t m × (r ≡ ask m)) → (m : ℕ) × TerminalOf n t m → Memᴰ r (map ask (terminals n t))
          go (inr (m, d, e)) f = there m d e
          go (inl e) (m, d) =
              let low = le_true r (ask m) (S.below m (omega (arith, d.edge.inside)) d) in
              let high = (asked_in_range A (required n x) (on x t) d.edge (terminal_in A x d)).high in
              there m d (same_view r (ask m) (omega (arith, ap up e, ap down e, pos_view max_time, thin (ask m))))

      lowest : (q : ℤ) → Memᴰ q (map ask (terminals n t)) → le_z r q ≡ true
      lowest q m =
          let (i, k, e) = Memᴰ.of_map ask (terminals n t) m in
          let d = terminal_mem n k in
          rw (← e) (S.below i (omega (arith, d.edge.inside)) d)

-- What a terminal asks, by the delay to it from the gate input of its stage.
module _ {n : Net} (A : Accepted n) (x : List ℕ) {t j : ℕ} (d : TerminalOf n t j) {b : ℤ} (e : b ≡ terminal_time n (required n x) j) where
  pub asked_is : b -ℤ pos (delay_to n (on x t) j) ≡ asked_by n x t j
  unfolding asked_by delay_to
  asked_is =
      rw (e, d.edge.stage) (sym (minus_minus (terminal_time n (required n x) j) (gate_delay n (on x t) t) (wire_delay n (on x t) j)))

  -- The difference fits the code's times,
  pub asked-fits : SFits w64 (b -ℤ pos (delay_to n (on x t) j))
  unfolding asked_by
  asked-fits =
      rw asked_is (fits_signed (asked_by n x t j) (bounded-fits A.few-nodes (asked_in_range A (required n x) (on x t) d.edge (terminal_in A x d))))

  -- and so does the delay.
  pub delay-small : delay_to n (on x t) j < 2 ^ 63
  unfolding delay_to
  delay-small = omega (arith, delay-fits A (on x t) d.edge, ap (λ (s : ℕ). gate_delay n (on x t) s) d.edge.stage)
