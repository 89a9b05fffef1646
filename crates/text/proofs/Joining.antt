-- Texts put one after the other are one text put there, so the contract of a whole text follows from those of its parts.
use mathlib.Core.Path.{◌≡◌, ap, sym, ◌∙◌}
use mathlib.Core.List.{List, [], ◌++◌, append_assoc, append-nil}
use Prim.Native.Nat.{ℕ, ◌+◌, ◌≤◌}
use native.Mathlib.Omega.{arith}
use lib.ListN.{length, take, drop, length-append, length-drop, take-append-drop}
use lib.Seq.{length-take-le, take_at, drop_at, drop-drop}
use Rattle.io.specs.Counts.{IsPrefixLen}
use Rattle.io.proofs.Counting.{prefix_len_of_le}
use Rattle.text.specs.Placing.{Placed}

-- Nothing put.
pub nothing : (at : ℕ) (before : List ℕ) → at ≤ length before → Placed [] at before before at
nothing at before h =
    record {
      bytes = sym (ap (λ (s : List ℕ). s ++ drop at before) (append-nil (take at before)) ∙ take-append-drop at before);
      ends = omega arith;
      room = h;
    }

module _ {s before middle : List ℕ} {at mid : ℕ} (first : Placed s at before middle mid) where
  head-length : length (take at before ++ s) ≡ mid
  head-length = length-append (take at before) s ∙ ap (λ (k : ℕ). k + length s) (length-take-le at before (omega arith)) ∙ sym first.ends

  -- The buffer keeps its length.
  pub same_length : length middle ≡ length before
  same_length =
      ap length first.bytes
      ∙ length-append (take at before ++ s) (drop mid before)
      ∙ ap (λ (k : ℕ). k + length (drop mid before)) head-length
      ∙ omega (arith, length-drop mid before, first.room)

  middle_head : take mid middle ≡ take at before ++ s
  middle_head = ap (take mid) first.bytes ∙ take_at (take at before ++ s) (drop mid before) mid head-length

  middle_rest : drop mid middle ≡ drop mid before
  middle_rest = ap (drop mid) first.bytes ∙ drop_at (take at before ++ s) (drop mid before) mid head-length

  module _ {t after : List ℕ} {next : ℕ} (second : Placed t mid middle after next) where
    rest : drop next middle ≡ drop next before
    rest =
        ap (λ (k : ℕ). drop k middle) second.ends
        ∙ sym (drop-drop (length t) mid middle)
        ∙ ap (drop (length t)) middle_rest
        ∙ drop-drop (length t) mid before
        ∙ ap (λ (k : ℕ). drop k before) (sym second.ends)

    -- One text after the other.
    pub joined : Placed (s ++ t) at before after next
    joined =
        record {
          bytes = second.bytes
              ∙ ap (λ (x : List ℕ). x ++ t ++ drop next middle) middle_head
              ∙ ap (λ (x : List ℕ). take at before ++ s ++ t ++ x) rest
              ∙ ap (λ (x : List ℕ). x ++ drop next before) (append_assoc (take at before) s t);
          ends = omega (arith, first.ends, second.ends, length-append s t);
          room = omega (arith, second.room, same_length);
        }

-- A text put at the front of a buffer, as the contracts of whole texts say it.
pub at_front : {text before after : List ℕ} {next : ℕ} → Placed text 0 before after next
    → (next ≡ length text) × ((after ≡ text ++ drop next before) × IsPrefixLen next after)
at_front p = (omega (arith, p.ends), (p.bytes, prefix_len_of_le _ _ (omega (arith, p.room, same_length p))))

-- The bytes that it then opens with.
pub opening : {text before after : List ℕ} {next : ℕ} → Placed text 0 before after next → take next after ≡ text
opening p = middle_head p
