-- Texts with a separator, put one after the other: what one text more makes of them.
use mathlib.Core.Path.{◌≡◌, ap, sym, ◌∙◌}
use mathlib.Core.List.{List, [], ◌∷◌, ◌++◌, map, map-append, append_assoc, append-nil}
use Prim.Native.Nat.{ℕ, suc, ◌+◌, ◌-◌, ◌≤◌}
use native.Mathlib.Omega.{arith}
use lib.ListN.{length}
use Rattle.laws.specs.Basic.{from}
use Rattle.laws.specs.Lists.{from_more}
use Rattle.rules.specs.Text.{each_after, between}
use Rattle.text.specs.Placing.{Placed}
use Rattle.text.proofs.Joining.{nothing, joined}

-- The separator before each text, and one text more.
pub each_more : (sep : List ℕ) (ts : List (List ℕ)) (t : List ℕ) → each_after sep (ts ++ (t ∷ [])) ≡ each_after sep ts ++ (sep ++ t)
each_more sep [] t = append-nil (sep ++ t)
each_more sep (x ∷ xs) t = ap (λ (s : List ℕ). sep ++ x ++ s) (each_more sep xs t) ∙ sym (append_assoc (sep ++ x) (each_after sep xs) (sep ++ t))

-- The texts of the numbers from 2 to n, the separator before each: what a loop puts after the text of 1.
unfoldable pub later : List ℕ → (ℕ → List ℕ) → ℕ → List ℕ
later sep f n = each_after sep (map f (from 2 (n - 1)))

module _ (sep : List ℕ) (f : ℕ → List ℕ) where
  more-at : (m : ℕ) → each_after sep (map f (from 2 (suc m))) ≡ each_after sep (map f (from 2 m)) ++ (sep ++ f (2 + m))
  more-at m =
      ap (λ (ns : List ℕ). each_after sep (map f ns)) (from_more 2 m)
      ∙ ap (each_after sep) (map-append f (from 2 m) ((2 + m) ∷ []))
      ∙ each_more sep (map f (from 2 m)) (f (2 + m))

  later_more : (n : ℕ) → 1 ≤ n → later sep f (n + 1) ≡ later sep f n ++ (sep ++ f (n + 1))
  unfolding later
  later_more n some =
      let count : n + 1 - 1 ≡ suc (n - 1) = omega arith in
      let last : 2 + (n - 1) ≡ n + 1 = omega arith in
      ap (λ (k : ℕ). each_after sep (map f (from 2 k))) count ∙ more-at (n - 1) ∙ ap (λ (k : ℕ). each_after sep (map f (from 2 (n - 1))) ++ (sep ++ f k)) last

  whole : (n : ℕ) → 1 ≤ n → between sep (map f (from 1 n)) ≡ f 1 ++ later sep f n
  unfolding later
  whole n some = let count : n ≡ suc (n - 1) = omega arith in ap (λ (k : ℕ). between sep (map f (from 1 k))) count

  -- Where the loop begins, after each of its turns, and at its end.
  pub later-start : (at : ℕ) (before : List ℕ) → at ≤ length before → Placed (later sep f 1) at before before at
  unfolding later
  later-start at before h = nothing at before h

  module _ (n : ℕ) (some : 1 ≤ n) {before middle after : List ℕ} {at mid next : ℕ} where
    pub later-put : Placed (later sep f n) at before middle mid → Placed (sep ++ f (n + 1)) mid middle after next → Placed (later sep f (n + 1)) at before after next
    later-put first second = rw (later_more n some) (joined first second)

    pub between_put : (m : ℕ) → m ≡ n → Placed (f 1) at before middle mid → Placed (later sep f m) mid middle after next → Placed (between sep (map f (from 1 n))) at before after next
    between_put m e first second = rw (whole n some) (joined first (rw e at second))
