-- A row that a loop writes from left to right: what holds once the columns before n are written. The three loops over columns share this.
use mathlib.Core.Path.{◌≡◌, refl, sym, ◌∙◌, subst}
use mathlib.Core.List.{List}
use mathlib.Core.Logic.{◌⊎◌, inl, inr}
use Prim.Native.Nat.{ℕ, ◌+◌, ◌≤◌, ◌<◌}
use native.Mathlib.Omega.{arith}
use lib.ListN.{length, set, length-set}
use lib.Seq.{get_or-set_same, get_or-set_other}
use lib.IntN.{ℤ, pos}
use Rattle.laws.specs.Booleans.{same_or}
use Rattle.bands.specs.Entries.{row_at, Apart, KeptOutside}

-- P says what the entry of a column is to be.
pub record Written (P : ℕ → ℤ → Type 0) (before : List ℤ) (off width : ℕ) (table : List ℤ) (n : ℕ) : Type 0 where
  pub kept : KeptOutside before table off width
  pub done : (v : ℕ) → v < n → v < width → P v (row_at table off v)
  pub rest : (v : ℕ) → n ≤ v → row_at table off v ≡ row_at before off v

module _ {P : ℕ → ℤ → Type 0} {before : List ℤ} {off width : ℕ} where
  pub written_start : (n : ℕ) → ((v : ℕ) → v < n → v < width → P v (row_at before off v)) → Written P before off width before n
  written_start n h = record { kept = record { long = refl; others = λ m o. refl }; done = h; rest = λ v k. refl }

  -- The next entry is stored ..
  pub written-more : {table : List ℤ} {n : ℕ} {x : ℤ} → Written P before off width table n → n < width → off + width ≤ length before → P n x
      → Written P before off width (set table (off + n) x) (n + 1)
  written-more {table} {n} {x} W h fits p = record {
    kept = record {
      long = length-set table (off + n) x ∙ W.kept.long;
      others = λ m o. get_or-set_other table (off + n) m x (pos 0) (o n h) ∙ W.kept.others m o;
    };
    done = λ v k b. entry v k b (same_or n v);
    rest = λ v k. get_or-set_other table (off + n) (off + v) x (pos 0) (λ e. omega arith) ∙ W.rest v (omega arith);
  }
    where
      entry : (v : ℕ) → v < n + 1 → v < width → (v ≡ n) ⊎ (v ≡ n → ⊥) → P v (row_at (set table (off + n) x) off v)
      entry v k b (inl e) = rw e (subst (P n) (sym (get_or-set_same table (off + n) x (pos 0) (omega (arith, W.kept.long)))) p)
      entry v k b (inr ne) = subst (P v) (sym (get_or-set_other table (off + n) (off + v) x (pos 0) (λ e. ne (omega arith)))) (W.done v (omega arith) b)

  -- .. or stays, where it is right as it is.
  pub written_same : {table : List ℤ} {n : ℕ} → Written P before off width table n → P n (row_at before off n) → Written P before off width table (n + 1)
  written_same {table} {n} W p = record { kept = W.kept; done = λ v k b. entry v k b (same_or n v); rest = λ v k. W.rest v (omega arith) }
    where
      entry : (v : ℕ) → v < n + 1 → v < width → (v ≡ n) ⊎ (v ≡ n → ⊥) → P v (row_at table off v)
      entry v k b (inl e) = rw e (subst (P n) (sym (W.rest n (omega arith))) p)
      entry v k b (inr ne) = W.done v (omega arith) b

  -- A row apart from it is as it was.
  pub written-other : {table : List ℤ} {n : ℕ} → Written P before off width table n → (row : ℕ) → Apart off row width → (w : ℕ) → w < width
      → row_at table row w ≡ row_at before row w
  written-other W row a w h = W.kept.others (row + w) (λ v k e. a v k w h (sym e))
