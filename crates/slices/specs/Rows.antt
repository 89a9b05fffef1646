-- A table in a slice: rows of w entries, one after the other. A loop over the columns sets one row entry by entry and leaves the rest of the slice as it was.
use Rattle.std.specs.Prelude.{◌≡◌, refl, ◌⊎◌, List, ℕ, suc, ◌+◌, ◌*◌, ◌≤◌, ◌<◌, length, get_or, set}
use Rattle.std.proofs.Common.{◌∙◌, inl, inr, arith, mul-le-mul, length-set, get_or-set_same, get_or-set_other}
use Rattle.std.proofs.Math.Decide.{dec_lt}
use Rattle.laws.specs.Booleans.{same_or}

-- Entry c of row i of a table of numbers.
abbrev pub entry : ℕ → List ℕ → ℕ → ℕ → ℕ
entry w table i c = get_or table (i * w + c) 0

-- Row i of a table of `rows` rows.
pub record RowOf {A : Type 0} (rows w : ℕ) (table : List A) (i : ℕ) : Type 0 where
  pub row_in : i < rows
  pub long : rows * w ≤ length table

-- The first k entries of row i are those of f, the rest of the table is as in `old`; d stands for an entry that there is not.
pub record RowSet {A : Type 0} (d : A) (w : ℕ) (old table : List A) (i k : ℕ) (f : ℕ → A) : Type 0 where
  pub set_to : (c : ℕ) → c < k → get_or table (i * w + c) d ≡ f c
  pub others : (m c : ℕ) → c < w → (m ≡ i → c < k → ⊥) → get_or table (m * w + c) d ≡ get_or old (m * w + c) d
  pub long : length table ≡ length old

-- A loop over the first n columns, before column k.
pub record Setting {A : Type 0} (d : A) (w : ℕ) (old table : List A) (i n k : ℕ) (f : ℕ → A) : Type 0 where
  pub inside : k ≤ n
  pub so_far : RowSet d w old table i k f

-- A row ends before the next begins: so every place of a row is in the table, and one place is that of one row and column.
pub row_before : (w i m c : ℕ) → c < w → i < m → i * w + c < m * w
row_before w i m c h l = let q : w ≤ w = omega arith in let p : suc i * w ≤ m * w = mul-le-mul l q in omega arith

pub place_in : {A : Type 0} {rows w : ℕ} {table : List A} {i c : ℕ} → RowOf rows w table i → c < w → i * w + c < length table
place_in {rows = rows} {w = w} {i = i} {c = c} R h = omega (arith, row_before w i rows c h R.row_in, R.long)

same_row : (w i m c d : ℕ) → c < w → d < w → i * w + c ≡ m * w + d → i ≡ m
same_row w i m c d h l e = go (dec_lt i m) (dec_lt m i)
  where
    go : Dec (i < m) → Dec (m < i) → i ≡ m
    go (yes a) b = absurd (omega (arith, row_before w i m c h a))
    go (no a) (yes b) = absurd (omega (arith, row_before w m i d l b))
    go (no a) (no b) = omega arith

same-column : (w i m c d : ℕ) → i ≡ m → i * w + c ≡ m * w + d → c ≡ d
same-column w i m c d p e = let q = rw p at e in omega arith

module _ {A : Type 0} {d : A} {w : ℕ} where
  -- The entries of another row are still those of `old`.
  pub row_kept : {old table : List A} {i k : ℕ} {f : ℕ → A} → RowSet d w old table i k f → (m c : ℕ) → c < w → (m ≡ i → ⊥)
      → get_or table (m * w + c) d ≡ get_or old (m * w + c) d
  row_kept F m c h ne = F.others m c h (λ e b. ne e)

  pub setting_start : (table : List A) (i n : ℕ) (f : ℕ → A) → Setting d w table table i n 0 f
  setting_start table i n f = record {
    inside = omega arith;
    so_far = record { set_to = λ c h. absurd (omega arith); others = λ m c h ne. refl; long = refl };
  }

  pub setting_end : {old table : List A} {i n k : ℕ} {f : ℕ → A} → Setting d w old table i n k f → n ≤ k → RowSet d w old table i n f
  setting_end {n = n} {k = k} S h = let e : n ≡ k = omega (arith, S.inside) in rw e S.so_far

  -- The next entry of the row is still that of `old`.
  pub next-kept : {old table : List A} {i n k : ℕ} {f : ℕ → A} → Setting d w old table i n k f → n ≤ w → k < n
      → get_or table (i * w + k) d ≡ get_or old (i * w + k) d
  next-kept {i = i} {k = k} S few h = S.so_far.others i k (omega arith) (λ e b. omega arith)

  -- One entry more.
  pub setting_more : {old table : List A} {rows i n k : ℕ} {f : ℕ → A} (x : A) → RowOf rows w old i → n ≤ w → Setting d w old table i n k f → k < n → x ≡ f k
      → Setting d w old (set table (i * w + k) x) i n (k + 1) f
  setting_more {old} {table} {rows} {i} {n} {k} {f} x R few S h e = record {
    inside = omega arith;
    so_far = record {
      set_to = λ c b. here c b (same_or k c);
      others = λ m c b ne. get_or-set_other table (i * w + k) (m * w + c) x d (λ q. apart m c b ne q) ∙ F.others m c b (λ p q. ne p (omega arith));
      long = length-set table (i * w + k) x ∙ F.long;
    };
  }
    where
      F : RowSet d w old table i k f
      F = S.so_far

      column : k < w
      column = omega arith

      apart : (m c : ℕ) → c < w → (m ≡ i → c < k + 1 → ⊥) → m * w + c ≡ i * w + k → ⊥
      apart m c b ne q = let p = same_row w m i c k b column q in ne p (omega (arith, same-column w m i c k p q))

      here : (c : ℕ) → c < k + 1 → (c ≡ k) ⊎ (c ≡ k → ⊥) → get_or (set table (i * w + k) x) (i * w + c) d ≡ f c
      here c b (inl q) = rw q (get_or-set_same table (i * w + k) x d (omega (arith, F.long, place_in R column)) ∙ e)
      here c b (inr ne) = get_or-set_other table (i * w + k) (i * w + c) x d (λ q. ne (omega arith)) ∙ F.set_to c (omega arith)
