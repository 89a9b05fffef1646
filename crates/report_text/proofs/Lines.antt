-- The lines of a report, put one after the other, and which of its two texts an answer has.
use mathlib.Core.Path.{◌≡◌, ap, sym, ◌∙◌}
use mathlib.Core.List.{List, [], ◌∷◌, ◌++◌, append_assoc, append-nil}
use Prim.Native.Nat.{ℕ, suc, ◌+◌, ◌≤◌, ◌<◌}
use native.Mathlib.Omega.{arith}
use native.Mathlib.Numerals.{add-one}
use lib.ListN.{length, take, get_or}
use lib.Seq.{take-suc, length-take-le}
use borrow.Author.Tests.{eq-eqb, ne_eqb}
use Rattle.rules.specs.declared.Report.{Report}
use Rattle.rules.specs.Text.{space, number_field}
use Rattle.rules.specs.Program.{refused_line}
use Rattle.rules.specs.Block.{count_line, met_line, met_from, totals_text, answer_text}
use Rattle.text.specs.Placing.{Placed}
use Rattle.text.proofs.Joining.{nothing, joined}

-- Nothing is put for a count of 0, and nothing for no counts.
pub none-met : (word : List ℕ) (i c : ℕ) → c ≡ 0 → met_line word i c ≡ []
unfolding met_line
none-met word i c e = rw (eq-eqb c 0 e)

pub met_start : (word counts : List ℕ) {before : List ℕ} {at : ℕ} → at ≤ length before → Placed (met_from word 0 (take 0 counts)) at before before at
unfolding met_from
met_start word counts h = nothing _ _ h

-- The line of a count above 0: the word with its number, and the count as the rest of the line.
pub line-met : (word : List ℕ) (i c : ℕ) → 1 ≤ c → met_line word i c ≡ number_field word i ++ count_line space c
unfolding met_line count_line
line-met word i c h = rw (ne_eqb c 0 (λ e. omega arith)) (append_assoc (number_field word i) (number_field space c) _)

-- One count more.
met-more : (word : List ℕ) (k : ℕ) (cs : List ℕ) (c : ℕ) → met_from word k (cs ++ (c ∷ [])) ≡ met_from word k cs ++ met_line word (k + length cs) c
unfolding met_from
met-more word k [] c = append-nil (met_line word k c) ∙ ap (λ (i : ℕ). met_line word i c) (omega arith)
met-more word k (x ∷ xs) c =
    ap (λ (s : List ℕ). met_line word k x ++ s) (met-more word (suc k) xs c ∙ ap (λ (i : ℕ). met_from word (suc k) xs ++ met_line word i c) (omega arith))
    ∙ sym (append_assoc (met_line word k x) (met_from word (suc k) xs) (met_line word (k + suc (length xs)) c))

-- One line more is put after those of the first i counts.
pub met-put : (word counts : List ℕ) (i : ℕ) {before middle after : List ℕ} {at mid next : ℕ} → i < length counts
    → Placed (met_from word 0 (take i counts)) at before middle mid → Placed (met_line word i (get_or counts i 0)) mid middle after next
    → Placed (met_from word 0 (take (i + 1) counts)) at before after next
met-put word counts i h first second = rw more (joined first second)
  where
    first_i : length (take i counts) ≡ i
    first_i = length-take-le i counts (omega arith)

    more : met_from word 0 (take (i + 1) counts) ≡ met_from word 0 (take i counts) ++ met_line word i (get_or counts i 0)
    more = rw (add-one, take-suc counts i 0 h) (met-more word 0 (take i counts) (get_or counts i 0)
        ∙ ap (λ (j : ℕ). met_from word 0 (take i counts) ++ met_line word j (get_or counts i 0)) (omega (arith, first_i)))

-- The text of an answer, by its refusal number.
pub refused_text : (r : Report) → 1 ≤ r.refusal → answer_text r ≡ refused_line r.refusal
unfolding answer_text
refused_text r one = rw (ne_eqb r.refusal 0 (λ e. omega arith))

pub totals_text_lem : (r : Report) → r.refusal ≡ 0 → answer_text r ≡ totals_text r
unfolding answer_text
totals_text_lem r none = rw (eq-eqb r.refusal 0 none)
