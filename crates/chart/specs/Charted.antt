-- A list of numbers that is the chart: one test over the whole list, and the law that carries it to each entry.
use Rattle.std.specs.Prelude.{◌≡◌, Bool, true, ◌&&◌, List, [], ◌∷◌, ℕ, zero, suc, ◌+◌, ◌*◌, ◌-◌, ◌/◌, ◌%◌, ◌<◌, eqb, length, get_or}
use Rattle.std.proofs.Common.{ap, ◌∙◌, arith, eqb-true}
use Rattle.laws.specs.Booleans.{and_left, and_right}
use Rattle.rules.specs.Bytes.{max_stages}
use Rattle.rules.specs.Chart.{chart_shares, chart_entry, OnChart}

-- Where the number for s and q stands: the lines one after the other.
abbrev pub chart_place : ℕ → ℕ → ℕ
chart_place s q = (s - 1) * chart_shares + (q - 1)

-- The number that is due at a place.
abbrev pub due : ℕ → ℕ
due i = chart_entry (i / chart_shares + 1) (i % chart_shares + 1)

-- The test: each number of a list is the one due at its place, the first at place i.
abbrev pub follows : ℕ → List ℕ → Bool
follows i [] = true
follows i (x ∷ xs) = eqb x (due i) && follows (suc i) xs

-- The chart as a list: all its numbers, each passing the test.
pub record Charted (xs : List ℕ) : Type 0 where
  pub whole : length xs ≡ max_stages * chart_shares
  pub rule : follows 0 xs ≡ true

carried : (i : ℕ) (xs : List ℕ) → follows i xs ≡ true → (k : ℕ) → k < length xs → get_or xs k 0 ≡ due (i + k)
carried i [] e k h = absurd (omega arith)
carried i (x ∷ xs) e zero h = eqb-true x (due i) (and_left (eqb x (due i)) (follows (suc i) xs) e) ∙ ap due (omega arith)
carried i (x ∷ xs) e (suc k) h = carried (suc i) xs (and_right (eqb x (due i)) (follows (suc i) xs) e) k (omega arith) ∙ ap due (omega arith)

-- The rule carried to each entry.
pub charted_entry : {xs : List ℕ} → Charted xs → {s q : ℕ} → OnChart s q → get_or xs (chart_place s q) 0 ≡ chart_entry s q
charted_entry {xs} C {s} {q} on = carried 0 xs C.rule (chart_place s q) (omega (arith, C.whole)) ∙ cc (line, column)
  where
    line : (0 + chart_place s q) / chart_shares + 1 ≡ s
    line = omega arith

    column : (0 + chart_place s q) % chart_shares + 1 ≡ q
    column = omega arith
