-- 02, wish 1, 'A wall chart of table lengths': the entries that always serve, for s from 1 to 64 and shares 1/1, 1/2, to 1/10, and the chart's text.
use Rattle.std.specs.Prelude.{◌≡◌, refl, ◌&&◌, List, [], ◌∷◌, ◌++◌, map, ℕ, ◌+◌, ◌*◌, ◌-◌, ◌≤◌, eqb, if◌then◌else◌}
use Prim.Native.Char.{code}
use Rattle.laws.specs.Basic.{within, from}
use Rattle.rules.specs.Bytes.{max_stages}
use Rattle.rules.specs.Planning.{enough_columns}
use Rattle.rules.specs.Text.{ascii, space, line_feed, decimal_from, decimal, between}

-- 'shares 1/1, 1/2, to 1/10': how many there are. (s runs from 1 to 64, the most stages that a net has.)
abbrev pub chart_shares : ℕ
chart_shares = 10

-- The chart's number for s stages and share 1/q: the entries that always serve, (s + 2) × (s plus 2qs/p rounded up), with p = 1. The columns are those of
-- demand 3, so that 'always serve' is its promise (`never-short`, Planning.antt).
unfoldable pub chart_entry : ℕ → ℕ → ℕ
chart_entry s q = enough_columns 1 q s * (s + 2)

-- s stages and share 1/q are on the chart.
pub record OnChart (s q : ℕ) : Type 0 where
  pub some-stage : 1 ≤ s
  pub few-stages : s ≤ max_stages
  pub some_share : 1 ≤ q
  pub few_shares : q ≤ chart_shares

-- What a host is told: the chart's number, or 0 where the chart has none.
unfoldable pub table_entries : ℕ → ℕ → ℕ
table_entries s q = if within 1 max_stages s && within 1 chart_shares q then chart_entry s q else 0

-- The line for s without its line feed: 'ten numbers with one space between'.
unfoldable pub chart_row : ℕ → List ℕ
chart_row s = between space (map (λ q. decimal (chart_entry s q)) (from 1 chart_shares))

-- The chart as it is printed: 'a line for each s', a line feed at the end of the last too.
unfoldable pub chart_text : List ℕ
chart_text = between line_feed (map chart_row (from 1 max_stages)) ++ line_feed

-- The first and the last line, the last number, and what a host is told just outside the chart, by computing the definitions.
pub chart_rows : (chart_row 1 ≡ ascii "9 15 21 27 33 39 45 51 57 63")
    × (chart_row 64 ≡ ascii "12672 21120 29568 38016 46464 54912 63360 71808 80256 88704")
    × (table_entries 64 10 ≡ 88704) × (table_entries 0 1 ≡ 0) × (table_entries 65 1 ≡ 0) × (table_entries 1 0 ≡ 0) × (table_entries 1 11 ≡ 0)
unfolding enough_columns chart_entry table_entries chart_row decimal_from decimal
chart_rows = (refl, refl, refl, refl, refl, refl, refl)

-- A text's numbers line by line, as a reader takes them, with a number n and the numbers `row` of a line begun: a space ends a number, a line feed a number
-- and a line. What no line feed ends is no line.
unfoldable pub numbers_from : ℕ → List ℕ → List ℕ → List (List ℕ)
numbers_from n row [] = []
numbers_from n row (b ∷ bs) =
    if eqb b (code " ") then numbers_from 0 (row ++ (n ∷ [])) bs else
    if eqb b (code "\n") then (row ++ (n ∷ [])) ∷ numbers_from 0 [] bs else
    numbers_from (n * 10 + (b - code "0")) row bs

-- The numbers that a reader finds in a text, line by line.
unfoldable pub numbers_in : List ℕ → List (List ℕ)
numbers_in text = numbers_from 0 [] text

-- The table's numbers, a row for each s, as a host is told them.
unfoldable pub table_rows : List (List ℕ)
table_rows = map (λ s. map (table_entries s) (from 1 chart_shares)) (from 1 max_stages)

-- 'printed chart and table must agree': the numbers that a reader finds in the text are those of the table, by computing both.
pub printed-table : numbers_in chart_text ≡ table_rows
unfolding enough_columns chart_entry table_entries chart_row chart_text decimal_from decimal numbers_from numbers_in table_rows
printed-table = refl
