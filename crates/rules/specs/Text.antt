-- Text as bytes, for all that programs print (01, Program; 02, wish 1): ASCII, numbers in decimal, texts with a separator.
use Rattle.std.specs.Prelude.{true, false, List, [], ◌∷◌, ◌++◌, ℕ, zero, suc, ◌+◌, ◌/◌, ◌%◌, ltb, ℤ, pos, negsuc}
use Prim.Native.Char.{code}
use Prim.Native.String.{String}
use Prim.Native.String as text

-- The bytes of a text in ASCII.
abbrev pub ascii : String → List ℕ
ascii text.[] = []
ascii (text.◌∷◌ c s) = code c ∷ ascii s

-- One space: before each layer number of the program's line (01, Program), between the numbers of the chart (02, wish 1).
abbrev pub space : List ℕ
space = ascii " "

-- The sign of a slack below 0.
abbrev pub minus_sign : List ℕ
minus_sign = ascii "-"

-- The end of a line: 'line feed at the end' (01, Program), 'a line for each s' (02, wish 1).
abbrev pub line_feed : List ℕ
line_feed = ascii "\n"

-- The digit of a number below 10, in ASCII.
abbrev pub digit : ℕ → ℕ
digit d = code "0" + d

-- The decimal digits of n. k bounds their count; n + 1 is enough, for n / 10 is less than n unless n is 0.
unfoldable pub decimal_from : ℕ → ℕ → List ℕ
decimal_from zero n = []
decimal_from (suc k) n = elim (ltb n 10) [ true ↦ digit n ∷ [] | false ↦ decimal_from k (n / 10) ++ (digit (n % 10) ∷ []) ]

-- A number that is printed: its decimal digits, the most significant first, with no leading zero; `0` for 0.
unfoldable pub decimal : ℕ → List ℕ
decimal n = decimal_from (n + 1) n

-- A word and the number after it.
abbrev pub number_field : List ℕ → ℕ → List ℕ
number_field word n = word ++ decimal n

-- Slack, which may be any integer: its digits, after a minus sign if it is below 0.
unfoldable pub decimal_z : ℤ → List ℕ
decimal_z (pos n) = decimal n
decimal_z (negsuc n) = minus_sign ++ decimal (suc n)

-- Texts one after the other, the separator before each.
abbrev pub each_after : List ℕ → List (List ℕ) → List ℕ
each_after sep [] = []
each_after sep (t ∷ ts) = sep ++ t ++ each_after sep ts

-- Texts one after the other, the separator between them.
abbrev pub between : List ℕ → List (List ℕ) → List ℕ
between sep [] = []
between sep (t ∷ ts) = t ++ each_after sep ts
