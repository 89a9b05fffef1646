-- How long a line of the programs can be (01, Program).
use Rattle.std.specs.Prelude.{ℕ}

-- The longest line of at most 64 stages: 5 + 20 bytes for the cost, 7 + 20 for g, 7 + 20 for slack, 5 + 64 × 4 for the layers, 1 for the line feed.
-- The line of the counts and a refusal's are shorter.
abbrev pub max_line : ℕ
max_line = 341
