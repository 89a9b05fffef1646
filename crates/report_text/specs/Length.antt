-- How long the text of a report can be (02, wish 2). A number of 64 bits has at most 20 digits.
use Rattle.std.specs.Prelude.{ℕ, ◌+◌, ◌*◌}
use Rattle.rules.specs.Bytes.{max_layers}
use Rattle.rules.specs.Block.{net_numbers}

-- The longest words before a number: `planned ` and `refused `.
abbrev pub max_word : ℕ
max_word = 8

-- A line of one number after a word of w bytes: the word, the digits, the line feed.
abbrev pub max_count_line : ℕ → ℕ
max_count_line w = w + 20 + 1

-- A line of two numbers: a word and digits, then a space for a word.
abbrev pub max_met_line : ℕ
max_met_line = max_word + 20 + max_count_line 1

-- Three lines of one number, and a line for each refusal number and each layer. A refusal's line is shorter (line/specs/Length.antt).
abbrev pub max_report : ℕ
max_report = 3 * max_count_line max_word + (net_numbers + max_layers) * max_met_line
