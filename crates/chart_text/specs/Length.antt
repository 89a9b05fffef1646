-- How long the chart's text can be (02, wish 1). It is shorter: most of its numbers have fewer than five digits.
use Rattle.std.specs.Prelude.{ℕ, ◌+◌, ◌*◌}
use Rattle.rules.specs.Bytes.{max_stages}

-- A line without its line feed: ten numbers of at most five digits, nine spaces.
abbrev pub max_row : ℕ
max_row = 59

-- A line and its line feed for each s.
abbrev pub max_chart : ℕ
max_chart = max_stages * (max_row + 1)
