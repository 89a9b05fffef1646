-- The line of a net that checking accepts, as bytes: `nodes 3 stages 2 layers 2` for net B of 01, line feed at the end.
use Rattle.std.specs.Prelude.{List, ◌++◌, ℕ}
use Rattle.rules.specs.Text.{ascii, line_feed, number_field}

-- The words before the three counts, with the spaces around them. Before the nodes.
abbrev pub nodes_word : List ℕ
nodes_word = ascii "nodes "

-- Before the stages.
abbrev pub stages_word : List ℕ
stages_word = ascii " stages "

-- Before the layers.
abbrev pub layers_word : List ℕ
layers_word = ascii " layers "

-- The line of the counts (01, Reading: 'Accepted: the counts of nodes (driver included), stages and layers'), in that order.
unfoldable pub counts_line : ℕ → ℕ → ℕ → List ℕ
counts_line nodes stages layers = number_field nodes_word nodes ++ number_field stages_word stages ++ number_field layers_word layers ++ line_feed
