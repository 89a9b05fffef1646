-- 01, 'Program': the line that the program prints, as bytes: `plan_line` if planning accepts the net, `refused_line` if it refuses.
use Rattle.std.specs.Prelude.{◌≡◌, refl, List, [], ◌∷◌, ◌++◌, map, ℕ, ◌^◌, ℤ, pos, negsuc}
use Rattle.rules.specs.Timing.{cost, slack}
use Rattle.rules.specs.Reading.{Answer, accept, refuse}
use Rattle.rules.specs.Planning.{Choice, planned}
use Rattle.rules.specs.Text.{ascii, space, line_feed, decimal_from, decimal, number_field, decimal_z, each_after}

-- The output words (01, Program: `cost 35 grain 4 slack 0 plan 0 1`), with the spaces around them. Before the cost.
abbrev pub cost_word : List ℕ
cost_word = ascii "cost "

-- Before g, the grain.
abbrev pub grain_word : List ℕ
grain_word = ascii " grain "

-- Before the slack.
abbrev pub slack_word : List ℕ
slack_word = ascii " slack "

-- Before the layers in stage order, each of which brings its own space.
abbrev pub plan_word : List ℕ
plan_word = ascii " plan"

-- Before a refusal's number (01, Program: 'A refusal prints `refused ` and its number').
abbrev pub refused_word : List ℕ
refused_word = ascii "refused "

-- The layers in stage order, a space before each.
unfoldable pub layer_numbers : List ℕ → List ℕ
layer_numbers plan = each_after space (map decimal plan)

-- The line of an accepted net: 'The fields are cost, g, slack and the layers in stage order', line feed at the end.
unfoldable pub plan_line : ℕ → ℕ → ℤ → List ℕ → List ℕ
plan_line cost g slack plan =
    number_field cost_word cost ++ number_field grain_word g ++ slack_word ++ decimal_z slack ++ plan_word ++ layer_numbers plan ++ line_feed

-- The line of a refusal: 'A refusal prints `refused ` and its number, then a line feed'.
unfoldable pub refused_line : ℕ → List ℕ
refused_line r = number_field refused_word r ++ line_feed

-- The entries of the program's table.
abbrev pub program_table : ℕ
program_table = 8192

-- The bytes of its plan buffer.
abbrev pub program_room : ℕ
program_room = 64

-- How the program plans: with share 1/4 and these two.
abbrev pub program_planned : List ℕ → Answer Choice
program_planned bs = planned bs 1 4 program_table program_room

-- The line for an input.
unfoldable pub program_line : List ℕ → List ℕ
program_line bs = elim (program_planned bs) [
  | accept c ↦ plan_line (cost c.net c.plan) (2 ^ c.k) (slack c.net c.plan) c.plan
  | refuse r ↦ refused_line r
]

-- The line that 01 prints for net B, a line with a negative slack and numbers of two digits or more, and a refusal, by computing the definitions.
pub printed : (plan_line 35 4 (pos 0) (0 ∷ 1 ∷ []) ≡ ascii "cost 35 grain 4 slack 0 plan 0 1\n")
    × (plan_line 1000000 1 (negsuc 599) (15 ∷ []) ≡ ascii "cost 1000000 grain 1 slack -600 plan 15\n")
    × (refused_line 12 ≡ ascii "refused 12\n")
unfolding decimal_from decimal decimal_z layer_numbers plan_line refused_line
printed = (refl, refl, refl)
