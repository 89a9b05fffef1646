-- The terminals of each stage in number order, as links: `first` has for each stage its first terminal, `next` for each terminal the next of the same stage.
-- No other node is linked, for a stage's required time rests on its terminals alone (01, Timing rule).
use Rattle.std.specs.Prelude.{◌≡◌, List, ℕ, ◌+◌, ◌≤◌, length}
use Rattle.laws.specs.Links.{LinkedAfter}
use Rattle.rules.specs.Tree.{Net, stages}
use Rattle.rules.specs.Bytes.{max_nodes, max_stages}
use Rattle.facts.specs.Stages.{TerminalOf}

-- What a link has where no further terminal follows: no node has this number.
abbrev pub no_terminal : ℕ
no_terminal = max_nodes + 1

-- The terminals after node j are linked.
pub record TerminalsAfter (n : Net) (first next : List ℕ) (j : ℕ) : Type 0 where
  pub most : j ≤ length n.nodes
  pub first-long : length first ≡ max_stages
  pub next-long : length next ≡ max_nodes + 1
  pub links : LinkedAfter (TerminalOf n) no_terminal (stages n) first next j

-- All terminals: the driver is none.
abbrev pub TerminalsLinked : Net → List ℕ → List ℕ → Type 0
TerminalsLinked n first next = TerminalsAfter n first next 0
