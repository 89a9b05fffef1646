-- The two functions end together: each call goes to a later node, so the nodes that remain fall.
use Prim.Native.Nat.{ℕ, ◌+◌, ◌-◌, ◌*◌}
use mathlib.Core.List.{List}
use Rattle.words.specs.Net.{net_of}
use Rattle.required.specs.Timed.{TimedBy}
use Rattle.required.proofs.Loop.{LeastSoFar}
use Rattle.required.proofs.+stage_required_terminal_required.Given as goal

-- The nodes after the root, twice,
abbrev pub decreases-stage_required : goal.decreases-stage_required
decreases-stage_required l = 2 * (l.net.now.nodes - l.i)

-- and those after the terminal, twice and one more: so each calls the other with less.
abbrev pub decreases-terminal_required : goal.decreases-terminal_required
decreases-terminal_required l = 2 * (l.net.now.nodes - l.j) + 1

-- Under every plan of which the tables tell, the loop has come to node j.
abbrev pub invariant-stage_required-loop-j : goal.invariant-stage_required-loop-j
invariant-stage_required-loop-j l =
    (plan : List ℕ) → TimedBy (net_of l.net) l.tables plan → LeastSoFar l.net.words.now plan l.net.nodes l.i l.j l.least

-- The nodes that remain fall.
abbrev pub decreases-stage_required-loop-j : goal.decreases-stage_required-loop-j
decreases-stage_required-loop-j l = l.net.nodes + 1 - l.j
