-- `link_terminals` is right: the terminals after node j are linked, and a terminal j comes in front of those of its stage.
use Rattle.words.specs.Net.{net_of}
use Rattle.required.specs.Links.{TerminalsAfter}
use Rattle.required.proofs.link_terminals.Given as goal

abbrev pub invariant-loop-j : goal.invariant-loop-j
invariant-loop-j l = TerminalsAfter (net_of l.edges.net) l.first l.next l.j
