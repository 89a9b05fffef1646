-- `link` is right: those from j on are linked, and one of lower number comes in front of them.
use Rattle.fanout.proofs.Links.{Linking}
use Rattle.fanout.proofs.link.Given as goal

abbrev pub invariant-loop-j : goal.invariant-loop-j
invariant-loop-j l = Linking l.owner l.initial.first l.initial.next l.count l.first l.next l.j
