-- `stage_costs` is right: before node j the table holds the costs of the edges before it, stage by stage.
use Rattle.words.specs.Words.{net_in}
use Rattle.costs.specs.Pricing.{Pricing}
use Rattle.costs.proofs.stage_costs.Given as goal

abbrev pub invariant-loop-j : goal.invariant-loop-j
invariant-loop-j l = Pricing (net_in l.edges.net.words.now) l.costs l.j
