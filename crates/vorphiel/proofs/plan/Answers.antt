-- `plan` is right: the answer is that of the definition, and demands 2 and 3 follow for every answer that is.
use Rattle.demands.specs.Call.{demand_2, demand_3}
use Rattle.vorphiel.proofs.plan.Goals as goal

pub returns : goal.returns
returns c =
    let E = c.planned.ensures in
    record { equation = E; demand2 = demand_2 _ _ _ _ _ _ E; demand3 = demand_3 _ _ _ _ _ _ E }
