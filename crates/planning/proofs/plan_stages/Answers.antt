-- `plan_stages` is right: the numbers it lays out are those of the net's tree of stages, and the search is right for every such tree.
use borrow.Author.Rules.{sfits_of}
use mir.Syntax.{w64}
use Rattle.planning.specs.Calls.{problem_in, arrival-sent}
use Rattle.planning.proofs.plan_stages.Goals as goal

pub plan_tree-requires : goal.plan_tree-requires
plan_tree-requires c =
    let e = arrival-sent (sfits_of {w = w64} c.arrival.type_inv) c.arrival.ensures in
    record { tree = _; problem = problem_in c.requires c.numbers.ensures e; plan-long = c.requires.room-enough }

pub returns : goal.returns
returns c =
    let e = arrival-sent (sfits_of {w = w64} c.arrival.type_inv) c.arrival.ensures in
    c.plan_tree.ensures _ (problem_in c.requires c.numbers.ensures e)
