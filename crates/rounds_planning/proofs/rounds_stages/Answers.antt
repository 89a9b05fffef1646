-- `rounds_stages` is right: the numbers it lays out are those of the net's tree of stages, and the rounds are right for every such tree.
use borrow.Author.Rules.{sfits_of}
use native.Mathlib.Omega.{arith}
use mir.Syntax.{w64}
use Rattle.rules.specs.Rounds.{last_run}
use Rattle.planning.specs.Calls.{arrival-sent}
use Rattle.rounds_planning.specs.Calls.{numbers_in_lem}
use Rattle.rounds_planning.proofs.rounds_stages.Goals as goal

pub best_of_rounds-requires : goal.best_of_rounds-requires
best_of_rounds-requires c =
    let G = c.requires in
    let e = arrival-sent (sfits_of {w = w64} c.arrival.type_inv) c.arrival.ensures in
    record { tree = _; numbers = numbers_in_lem G c.numbers.ensures e; last-most = omega (arith, G.some_round, G.most-rounds); long = G.room-enough }

pub returns : goal.returns
unfolding last_run
returns c =
    let e = arrival-sent (sfits_of {w = w64} c.arrival.type_inv) c.arrival.ensures in
    c.best_of_rounds.ensures _ (numbers_in_lem c.requires c.numbers.ensures e)
