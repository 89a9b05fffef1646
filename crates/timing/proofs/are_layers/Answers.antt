-- `are_layers` is right: the number of every stage passes the test, and so the tests of all pass.
use Rattle.std.specs.Prelude.{◌↔◌, ◌<◌, IsTrue, EachIndex, slice_index}
use borrow.Author.Rules.{rules}
use Rattle.timing.specs.Slack.{layers-each}
use Rattle.timing.proofs.are_layers.Goals as goal

pub returns : goal.returns
returns c =
    let h : IsTrue c.all.result ↔ EachIndex c.args.plan.now (λ k. slice_index c.args.plan.now k < c.args.layers) = search rules in
    λ n e. layers-each n _ e h
