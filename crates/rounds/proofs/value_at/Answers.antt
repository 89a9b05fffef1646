-- `value_at` is right: the bands stand for the least charges, and the first column of the first that reaches the arrival time is the tree's least.
use Rattle.std.proofs.Common.{None, Some, rules, arith}
use Rattle.rounds.proofs.Rounds.{round_is}
use Rattle.rounds.proofs.value_at.Goals as goal

pub returns-then-n-least : goal.returns-then-n-least
returns-then-n-least c =
    round_is None c.requires c.args.ready.now.prepared c.fill_rows.ensures (search rules) c.least_column-least.ensures (omega arith)

pub returns : goal.returns
returns c = round_is (Some _) c.requires c.args.ready.now.prepared c.fill_rows.ensures (search rules) c.least_column-least.ensures (omega arith, omega arith)
