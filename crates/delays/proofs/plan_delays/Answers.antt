-- `plan_delays` is right: the plan gives each stage one column, its layer, and in a table of one column entry j is that of node j.
use Prim.Native.Nat.{◌+◌}
use native.Mathlib.Omega.{arith}
use Rattle.rules.specs.Bytes.{max_nodes}
use Rattle.loads.specs.Columns.{plan-columns}
use Rattle.loads.specs.Loaded.{unloaded_zeros}
use Rattle.delays.specs.Delayed.{plan-delays}
use Rattle.delays.proofs.plan_delays.Goals as goal

pub loads-requires : goal.loads-requires
loads-requires c = let s = c.requires in (plan-columns s.0, unloaded_zeros 1 (max_nodes + 1) (omega arith))

pub returns : goal.returns
returns c = plan-delays c.delays.ensures
