-- `lower_limits` is right: on each layer the limit becomes the lesser of what it was and what the sink asks.
use lib.IntN.{pos}
use Rattle.rules.specs.Bytes.{max_layers}
use Rattle.slices.specs.Rows.{Setting}
use Rattle.stage_numbers.specs.LimitRows.{lowered}
use Rattle.stage_numbers.proofs.lower_limits.Given as goal

abbrev pub invariant-loop-l : goal.invariant-loop-l
invariant-loop-l l = Setting (pos 0) max_layers l.initial.limit l.limit l.t l.delays.layers l.l
    (lowered l.delays.layers l.initial.limit l.delays.delay.now l.j l.required l.t)
