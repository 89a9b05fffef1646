-- `delay_range` is right: the delays on the layers before l are from `least` to `most`.
use Rattle.windows.specs.Clauses.{DelayRange}
use Rattle.windows.proofs.delay_range.Given as goal

abbrev pub invariant-loop-l : goal.invariant-loop-l
invariant-loop-l l = DelayRange l.delay l.layers l.j l.l l.least l.most
