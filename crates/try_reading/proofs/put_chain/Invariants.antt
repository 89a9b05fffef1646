-- `put_chain` is safe: each node takes at most 23 bytes.
use Rattle.std.proofs.Common.{◌+◌, ◌*◌, ◌≤◌}
use Rattle.try_reading.proofs.put_chain.Given as goal

abbrev pub invariant-loop-parent : goal.invariant-loop-parent
invariant-loop-parent l = l.at ≤ 26 + 23 * l.parent
