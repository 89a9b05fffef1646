-- `number` is right: after k bytes x is the number in those k bytes, and it is below 256^k, so the next byte fits.
use Prim.Native.Nat.{◌<◌, ◌^◌}
use mathlib.Core.Path.{◌≡◌}
use Rattle.rules.specs.Bytes.{number}
use Rattle.fields.proofs.number.Given as goal

abbrev pub invariant-loop-k : goal.invariant-loop-k
invariant-loop-k l = (l.x ≡ number l.net l.at l.k) × (l.x < 256 ^ l.k)
