-- What checking answers, from what the reader gave.
use mathlib.Core.Path.{◌≡◌, ap}
use mathlib.Core.Bool.{Bool}
use mathlib.Core.List.{List}
use Prim.Native.Nat.{ℕ, ◌+◌, ◌≤◌}
use native.Mathlib.Omega.{arith}
use Rattle.std.specs.Prelude.{Ok, Err}
use Rattle.rules.specs.declared.Refusal.{Refusal}
use Rattle.rules.specs.Bytes.{max_nodes}
use Rattle.rules.specs.Reading.{read, check}
use Rattle.rules.specs.Refusals.{number_of}
use Rattle.facts.specs.Answers.{turned_accepted, turned_refused}
use Rattle.facts.specs.Accepted.{accepted}
use Rattle.reader.specs.Net.{Counts, counts_of, counts, NetRead}
use Rattle.reader.specs.declared.NetCounts.{NetCounts}

module _ {bs w : List ℕ} {keep : Bool} where
  pub checked_refused : {why : Refusal} → NetRead bs keep (Err why) w → record { refusal = number_of why; nodes = 0; stages = 0; layers = 0 } ≡ check bs
  unfolding check counts
  checked_refused R = let e = turned_refused (read bs) counts_of R.answer in rw (e, check)

  module _ {n : NetCounts} (R : NetRead bs keep (Ok n) w) where
    pub checked_found : record { refusal = 0; nodes = n.nodes + 1; stages = n.stages; layers = n.layers } ≡ check bs
    unfolding check counts counts_of
    checked_found =
        let (m, e, q) = turned_accepted (read bs) counts_of R.answer in
        rw (e, check) (ap (λ (k : Counts). record { refusal = 0; nodes = k.nodes + 1; stages = k.stages; layers = k.layers }) q)

    pub few-read : n.nodes ≤ max_nodes
    unfolding counts counts_of
    few-read = let (m, e, q) = turned_accepted (read bs) counts_of R.answer in omega (arith, ap (λ (k : Counts). k.nodes) q, (accepted bs m e).few-nodes)
