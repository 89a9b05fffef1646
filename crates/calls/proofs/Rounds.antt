-- What planning by rounds answers, by the refusals in their order, from what the reader gave.
use mathlib.Core.Path.{◌≡◌}
use mathlib.Core.Bool.{Bool, true, false}
use mathlib.Core.List.{List}
use Prim.Native.Nat.{ℕ, ◌≤◌, ◌<◌}
use native.Mathlib.Omega.{arith}
use lib.ListN.{length}
use borrow.Author.Tests.{lt-leb, ne_eqb}
use Rattle.std.specs.Prelude.{Result, Err, MatchResult}
use Rattle.std.proofs.lemmas.Result.{MatchResult-weaker}
use Rattle.laws.specs.Basic.{within}
use Rattle.laws.specs.Booleans.{within-true}
use Rattle.rules.specs.declared.Refusal.{Refusal}
use Rattle.rules.specs.declared.Refusal.TheVariants as refusal
use Rattle.rules.specs.Tree.{stages}
use Rattle.rules.specs.Reading.{refuse, read}
use Rattle.rules.specs.Rounds.{max_rounds, planned_rounds}
use Rattle.rules.specs.Refusals.{number_of}
use Rattle.facts.specs.Answers.{turned_refused}
use Rattle.facts.specs.Refusals.{read-numbered}
use Rattle.demands.specs.RoundsCall.{rounds-unread, rounds_14, rounds_10}
use Rattle.reader.specs.Net.{counts_of, counts, NetRead}
use Rattle.reader.specs.declared.NetCounts.{NetCounts}
use Rattle.reader.specs.Kept.{Kept}
use Rattle.words.specs.Words.{net_in}
use Rattle.rounds_planning.specs.Calls.{RoundsAdmitted, rounds-kept}
use Rattle.calls.specs.Admissions.{EarlyRoundsRefused, MayRun}

module _ (bs : List ℕ) (r room : ℕ) where
  -- a refusal before the rounds
  before-rounds : {m : ℕ} → ((entries : ℕ) → planned_rounds bs r entries room ≡ refuse m) → (m ≡ 12 → ⊥) → EarlyRoundsRefused bs r room m
  before-rounds {m} e other = record { kept = λ table buffer h. rounds-kept bs r table buffer (rw h (e (length table))) (ne_eqb m 12 other) }

  pub unread-by-rounds : {why : Refusal} {keep : Bool} {w : List ℕ} → NetRead bs keep (Err why) w → MayRun bs r room (Err why) w
  unfolding counts
  unread-by-rounds {why} R =
      let e = turned_refused (read bs) counts_of R.answer in
      before-rounds (λ entries. rounds-unread bs r entries room e) (λ d. omega (arith, (read-numbered bs).low (number_of why) e))

  module _ {w : List ℕ} {nodes layers s : ℕ} (K : Kept bs w nodes s layers) where
    pub refused_14 : within 1 max_rounds r ≡ false → MayRun bs r room (Err refusal.WrongRounds) w
    refused_14 t14 = before-rounds (λ entries. rounds_14 bs r entries room K.holds t14) (λ d. omega arith)

    module _ (t14 : within 1 max_rounds r ≡ true) where
      pub refused_10 : room < s → EarlyRoundsRefused bs r room 10
      refused_10 h =
          let t10 = lt-leb (stages (net_in w)) room (omega (arith, K.stages-are)) in
          before-rounds (λ entries. rounds_10 bs r entries room K.holds t14 t10) (λ d. omega arith)

      pub admitted-by-rounds : s ≤ room → RoundsAdmitted w nodes layers s r room
      admitted-by-rounds h =
          let (some_round, most) = within-true 1 max_rounds r t14 in
          record { held = K.held; stages-are = K.stages-are; some_round = some_round; most-rounds = most; room-enough = h }

  module _ {w : List ℕ} {n : NetCounts} (K : Kept bs w n.nodes n.stages n.layers) (t14 : within 1 max_rounds r ≡ true) where
    -- the last test, as `with_room` makes it
    pub rounds-roomy : (found : Result NetCounts Refusal)
        → MatchResult found (λ m. (m ≡ n) × (n.stages ≤ room)) (λ why. (why ≡ refusal.NoRoom) × (room < n.stages)) → MayRun bs r room found w
    rounds-roomy found t =
        MatchResult-weaker found t
        (λ m h. rw h.0 (K.holds, admitted-by-rounds K t14 h.1))
        (λ why h. rw h.0 (refused_10 K t14 h.1))
