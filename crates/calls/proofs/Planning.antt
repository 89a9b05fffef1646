-- What planning answers, by the refusals in their order, from what the reader gave.
use mathlib.Core.Path.{◌≡◌}
use mathlib.Core.Bool.{Bool, true, false, ◌&&◌}
use mathlib.Core.List.{List}
use Prim.Native.Nat.{ℕ, ◌≤◌, ◌<◌}
use native.Mathlib.Omega.{arith}
use lib.Dec.{leb}
use lib.ListN.{length}
use borrow.Author.Tests.{lt-leb, ne_eqb}
use Rattle.std.specs.Prelude.{Result, Err, MatchResult}
use Rattle.std.proofs.lemmas.Result.{MatchResult-weaker}
use Rattle.laws.specs.Basic.{within}
use Rattle.rules.specs.declared.Refusal.{Refusal}
use Rattle.rules.specs.declared.Refusal.TheVariants as refusal
use Rattle.rules.specs.Tree.{stages}
use Rattle.rules.specs.Reading.{refuse, read}
use Rattle.rules.specs.Planning.{max_share, planned}
use Rattle.rules.specs.Refusals.{number_of}
use Rattle.facts.specs.Answers.{turned_refused}
use Rattle.facts.specs.Refusals.{read-numbered}
use Rattle.demands.specs.Call.{share_out, unread-refused}
use Rattle.reader.specs.Net.{counts_of, counts, NetRead}
use Rattle.reader.specs.declared.NetCounts.{NetCounts}
use Rattle.reader.specs.Kept.{Kept}
use Rattle.words.specs.Words.{net_in}
use Rattle.planning.specs.Calls.{Share, Admitted, kept-answer}
use Rattle.calls.specs.Admissions.{EarlyRefused, MayPlan}

pub share_of : {p q : ℕ} → leb p max_share && within 1 max_share q ≡ true → Share p q
share_of {p} {q} e = let (most, some-part, parts) = share_out p q e in record { most = most; some-part = some-part; parts = parts }

module _ (bs : List ℕ) (p q room : ℕ) where
  -- a refusal before the search
  early : {r : ℕ} → ((entries : ℕ) → planned bs p q entries room ≡ refuse r) → r < 12 → EarlyRefused bs p q room r
  early {r} e low = record { kept = λ table buffer h. kept-answer bs p q table buffer (rw h (e (length table))) (ne_eqb r 12 (λ d. omega arith)) }

  pub plan-unread : {why : Refusal} {keep : Bool} {w : List ℕ} → NetRead bs keep (Err why) w → MayPlan bs p q room (Err why) w
  unfolding counts
  plan-unread {why} R =
      let e = turned_refused (read bs) counts_of R.answer in
      let low = (read-numbered bs).low (number_of why) e in
      early (λ entries. unread-refused bs p q entries room e) (omega arith)

  module _ {w : List ℕ} {nodes layers s : ℕ} (K : Kept bs w nodes s layers) where
    pub plan_9 : leb p max_share && within 1 max_share q ≡ false → MayPlan bs p q room (Err refusal.WrongShare) w
    unfolding planned
    plan_9 t9 = early (λ entries. simp (K.holds, t9)) (omega arith)

    module _ (t9 : leb p max_share && within 1 max_share q ≡ true) where
      pub plan_10 : room < s → EarlyRefused bs p q room 10
      unfolding planned
      plan_10 h =
          let t10 = lt-leb (stages (net_in w)) room (omega (arith, K.stages-are)) in
          early (λ entries. simp (K.holds, t9, t10)) (omega arith)

      pub admitted : s ≤ room → Admitted w nodes layers s p q room
      admitted h = record { held = K.held; stages-are = K.stages-are; share = share_of t9; room-enough = h }

  module _ {w : List ℕ} {n : NetCounts} (K : Kept bs w n.nodes n.stages n.layers) (t9 : leb p max_share && within 1 max_share q ≡ true) where
    -- the last test, as `with_room` makes it
    pub plan-roomy : (r : Result NetCounts Refusal)
        → MatchResult r (λ m. (m ≡ n) × (n.stages ≤ room)) (λ why. (why ≡ refusal.NoRoom) × (room < n.stages)) → MayPlan bs p q room r w
    plan-roomy r t =
        MatchResult-weaker r t
        (λ m h. rw h.0 (K.holds, admitted K t9 h.1))
        (λ why h. rw h.0 (plan_10 K t9 h.1))
