-- Every run of calls on a desk that was cleared answers as the rules say, and leaves the record that they say (02, wish 8: 'From a fresh desk, every run of
-- calls must do what a list of layers and locks would do').
use Rattle.std.specs.Prelude.{◌≡◌, refl, List, [], ◌∷◌, ℕ, replicate}
use Rattle.std.proofs.Common.{ap, ◌∙◌}
use Rattle.std.proofs.Math.Option.{none}
use Rattle.std.proofs.lemmas.List.{length-replicate}
use Rattle.rules.specs.Bytes.{max_stages}
use Rattle.rules.specs.Desk.{max_desk_net, State, called, after, reply_to, replies, after_all}
use Rattle.rules.specs.Desk.{Call, to_open, to_set, to_lock, to_unlock, to_read, Reply, counts_reply, number_reply, figures_reply}
use Rattle.desk_record.specs.declared.Desk.{Desk}
use Rattle.desk_record.specs.OnRecord.{set_on, lock_on, unlock_on}
use Rattle.desk.specs.OnDesk.{open_on, read_on}
use Rattle.desk.specs.Stands.{Stands, Follows, set-follows, lock_follows, unlock_follows, read-follows, open_follows}

-- The record after a call, by the first clause of each open call.
abbrev pub record_after : Desk → Call → Desk
record_after d (to_open bs) = (open_on d bs).desk
record_after d (to_set t l) = (set_on d t l).desk
record_after d (to_lock t) = (lock_on d t).desk
record_after d (to_unlock t) = (unlock_on d t).desk
record_after d to_read = d

-- What the call answers.
abbrev pub record_reply : Desk → Call → Reply
record_reply d (to_open bs) = counts_reply (open_on d bs).answer
record_reply d (to_set t l) = number_reply (set_on d t l).answer
record_reply d (to_lock t) = number_reply (lock_on d t).answer
record_reply d (to_unlock t) = number_reply (unlock_on d t).answer
record_reply d to_read = figures_reply (read_on d)

-- What a run of calls answers.
unfoldable pub record_replies : Desk → List Call → List Reply
record_replies d [] = []
record_replies d (c ∷ cs) = record_reply d c ∷ record_replies (record_after d c) cs

-- The record after a run of calls.
unfoldable pub record_after_all : Desk → List Call → Desk
record_after_all d [] = d
record_after_all d (c ∷ cs) = record_after_all (record_after d c) cs

-- Memory that was cleared.
unfoldable pub fresh : Desk
fresh = record { used = 0; stages = 0; layers = 0; net = replicate max_desk_net 0; plan = replicate max_stages 0; locks = replicate max_stages 0 }

fresh-stands : Stands fresh none
unfolding fresh
fresh-stands = (
  record {
    net-long = length-replicate {A = ℕ} max_desk_net 0;
    plan-long = length-replicate {A = ℕ} max_stages 0;
    locks-long = length-replicate {A = ℕ} max_stages 0;
  },
  refl,
)

call-follows : (c : Call) (d : Desk) → Follows c d (record_after d c) (record_reply d c)
call-follows (to_open bs) d = open_follows d bs
call-follows (to_set t l) d = set-follows d t l
call-follows (to_lock t) d = lock_follows d t
call-follows (to_unlock t) d = unlock_follows d t
call-follows to_read d = read-follows d

-- From a record that stands for a desk in mind.
runs_follow : (cs : List Call) (d : Desk) (m : State) → Stands d m → (record_replies d cs ≡ replies m cs) × Stands (record_after_all d cs) (after_all m cs)
unfolding record_replies replies record_after_all after_all
runs_follow [] d m h = (refl, h)
runs_follow (c ∷ cs) d m h =
    let (k, e) = call-follows c d m h in
    let (es, s) = runs_follow cs (record_after d c) (after m c) k in (
      ap (λ (y : Reply). y ∷ record_replies (record_after d c) cs) e ∙ ap (λ (ys : List Reply). reply_to c (called m c) ∷ ys) es,
      s,
    )

-- From a fresh desk: the answers.
pub fresh-runs : (cs : List Call) → record_replies fresh cs ≡ replies none cs
fresh-runs cs = (runs_follow cs fresh none fresh-stands).0

-- From a fresh desk: what a host sees in the record, counts, layers and locks.
pub fresh_records : (cs : List Call) → Stands (record_after_all fresh cs) (after_all none cs)
fresh_records cs = (runs_follow cs fresh none fresh-stands).1
