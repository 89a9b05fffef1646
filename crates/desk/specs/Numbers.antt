-- The refusal numbers of each call of the desk, exactly those that 02 lists (wish 8, 'Answers'); and for every content of a record, that a call answers with
-- one listed number, and that a refusal gives zeros and keeps the record.
use Rattle.std.specs.Prelude.{◌≡◌, refl, Bool, true, false, ℕ, ◌≤◌, leb, ltb, eqb, length, get_or, take}
use Rattle.std.proofs.Common.{ap, ◌∙◌, arith, eqb-true, ne_eqb}
use Rattle.std.proofs.Math.Option.{none, some}
use mathlib.Core.List.Memᴰ
use mathlib.Core.List.{List, [], ◌∷◌, Memᴰ}
use Rattle.laws.specs.Basic.{from}
use Rattle.laws.specs.Lists.{mem-from}
use Rattle.rules.specs.declared.Judged.{Judged}
use Rattle.rules.specs.Tree.{Net, stages, layer_count, are_layers}
use Rattle.rules.specs.Reading.{Answer, accept, refuse, read, check}
use Rattle.rules.specs.Judging.{judged, judge}
use Rattle.rules.specs.Desk.{max_desk_net, State, open_desk, at_stage, set_stage, mark_stage, called, open_counts, acceptance, figures, reply_to}
use Rattle.rules.specs.Desk.{Call, to_open, to_set, to_lock, to_unlock, to_read, Reply, counts_reply, figures_reply, reply_number, call_numbers}
use Rattle.facts.specs.Refusals.{Numbered, accept-numbered, then_numbered, unless_numbered, wider-numbered, read-numbered}
use Rattle.facts.specs.Stages.{stages-some}
use Rattle.desk_record.specs.declared.Desk.{Desk}
use Rattle.desk_record.specs.OnRecord.{change_refusal, is_open, has_stage, has_layer, is_locked, changed, set_number, mark_number, moved, marked, set_on, mark_on}
use Rattle.desk_record.specs.OnRecord.{open_with, is_readable}
use Rattle.desk.specs.OnDesk.{open_on, read_on}
use Rattle.desk.specs.Runs.{record_after, record_reply}

-- The numbers of opening are 0 to 6, and 15.
low-opening : (bs : List ℕ) (r : ℕ) → r ≤ 6 → Memᴰ r (call_numbers (to_open bs))
low-opening bs r h = Memᴰ.append_left (15 ∷ []) (mem-from 0 7 r (omega arith) (omega arith))

long-opening : (bs : List ℕ) → Memᴰ 15 (call_numbers (to_open bs))
long-opening bs = Memᴰ.append_right (from 0 7) (Memᴰ.head refl)

-- Those of a change.
change_number : (a b c k : Bool) → Memᴰ (change_refusal a b c k) (0 ∷ 7 ∷ 8 ∷ 16 ∷ 17 ∷ [])
unfolding change_refusal
change_number false b c k = Memᴰ.tail (Memᴰ.tail (Memᴰ.tail (Memᴰ.head refl)))
change_number true false c k = Memᴰ.tail (Memᴰ.head refl)
change_number true true false k = Memᴰ.tail (Memᴰ.tail (Memᴰ.head refl))
change_number true true true true = Memᴰ.tail (Memᴰ.tail (Memᴰ.tail (Memᴰ.tail (Memᴰ.head refl))))
change_number true true true false = Memᴰ.head refl

mark_number_lem : (a b : Bool) → Memᴰ (change_refusal a b true false) (0 ∷ 7 ∷ 16 ∷ [])
unfolding change_refusal
mark_number_lem false b = Memᴰ.tail (Memᴰ.tail (Memᴰ.head refl))
mark_number_lem true false = Memᴰ.tail (Memᴰ.head refl)
mark_number_lem true true = Memᴰ.head refl

-- The number of a change is its answer.
changed-answer : (d : Desk) (r : ℕ) (w : Desk) → (changed d r w).answer ≡ r
changed-answer d r w = go (eqb r 0) refl
  where
    go : (b : Bool) → eqb r 0 ≡ b → (changed d r w).answer ≡ r
    go true e = let z = eqb-true r 0 e in rw (e, z) refl
    go false e = rw e refl

set-answer : (d : Desk) (t l : ℕ) → (set_on d t l).answer ≡ set_number d t l
unfolding set_on
set-answer d t l = changed-answer d (set_number d t l) (moved d t l)

mark_answer : (d : Desk) (t b : ℕ) → (mark_on d t b).answer ≡ mark_number d t
unfolding mark_on
mark_answer d t b = changed-answer d (mark_number d t) (marked d t b)

-- What reading gives for any content: judging's numbers, or 16.
judged-low : (bs x : List ℕ) → Numbered 8 (judged bs x)
unfolding judged
judged-low bs x =
    then_numbered (read bs) _ (wider-numbered 8 (omega arith) (read-numbered bs)) (λ n.
    unless_numbered 7 (eqb (length x) (stages n)) _ (omega arith) (omega arith)
    (unless_numbered 8 (are_layers n x) _ (omega arith) (omega arith) (accept-numbered 8 n)))

judge-low : (bs x : List ℕ) → (judge bs x).refusal ≤ 8
unfolding judge
judge-low bs x = go (judged bs x) refl
  where
    go : (a : Answer Net) → judged bs x ≡ a → (judge bs x).refusal ≤ 8
    go (accept n) e = rw (e, judge) (omega arith)
    go (refuse r) e = rw (e, judge) ((judged-low bs x).low r e)

mark_listed : (m : State) (t : ℕ) (b : Bool) → Memᴰ (acceptance (mark_stage b m t)) (0 ∷ 7 ∷ 16 ∷ [])
unfolding mark_stage at_stage
mark_listed none t b = Memᴰ.tail (Memᴰ.tail (Memᴰ.head refl))
mark_listed (some s) t b = go (ltb t (stages s.net)) refl
  where
    go : (a : Bool) → ltb t (stages s.net) ≡ a → Memᴰ (acceptance (mark_stage b (some s) t)) (0 ∷ 7 ∷ 16 ∷ [])
    go false p = rw p (Memᴰ.tail (Memᴰ.head refl))
    go true p = rw p (Memᴰ.head refl)

-- No call gives another number than those listed: of a desk in mind.
pub call-numbers : (m : State) (c : Call) → Memᴰ (reply_number (reply_to c (called m c))) (call_numbers c)
unfolding called open_desk set_stage mark_stage at_stage
call-numbers m (to_open bs) = go (leb (length bs) max_desk_net) (read bs) refl refl
  where
    go : (b : Bool) (a : Answer Net) → leb (length bs) max_desk_net ≡ b → read bs ≡ a
        → Memᴰ (reply_number (reply_to (to_open bs) (called m (to_open bs)))) (call_numbers (to_open bs))
    go false a p e = rw p (long-opening bs)
    go true (refuse r) p e = rw (p, e) (low-opening bs r ((read-numbered bs).low r e))
    go true (accept n) p e = rw (p, e) (low-opening bs 0 (omega arith))
call-numbers none (to_set t l) = Memᴰ.tail (Memᴰ.tail (Memᴰ.tail (Memᴰ.head refl)))
call-numbers (some s) (to_set t l) = go (ltb t (stages s.net)) (ltb l (layer_count s.net)) (get_or s.locks t false) refl refl refl
  where
    go : (a b c : Bool) → ltb t (stages s.net) ≡ a → ltb l (layer_count s.net) ≡ b → get_or s.locks t false ≡ c
        → Memᴰ (reply_number (reply_to (to_set t l) (called (some s) (to_set t l)))) (call_numbers (to_set t l))
    go false b c p q r = rw p (Memᴰ.tail (Memᴰ.head refl))
    go true false c p q r = rw (p, q) (Memᴰ.tail (Memᴰ.tail (Memᴰ.head refl)))
    go true true true p q r = rw (p, q, r) (Memᴰ.tail (Memᴰ.tail (Memᴰ.tail (Memᴰ.tail (Memᴰ.head refl)))))
    go true true false p q r = rw (p, q, r) (Memᴰ.head refl)
call-numbers m (to_lock t) = mark_listed m t true
call-numbers m (to_unlock t) = mark_listed m t false
call-numbers none to_read = Memᴰ.tail (Memᴰ.head refl)
call-numbers (some s) to_read = Memᴰ.head refl

-- The numbers for every content of a record: the same, but that reading gives what judging gives for the bytes that stand there.
abbrev pub content_numbers : Call → List ℕ
content_numbers (to_open bs) = call_numbers (to_open bs)
content_numbers (to_set t l) = call_numbers (to_set t l)
content_numbers (to_lock t) = call_numbers (to_lock t)
content_numbers (to_unlock t) = call_numbers (to_unlock t)
content_numbers to_read = 0 ∷ 1 ∷ 2 ∷ 3 ∷ 4 ∷ 5 ∷ 6 ∷ 7 ∷ 8 ∷ 16 ∷ []

-- And of every record.
pub content_numbers_lem : (d : Desk) (c : Call) → Memᴰ (reply_number (record_reply d c)) (content_numbers c)
unfolding open_on open_with check read_on
content_numbers_lem d (to_open bs) = go (leb (length bs) max_desk_net) (read bs) refl refl
  where
    go : (b : Bool) (a : Answer Net) → leb (length bs) max_desk_net ≡ b → read bs ≡ a → Memᴰ (open_on d bs).answer.refusal (call_numbers (to_open bs))
    go false a p e = rw p (long-opening bs)
    go true (refuse r) p e = rw (p, e, check) (low-opening bs r ((read-numbered bs).low r e))
    go true (accept n) p e = rw (p, e, check, ne_eqb (stages n) 0 (λ q. absurd (omega (arith, q, stages-some n)))) (low-opening bs 0 (omega arith))
content_numbers_lem d (to_set t l) = rw (set-answer d t l) (change_number (is_open d) (has_stage d t) (has_layer d l) (is_locked (get_or d.locks t 0)))
content_numbers_lem d (to_lock t) = rw (mark_answer d t 1) (mark_number_lem (is_open d) (has_stage d t))
content_numbers_lem d (to_unlock t) = rw (mark_answer d t 0) (mark_number_lem (is_open d) (has_stage d t))
content_numbers_lem d to_read = go (is_readable d.used d.stages) refl
  where
    go : (b : Bool) → is_readable d.used d.stages ≡ b → Memᴰ (read_on d).refusal (content_numbers to_read)
    go false p = rw p (Memᴰ.append_right (from 0 9) (Memᴰ.head refl))
    go true p =
        let bs = take d.used d.net in
        let x = take d.stages d.plan in
        rw p (Memᴰ.append_left (16 ∷ []) (mem-from 0 9 (judge bs x).refusal (omega arith) (omega (arith, judge-low bs x))))

-- A change that is refused keeps the desk.
changed_keeps : (d : Desk) (r : ℕ) (w : Desk) → ((changed d r w).answer ≡ 0 → ⊥) → (changed d r w).desk ≡ d
changed_keeps d r w o = rw (ne_eqb r 0 (λ e. o (changed-answer d r w ∙ e))) refl

set_keeps : (d : Desk) (t l : ℕ) → ((set_on d t l).answer ≡ 0 → ⊥) → (set_on d t l).desk ≡ d
unfolding set_on
set_keeps d t l = changed_keeps d (set_number d t l) (moved d t l)

mark_keeps : (d : Desk) (t b : ℕ) → ((mark_on d t b).answer ≡ 0 → ⊥) → (mark_on d t b).desk ≡ d
unfolding mark_on
mark_keeps d t b = changed_keeps d (mark_number d t) (marked d t b)

-- Judging that is refused gives zeros.
judge-zeros : (bs x : List ℕ) → ((judge bs x).refusal ≡ 0 → ⊥) → judge bs x ≡ figures (refuse (judge bs x).refusal)
unfolding judge
judge-zeros bs x o = go (judged bs x) refl
  where
    go : (a : Answer Net) → judged bs x ≡ a → judge bs x ≡ figures (refuse (judge bs x).refusal)
    go (accept n) e = let z : (judge bs x).refusal ≡ 0 = rw (e, judge) refl in absurd (o z)
    go (refuse r) e = rw (e, judge) refl

-- Whatever a record holds, a refused call gives zeros and keeps the record.
pub refused-zeros : (d : Desk) (c : Call) → (reply_number (record_reply d c) ≡ 0 → ⊥)
    → (record_reply d c ≡ reply_to c (refuse (reply_number (record_reply d c)))) × (record_after d c ≡ d)
unfolding open_on open_with check read_on
refused-zeros d (to_open bs) o = go (leb (length bs) max_desk_net) (read bs) refl refl
  where
    go : (b : Bool) (a : Answer Net) → leb (length bs) max_desk_net ≡ b → read bs ≡ a
        → (◌≡◌ {A = Reply} (counts_reply (open_on d bs).answer) (counts_reply (open_counts (refuse (open_on d bs).answer.refusal)))) × ((open_on d bs).desk ≡ d)
    go false a p e = rw p (refl, refl)
    go true (refuse r) p e = rw (p, e, check) (refl, refl)
    go true (accept n) p e =
        let z : (open_on d bs).answer.refusal ≡ 0 = rw (p, e, check, ne_eqb (stages n) 0 (λ q. absurd (omega (arith, q, stages-some n)))) refl in
        absurd (o z)
refused-zeros d (to_set t l) o = (refl, set_keeps d t l o)
refused-zeros d (to_lock t) o = (refl, mark_keeps d t 1 o)
refused-zeros d (to_unlock t) o = (refl, mark_keeps d t 0 o)
refused-zeros d to_read o = (ap figures_reply (go (is_readable d.used d.stages) refl), refl)
  where
    go : (b : Bool) → is_readable d.used d.stages ≡ b → read_on d ≡ figures (refuse (read_on d).refusal)
    go false p = rw p refl
    go true p =
        let bs = take d.used d.net in
        let x = take d.stages d.plan in
        let e : read_on d ≡ judge bs x = rw p refl in
        rw p (judge-zeros bs x (λ z. o (ap (λ (j : Judged). j.refusal) e ∙ z)))
