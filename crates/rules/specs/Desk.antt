-- 02, wish 8, 'A desk for hand changes': what an engineer has in mind of a desk, what each call makes of it and answers, and what a run of calls answers. What
-- a net, a plan, cost and slack are is laid down in the files of 01. t is a stage, l a layer.
use Rattle.std.specs.Prelude.{Bool, true, false, not, List, [], ◌∷◌, ℕ, ◌+◌, leb, ltb, length, get_or, set, replicate, pos}
use Rattle.std.proofs.Math.Option.{Option, none, some}
use Rattle.rules.specs.declared.Checked.{Checked}
use Rattle.rules.specs.declared.Judged.{Judged}
use Rattle.rules.specs.Tree.{Net, stages, layer_count}
use Rattle.rules.specs.Timing.{slack, cost}
use Rattle.rules.specs.Reading.{Answer, accept, refuse, ◌>>=◌, ◌>>◌, ◌unless◌, read}

-- The most bytes of a net that a desk takes (02, wish 8: '15 for a net above 4,096 bytes').
abbrev pub max_desk_net : ℕ
max_desk_net = 4096

-- What an open desk has (02, wish 8): 'a copy of the net, a plan and a lock for each stage'.
pub record Contents : Type 0 where
  pub net : Net
  pub plan : List ℕ
  pub locks : List Bool

-- A desk as an engineer has it in mind (02, wish 8: 'what a list of layers and locks would do'): never opened, or with a net, a list of layers and a list of
-- locks.
abbrev pub State : Type 0
State = Option Contents

-- Opening (02, wish 8) 'puts every stage on layer 0, unlocked'.
unfoldable pub laid_out : Net → Contents
laid_out n = record { net = n; plan = replicate (stages n) 0; locks = replicate (stages n) false }

-- Opening (02, wish 8), whatever the desk was, for 'an open desk is replaced': '15 for a net above 4,096 bytes, before 1 to 6', the reader's numbers of 01.
unfoldable pub open_desk : List ℕ → Answer Contents
open_desk bs = do
  15 unless leb (length bs) max_desk_net
  n ← read bs
  accept (laid_out n)

-- Every other call begins so (02, wish 8): '16 for any call but opening on a desk never opened, first'.
abbrev pub once_opened : State → Answer Contents
once_opened none = refuse 16
once_opened (some d) = accept d

-- A call that names a stage goes on so (02, wish 8): 'then 7 for a stage number not below s'.
unfoldable pub at_stage : State → ℕ → Answer Contents
at_stage m t = do
  d ← once_opened m
  7 unless ltb t (stages d.net)
  accept d

-- 'Setting moves one stage' (02, wish 8): 'then 8 for a layer, then 17 for setting a locked stage', also to the layer that it has.
unfoldable pub set_stage : State → ℕ → ℕ → Answer Contents
set_stage m t l = do
  d ← at_stage m t
  8 unless ltb l (layer_count d.net)
  17 unless not (get_or d.locks t false)
  accept (record { net = d.net; plan = set d.plan t l; locks = d.locks })

-- 'locking and unlocking mark one' (02, wish 8): a stage that is locked may be locked again, and the other way round.
unfoldable pub mark_stage : Bool → State → ℕ → Answer Contents
mark_stage lock m t = do
  d ← at_stage m t
  accept (record { net = d.net; plan = d.plan; locks = set d.locks t lock })

-- The calls (02, wish 8): opening, setting, locking, unlocking, and reading cost and slack.
pub data Call : Type 0 where
  to_open : List ℕ → Call
  to_set : ℕ → ℕ → Call
  to_lock : ℕ → Call
  to_unlock : ℕ → Call
  to_read : Call

-- What is on the desk after a call that is accepted (02, wish 8); reading alters nothing.
unfoldable pub called : State → Call → Answer Contents
called m (to_open bs) = open_desk bs
called m (to_set t l) = set_stage m t l
called m (to_lock t) = mark_stage true m t
called m (to_unlock t) = mark_stage false m t
called m to_read = once_opened m

-- 'A refused call keeps the desk' (02, wish 8).
abbrev pub kept : State → Answer Contents → State
kept m (accept d) = some d
kept m (refuse r) = m

-- The desk after a call (02, wish 8).
abbrev pub after : State → Call → State
after m c = kept m (called m c)

-- 'Opening gives the reader's counts' (02, wish 8), which 01, Reading, lays down: those that checking the same bytes gives.
abbrev pub open_counts : Answer Contents → Checked
open_counts (accept d) = record { refusal = 0; nodes = length d.net.nodes + 1; stages = stages d.net; layers = layer_count d.net }
open_counts (refuse r) = record { refusal = r; nodes = 0; stages = 0; layers = 0 }

-- 'the three changes give acceptance only' (02, wish 8).
abbrev pub acceptance : Answer Contents → ℕ
acceptance (accept d) = 0
acceptance (refuse r) = r

-- 'cost and slack may be read' (02, wish 8): those of the net and the plan on the desk, 'judged by the rules then in force'.
abbrev pub figures : Answer Contents → Judged
figures (accept d) = record { refusal = 0; cost = cost d.net d.plan; slack = slack d.net d.plan }
figures (refuse r) = record { refusal = r; cost = 0; slack = pos 0 }

-- What a call answers (02, wish 8): counts, acceptance, or cost and slack.
pub data Reply : Type 0 where
  counts_reply : Checked → Reply
  number_reply : ℕ → Reply
  figures_reply : Judged → Reply

-- Which of them a call answers with (02, wish 8).
abbrev pub reply_to : Call → Answer Contents → Reply
reply_to (to_open bs) a = counts_reply (open_counts a)
reply_to (to_set t l) a = number_reply (acceptance a)
reply_to (to_lock t) a = number_reply (acceptance a)
reply_to (to_unlock t) a = number_reply (acceptance a)
reply_to to_read a = figures_reply (figures a)

-- What a run of calls answers, one reply each, from this desk on (02, wish 8: 'every run of calls').
unfoldable pub replies : State → List Call → List Reply
replies m [] = []
replies m (c ∷ cs) = reply_to c (called m c) ∷ replies (after m c) cs

-- The desk after a run of calls (02, wish 8).
unfoldable pub after_all : State → List Call → State
after_all m [] = m
after_all m (c ∷ cs) = after_all (after m c) cs

-- The refusal number of a reply, 0 if it is none (02, wish 8).
abbrev pub reply_number : Reply → ℕ
reply_number (counts_reply c) = c.refusal
reply_number (number_reply r) = r
reply_number (figures_reply j) = j.refusal

-- The numbers that a call gives (02, wish 8, 'Answers'), 0 for acceptance: no call gives another (desk/specs/Numbers.antt).
abbrev pub call_numbers : Call → List ℕ
call_numbers (to_open bs) = 0 ∷ 1 ∷ 2 ∷ 3 ∷ 4 ∷ 5 ∷ 6 ∷ 15 ∷ []
call_numbers (to_set t l) = 0 ∷ 7 ∷ 8 ∷ 16 ∷ 17 ∷ []
call_numbers (to_lock t) = 0 ∷ 7 ∷ 16 ∷ []
call_numbers (to_unlock t) = 0 ∷ 7 ∷ 16 ∷ []
call_numbers to_read = 0 ∷ 16 ∷ []
