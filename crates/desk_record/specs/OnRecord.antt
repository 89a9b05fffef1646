-- What setting, locking, unlocking and opening make of the desk's record, and their answers, for every content that a record can have (02, wish 8). Of a record
-- that the calls made this is what an engineer has in mind (desk/specs/Stands.antt). t is a stage, l a layer.
use Rattle.std.specs.Prelude.{◌≡◌, refl, Bool, true, false, not, ◌&&◌, List, ◌++◌, ℕ, ◌+◌, ◌*◌, ◌≤◌, ◌<◌, leb, ltb, eqb, length, get_or, set, drop, replicate, if◌then◌else◌}
use Rattle.std.proofs.Common.{arith, ltb-true, leb-true, ne_eqb}
use Rattle.laws.specs.Booleans.{and_right, and_three}
use Rattle.rules.specs.declared.Checked.{Checked}
use Rattle.rules.specs.Bytes.{max_layers, max_stages}
use Rattle.rules.specs.Desk.{max_desk_net}
use Rattle.desk_record.specs.declared.Desk.{Desk}
use Rattle.desk_record.specs.declared.Changed.{Changed}
use Rattle.desk_record.specs.declared.Opened.{Opened}

-- The bytes of a record: three numbers of 8 bytes, then arrays of bytes; no gaps.
abbrev pub desk_size : ℕ
desk_size = 3 * 8 + max_desk_net + 2 * max_stages

-- The order of a change's numbers: 16, first; then 7 for the stage, then 8 for the layer, then 17 for the lock; 0 if none of them is due.
unfoldable pub change_refusal : Bool → Bool → Bool → Bool → ℕ
change_refusal opened stage layer locked = if not opened then 16 else if not stage then 7 else if not layer then 8 else if locked then 17 else 0

-- A desk is open if it has stages; stage t and layer l are there if they are below the desk's counts, and below the places there are.
abbrev pub is_open : Desk → Bool
is_open d = not (eqb d.stages 0)

abbrev pub has_stage : Desk → ℕ → Bool
has_stage d t = ltb t d.stages && ltb t max_stages

abbrev pub has_layer : Desk → ℕ → Bool
has_layer d l = ltb l d.layers && ltb l max_layers

-- A lock's mark.
abbrev pub is_locked : ℕ → Bool
is_locked b = not (eqb b 0)

-- A change with this number leaves this desk: a refused one keeps the desk that was there.
abbrev pub changed : Desk → ℕ → Desk → Changed
changed d r w = if eqb r 0 then record { desk = w; answer = 0 } else record { desk = d; answer = r }

-- Setting: stage t on layer l.
abbrev pub moved : Desk → ℕ → ℕ → Desk
moved d t l = record { used = d.used; stages = d.stages; layers = d.layers; net = d.net; plan = set d.plan t l; locks = d.locks }

abbrev pub set_number : Desk → ℕ → ℕ → ℕ
set_number d t l = change_refusal (is_open d) (has_stage d t) (has_layer d l) (is_locked (get_or d.locks t 0))

unfoldable pub set_on : Desk → ℕ → ℕ → Changed
set_on d t l = changed d (set_number d t l) (moved d t l)

-- Locking and unlocking: the mark of stage t is this one.
abbrev pub marked : Desk → ℕ → ℕ → Desk
marked d t lock = record { used = d.used; stages = d.stages; layers = d.layers; net = d.net; plan = d.plan; locks = set d.locks t lock }

abbrev pub mark_number : Desk → ℕ → ℕ
mark_number d t = change_refusal (is_open d) (has_stage d t) true false

unfoldable pub mark_on : Desk → ℕ → ℕ → Changed
mark_on d t lock = changed d (mark_number d t) (marked d t lock)

abbrev pub lock_on : Desk → ℕ → Changed
lock_on d t = mark_on d t 1

abbrev pub unlock_on : Desk → ℕ → Changed
unlock_on d t = mark_on d t 0

-- Opening: the bytes over the first of those that stood there, with their count and the reader's; every stage on layer 0, unlocked.
abbrev pub laid : Desk → List ℕ → Checked → Desk
laid d bs c =
    record {
      used = length bs;
      stages = c.stages;
      layers = c.layers;
      net = bs ++ drop (length bs) d.net;
      plan = replicate max_stages 0;
      locks = replicate max_stages 0;
    }

-- By the counts that checking the bytes gave: those of a refusal, which have no stages, keep the desk.
unfoldable pub open_with : Desk → List ℕ → Checked → Opened
open_with d bs c = if eqb c.stages 0 then record { desk = d; answer = c } else record { desk = laid d bs c; answer = c }

-- The counts may be those of an open desk; else reading gives 16.
unfoldable pub is_readable : ℕ → ℕ → Bool
is_readable used stages = not (eqb stages 0) && leb stages max_stages && leb used max_desk_net

-- Where no number is due, each test passed.
pub none-due : (opened stage layer locked : Bool) → change_refusal opened stage layer locked ≡ 0
    → (opened ≡ true) × (stage ≡ true) × (layer ≡ true) × (locked ≡ false)
unfolding change_refusal
none-due false stage layer locked e = absurd (omega (arith, e))
none-due true false layer locked e = absurd (omega (arith, e))
none-due true true false locked e = absurd (omega (arith, e))
none-due true true true true e = absurd (omega (arith, e))
none-due true true true false e = (refl, refl, refl, refl)

-- A stage and a layer that are there have their places.
pub stage-place : (d : Desk) (t : ℕ) → has_stage d t ≡ true → t < max_stages
stage-place d t h = ltb-true t max_stages (and_right (ltb t d.stages) (ltb t max_stages) h)

pub layer-place : (d : Desk) (l : ℕ) → has_layer d l ≡ true → l < max_layers
layer-place d l h = ltb-true l max_layers (and_right (ltb l d.layers) (ltb l max_layers) h)

-- What a change gives, by its number.
pub change_refused : (d w : Desk) {r n : ℕ} → r ≡ n → (r ≡ 0 → ⊥) → record { desk = d; answer = r } ≡ changed d n w
change_refused d w {r} e o = rw (← e, ne_eqb r 0 o) refl

pub change_accepted : (d w : Desk) {n : ℕ} → n ≡ 0 → record { desk = w; answer = 0 } ≡ changed d n w
change_accepted d w e = rw e refl

-- The net and the plan of a readable desk have their places.
pub readable_places : (used stages : ℕ) → is_readable used stages ≡ true → (used ≤ max_desk_net) × (stages ≤ max_stages)
unfolding is_readable
readable_places used stages e =
    let (o, s, u) = and_three (not (eqb stages 0)) (leb stages max_stages) (leb used max_desk_net) e in
    (leb-true used max_desk_net u, leb-true stages max_stages s)
