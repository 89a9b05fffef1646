-- Which record stands for which desk in mind, and that each call keeps this and answers as the rules say (02, wish 8). A record that was cleared stands for a
-- desk never opened; that a record stands for some desk in mind is what 'that the desk came from these calls may be assumed' comes to.
use Rattle.std.specs.Prelude.{◌≡◌, Bool, true, false, ◌&&◌, ℕ, ◌+◌, ◌≤◌, ◌<◌, leb, eqb, length, get_or, drop}
use Rattle.std.proofs.Math.Path.{refl, ap, sym}
use Rattle.std.proofs.Common.{◌∙◌, arith, length-take-le, get_or-take}
use Rattle.std.proofs.Math.Option.{none, some}
use mathlib.Core.List.{List, map}
use Rattle.std.proofs.Math.Dec.{ltb}
use Rattle.std.proofs.Math.ListN.{set, take, replicate, length-set, length-append, length-drop, length-replicate, get_or-map}
use Rattle.std.proofs.Math.Seq.{take-append_seam, take-set-lt}
use borrow.Author.Tests.{ltb-true, ltb-false, leb-true, lt-ltb, le-ltb, le-leb, eq-eqb, ne_eqb}
use Rattle.laws.specs.Basic.{bit}
use Rattle.laws.specs.Entries.{map-set, all_set, take-replicate, map-replicate, all_replicate}
use Rattle.rules.specs.Bytes.{max_layers, max_stages}
use Rattle.rules.specs.Tree.{Net, stages, layer_count, are_layers}
use Rattle.rules.specs.Reading.{Answer, accept, refuse, read, check}
use Rattle.rules.specs.Judging.{judged, judge}
use Rattle.rules.specs.Desk.{max_desk_net, Contents, State, laid_out, open_desk, at_stage, set_stage, mark_stage, called, kept, after, acceptance, figures, reply_to}
use Rattle.rules.specs.Desk.{Call, to_open, to_set, to_lock, to_unlock, to_read, Reply, counts_reply, number_reply, figures_reply}
use Rattle.facts.specs.Accepted.{Accepted, accepted}
use Rattle.facts.specs.Stages.{stages-some}
use Rattle.desk_record.specs.declared.Desk.{Desk}
use Rattle.desk_record.specs.OnRecord.{change_refusal, has_stage, has_layer, is_locked, moved, set_on, marked, mark_on, lock_on, unlock_on, laid, open_with, is_readable}
use Rattle.desk.specs.OnDesk.{open_on, read_on}

-- The arrays have their lengths.
pub record DeskSized (d : Desk) : Type 0 where
  pub net-long : length d.net ≡ max_desk_net
  pub plan-long : length d.plan ≡ max_stages
  pub locks-long : length d.locks ≡ max_stages

-- The record has the net's bytes and counts, for each stage a layer of the net, and for each stage 1 if it is locked, else 0.
pub record Holds (d : Desk) (s : Contents) : Type 0 where
  pub few_used : d.used ≤ max_desk_net
  pub net-is : read (take d.used d.net) ≡ accept s.net
  pub stages-are : d.stages ≡ stages s.net
  pub layers-are : d.layers ≡ layer_count s.net
  pub plan-is : take d.stages d.plan ≡ s.plan
  pub layered : are_layers s.net s.plan ≡ true
  pub locks-are : take d.stages d.locks ≡ map bit s.locks

-- The record stands for this desk in mind.
abbrev pub Stands : Desk → State → Type 0
Stands d none = DeskSized d × (d.stages ≡ 0)
Stands d (some s) = DeskSized d × Holds d s

stands-sized : (d : Desk) (m : State) → Stands d m → DeskSized d
stands-sized d none h = h.0
stands-sized d (some s) h = h.0

-- A call that left d' where d was and gave this reply did what the rules say, whatever desk in mind d stood for.
abbrev pub Follows : Call → Desk → Desk → Reply → Type 0
Follows c d d' y = (m : State) → Stands d m → Stands d' (after m c) × (y ≡ reply_to c (called m c))

-- A mark says whether it is a lock's.
mark_says : (b : Bool) → is_locked (bit b) ≡ b
mark_says true = refl
mark_says false = refl

-- A test against a count that is at most the places there are.
below-count : (x count places : ℕ) {n : ℕ} → count ≡ n → n ≤ places → (ltb x count && ltb x places) ≡ ltb x n
below-count x count places {n} e h = go (ltb x n) refl
  where
    go : (b : Bool) → ltb x n ≡ b → (ltb x count && ltb x places) ≡ ltb x n
    go true q = let p = ltb-true x n q in rw (q, lt-ltb x count (omega arith), lt-ltb x places (omega arith)) refl
    go false q = let p = ltb-false x n q in rw (q, le-ltb x count (omega arith)) refl

-- An open desk.
module _ (d : Desk) (s : Contents) (Z : DeskSized d) (O : Holds d s) where
  net-accepted : Accepted s.net
  net-accepted = accepted (take d.used d.net) s.net O.net-is

  few : d.stages ≤ max_stages
  few = omega (arith, O.stages-are, net-accepted.few-stages)

  was-opened : eqb d.stages 0 ≡ false
  was-opened = ne_eqb d.stages 0 (λ e. absurd (omega (arith, e, O.stages-are, stages-some s.net)))

  stage-test : (t : ℕ) → has_stage d t ≡ ltb t (stages s.net)
  stage-test t = below-count t d.stages max_stages O.stages-are net-accepted.few-stages

  layer-test : (l : ℕ) → has_layer d l ≡ ltb l (layer_count s.net)
  layer-test l = below-count l d.layers max_layers O.layers-are net-accepted.few-layers

  -- The lock of a stage.
  lock_is : (t : ℕ) → t < stages s.net → is_locked (get_or d.locks t 0) ≡ get_or s.locks t false
  lock_is t h =
      ap is_locked (sym (get_or-take d.stages d.locks t 0 (omega (arith, O.stages-are))) ∙ ap (λ (bs : List ℕ). get_or bs t 0) O.locks-are ∙
      get_or-map bit s.locks t false) ∙
      mark_says (get_or s.locks t false)

  plan-sized : length s.plan ≡ stages s.net
  plan-sized = ap length (sym O.plan-is) ∙ length-take-le d.stages d.plan (omega (arith, few, Z.plan-long)) ∙ O.stages-are

  -- What judging gives for the net's bytes and the plan are its cost and slack.
  judged_so : judge (take d.used d.net) s.plan ≡ figures (accept s)
  unfolding judge judged
  judged_so = rw (O.net-is, eq-eqb (length s.plan) (stages s.net) plan-sized, O.layered, judge) refl

  moved-stands : (t l : ℕ) → t < stages s.net → l < layer_count s.net
      → Stands (moved d t l) (some (record { net = s.net; plan = set s.plan t l; locks = s.locks }))
  unfolding are_layers
  moved-stands t l h k = (
    record { net-long = Z.net-long; plan-long = length-set d.plan t l ∙ Z.plan-long; locks-long = Z.locks-long },
    record {
      few_used = O.few_used;
      net-is = O.net-is;
      stages-are = O.stages-are;
      layers-are = O.layers-are;
      plan-is = take-set-lt d.stages d.plan t l (omega (arith, O.stages-are)) ∙ ap (λ (xs : List ℕ). set xs t l) O.plan-is;
      layered = all_set (λ i. ltb i (layer_count s.net)) s.plan t l O.layered (lt-ltb l (layer_count s.net) k);
      locks-are = O.locks-are;
    },
  )

  marked-stands : (t : ℕ) (b : Bool) → t < stages s.net
      → Stands (marked d t (bit b)) (some (record { net = s.net; plan = s.plan; locks = set s.locks t b }))
  marked-stands t b h = (
    record { net-long = Z.net-long; plan-long = Z.plan-long; locks-long = length-set d.locks t (bit b) ∙ Z.locks-long },
    record {
      few_used = O.few_used;
      net-is = O.net-is;
      stages-are = O.stages-are;
      layers-are = O.layers-are;
      plan-is = O.plan-is;
      layered = O.layered;
      locks-are = take-set-lt d.stages d.locks t (bit b) (omega (arith, O.stages-are)) ∙
          ap (λ (bs : List ℕ). set bs t (bit b)) O.locks-are ∙ sym (map-set bit s.locks t b);
    },
  )

-- Setting.
pub set-follows : (d : Desk) (t l : ℕ) → Follows (to_set t l) d (set_on d t l).desk (number_reply (set_on d t l).answer)
unfolding set_on change_refusal called set_stage at_stage
set-follows d t l none (Z, e) = rw (eq-eqb d.stages 0 e) ((Z, e), refl)
set-follows d t l (some s) (Z, O) = go (ltb t (stages s.net)) (ltb l (layer_count s.net)) (get_or s.locks t false) refl refl refl
  where
    go : (a b c : Bool) → ltb t (stages s.net) ≡ a → ltb l (layer_count s.net) ≡ b → get_or s.locks t false ≡ c
        → Stands (set_on d t l).desk (after (some s) (to_set t l))
        × (◌≡◌ {A = Reply} (number_reply (set_on d t l).answer) (reply_to (to_set t l) (called (some s) (to_set t l))))
    go false b c p q r = rw (was-opened d s Z O, stage-test d s Z O t, p) ((Z, O), refl)
    go true false c p q r = rw (was-opened d s Z O, stage-test d s Z O t, p, layer-test d s Z O l, q) ((Z, O), refl)
    go true true true p q r =
        rw (was-opened d s Z O, stage-test d s Z O t, p, layer-test d s Z O l, q, lock_is d s Z O t (ltb-true t (stages s.net) p), r) ((Z, O), refl)
    go true true false p q r =
        let h = ltb-true t (stages s.net) p in
        rw (was-opened d s Z O, stage-test d s Z O t, p, layer-test d s Z O l, q, lock_is d s Z O t h, r)
        (moved-stands d s Z O t l h (ltb-true l (layer_count s.net) q), refl)

-- Locking and unlocking.
mark_follows : (d : Desk) (t : ℕ) (b : Bool) (m : State) → Stands d m
    → Stands (mark_on d t (bit b)).desk (kept m (mark_stage b m t)) × ((mark_on d t (bit b)).answer ≡ acceptance (mark_stage b m t))
unfolding mark_on change_refusal mark_stage at_stage
mark_follows d t b none (Z, e) = rw (eq-eqb d.stages 0 e) ((Z, e), refl)
mark_follows d t b (some s) (Z, O) = go (ltb t (stages s.net)) refl
  where
    go : (a : Bool) → ltb t (stages s.net) ≡ a
        → Stands (mark_on d t (bit b)).desk (kept (some s) (mark_stage b (some s) t)) × ((mark_on d t (bit b)).answer ≡ acceptance (mark_stage b (some s) t))
    go false p = rw (was-opened d s Z O, stage-test d s Z O t, p) ((Z, O), refl)
    go true p = rw (was-opened d s Z O, stage-test d s Z O t, p) (marked-stands d s Z O t b (ltb-true t (stages s.net) p), refl)

pub lock_follows : (d : Desk) (t : ℕ) → Follows (to_lock t) d (lock_on d t).desk (number_reply (lock_on d t).answer)
unfolding called
lock_follows d t m h = let (p, q) = mark_follows d t true m h in (p, ap number_reply q)

pub unlock_follows : (d : Desk) (t : ℕ) → Follows (to_unlock t) d (unlock_on d t).desk (number_reply (unlock_on d t).answer)
unfolding called
unlock_follows d t m h = let (p, q) = mark_follows d t false m h in (p, ap number_reply q)

-- Reading.
pub read-follows : (d : Desk) → Follows to_read d d (figures_reply (read_on d))
unfolding read_on is_readable called
read-follows d none (Z, e) = ((Z, e), rw (eq-eqb d.stages 0 e) refl)
read-follows d (some s) (Z, O) = (
  (Z, O),
  rw (was-opened d s Z O, le-leb d.stages max_stages (few d s Z O), le-leb d.used max_desk_net O.few_used, O.plan-is)
      (ap figures_reply (judged_so d s Z O)),
)

-- Opening.
module _ (d : Desk) (bs : List ℕ) (Z : DeskSized d) (few_bytes : length bs ≤ max_desk_net) (n : Net) (e : read bs ≡ accept n) where
  laid-stands : Stands (laid d bs (record { refusal = 0; nodes = length n.nodes + 1; stages = stages n; layers = layer_count n })) (some (laid_out n))
  unfolding laid_out are_layers
  laid-stands =
      let A = accepted bs n e in
      let zeros : take {A = ℕ} (stages n) (replicate max_stages 0) ≡ replicate (stages n) 0 = take-replicate {A = ℕ} (stages n) max_stages 0 A.few-stages in (
        record {
          net-long = length-append bs (drop (length bs) d.net) ∙ (omega (arith, length-drop (length bs) d.net, Z.net-long));
          plan-long = length-replicate {A = ℕ} max_stages 0;
          locks-long = length-replicate {A = ℕ} max_stages 0;
        },
        record {
          few_used = few_bytes;
          net-is = ap read (take-append_seam bs (drop (length bs) d.net)) ∙ e;
          stages-are = refl;
          layers-are = refl;
          plan-is = zeros;
          layered = all_replicate (λ i. ltb i (layer_count n)) (stages n) 0 (lt-ltb 0 (layer_count n) (omega (arith, A.some-layer)));
          locks-are = zeros ∙ sym (map-replicate bit (stages n) false);
        },
      )

pub open_follows : (d : Desk) (bs : List ℕ) → Follows (to_open bs) d (open_on d bs).desk (counts_reply (open_on d bs).answer)
unfolding open_on open_with called open_desk check laid_out
open_follows d bs m h = go (leb (length bs) max_desk_net) refl (read bs) refl
  where
    go : (b : Bool) → leb (length bs) max_desk_net ≡ b → (a : Answer Net) → read bs ≡ a
        → Stands (open_on d bs).desk (after m (to_open bs))
        × (◌≡◌ {A = Reply} (counts_reply (open_on d bs).answer) (reply_to (to_open bs) (called m (to_open bs))))
    go false p a e = rw p (h, refl)
    go true p (refuse r) e = rw (p, e, check) (h, refl)
    go true p (accept n) e =
        rw (p, e, check, ne_eqb (stages n) 0 (λ q. absurd (omega (arith, q, stages-some n))))
        (laid-stands d bs (stands-sized d m h) (leb-true (length bs) max_desk_net p) n e, refl)
