-- The two walks over the fields of a block: what is known before each field, and what the field adds.
use Rattle.std.proofs.Math.Path.{◌≡◌, refl, ap, sym}
use Rattle.std.proofs.Common.{◌∙◌, arith, le-leb}
use Rattle.std.specs.Prelude.{Bool, List, ◌∷◌, leb, take, drop}
use Rattle.std.proofs.Math.Bool.{true, false}
use Prim.Native.Nat.{ℕ, zero, suc, ◌+◌, ◌-◌, ◌<◌, ◌≤◌}
use Rattle.std.proofs.Math.Decide.{dec_lt}
use Rattle.std.proofs.Math.ListN.{length}
use Rattle.std.proofs.lemmas.Bool.{lt-leb}
use Rattle.rules.specs.Bytes.{Field, number, field_at, next}
use Rattle.rules.specs.Reading.{Answer, accept, refuse, ◌>>=◌, ◌>>◌, ◌unless◌, field}
use Rattle.rules.specs.Block.{max_block, due_net, net_field, payload, nets_from, block, no_totals, report}
use Rattle.facts.specs.Answers.{not-refused, refuse_injective}
use Rattle.facts.specs.Fields.{FieldThere, field-there}
use Rattle.facts.specs.Block.{block_too_long}

-- an answer that accepts
abbrev pub is_accepted : {A : Type 0} → Answer A → Bool
is_accepted (accept a) = true
is_accepted (refuse r) = false

-- the bytes are fields of tag 6 from the front to the end
unfoldable pub is_run : List ℕ → Bool
is_run bs = is_accepted (nets_from (length bs + 1) bs 0)

-- the bytes are a block
unfoldable pub is_block : List ℕ → Bool
is_block bs = is_accepted (block bs)

-- the test of the length
pub too_long_is_none : (bs : List ℕ) → max_block < length bs → is_block bs ≡ false
unfolding is_block
too_long_is_none bs h = ap is_accepted (block_too_long bs h)

pub short-enough : (bs : List ℕ) → length bs ≤ max_block → is_block bs ≡ is_run bs
unfolding is_block is_run block
short-enough bs h = rw (le-leb (length bs) max_block h) refl

module _ (bs : List ℕ) where
  -- what is known before the field at `at`: whether the rest from here is nets is whether all are. k bounds the nets to come.
  pub record Checking (at : ℕ) : Type 0 where
    pub k : ℕ
    pub enough : length bs < k + at
    pub inside : at ≤ length bs
    pub same : is_run bs ≡ is_accepted (nets_from k bs at)

  -- before the first field
  pub checking-start : Checking 0
  unfolding is_run
  checking-start = record { k = length bs + 1; enough = omega arith; inside = omega arith; same = refl }

  -- before the end a field is due
  pub step : (k at : ℕ) → at < length bs
      → nets_from (suc k) bs at ≡ (net_field bs at >>= λ f. nets_from k bs (next f) >>= λ ns. accept (payload bs f ∷ ns))
  unfolding nets_from
  step k at h = rw (lt-leb (length bs) at h, nets_from) refl

  -- at the end all were nets; before it, by whether a field is there
  pub checked_end : {at : ℕ} → Checking at → length bs ≤ at → is_run bs ≡ true
  unfolding nets_from
  checked_end {at} C h = go C.k C.enough C.same
    where
      go : (k : ℕ) → length bs < k + at → is_run bs ≡ is_accepted (nets_from k bs at) → is_run bs ≡ true
      go zero l e = absurd (omega (arith, C.inside))
      go (suc k) l e = e ∙ (rw (le-leb (length bs) at h, is_accepted, nets_from) refl)

  pub checked_none : {at r : ℕ} → Checking at → at < length bs → field due_net bs at ≡ refuse r → is_run bs ≡ false
  unfolding net_field
  checked_none {at} {r} C h q = go C.k C.enough C.same
    where
      none : net_field bs at ≡ refuse 13
      none = rw (q, net_field) refl

      go : (k : ℕ) → length bs < k + at → is_run bs ≡ is_accepted (nets_from k bs at) → is_run bs ≡ false
      go zero l e = absurd (omega arith)
      go (suc k) l e = e ∙ ap is_accepted (step k at h) ∙ (rw none refl)

  -- the next field begins after its head
  pub next-later : {at : ℕ} {f : Field} → FieldThere due_net bs at f → at + 3 ≤ next f
  unfolding next field_at
  next-later F = rw F.is (omega arith)

  -- an accepted field of a block is one of tag 6
  pub net-field-is : (at : ℕ) {f : Field} → net_field bs at ≡ accept f → field due_net bs at ≡ accept f
  unfolding net_field
  net-field-is at {f} e = go (field due_net bs at) e
    where
      go : (x : Answer Field) → (elim x [ accept f ↦ accept f | refuse r ↦ refuse 13 ]) ≡ accept f → x ≡ accept f
      go (accept g) e = e
      go (refuse r) e = not-refused e

  -- what is made of an accepted answer does not change whether it is one
  then_same-test : {A B : Type 0} (x : Answer A) (f : A → B) → is_accepted (x >>= λ a. accept (f a)) ≡ is_accepted x
  then_same-test (accept a) f = refl
  then_same-test (refuse r) f = refl

  pub checked_more : {at : ℕ} {f : Field} → Checking at → at < length bs → field due_net bs at ≡ accept f → Checking (next f)
  unfolding net_field
  checked_more {at} {f} C h q = go C.k C.enough C.same
    where
      there : net_field bs at ≡ accept f
      there = rw (q, net_field) refl

      go : (k : ℕ) → length bs < k + at → is_run bs ≡ is_accepted (nets_from k bs at) → Checking (next f)
      go zero l e = absurd (omega arith)
      go (suc k) l e =
          let F = field-there due_net bs at q in
          record {
            k = k;
            enough = omega (arith, next-later F);
            inside = F.whole;
            same = e ∙ ap is_accepted (step k at h) ∙ (rw there (then_same-test (nets_from k bs (next f)) _));
          }

  -- what is no block is refused with 13
  field-number : (at : ℕ) {r : ℕ} → net_field bs at ≡ refuse r → r ≡ 13
  unfolding net_field
  field-number at {r} e = go (field due_net bs at) e
    where
      go : (x : Answer Field) → ◌≡◌ {A = Answer Field} (elim x [ accept f ↦ accept f | refuse s ↦ refuse 13 ]) (refuse r) → r ≡ 13
      go (accept f) e = not-refused (sym e)
      go (refuse s) e = sym (refuse_injective e)

  nets_number : (k at : ℕ) {r : ℕ} → nets_from k bs at ≡ refuse r → r ≡ 13
  unfolding nets_from
  nets_number zero at e = sym (refuse_injective e)
  nets_number (suc k) at {r} e = go (λ i q. nets_number k i q) (dec_lt at (length bs))
    where
      rest : ((i : ℕ) → nets_from k bs i ≡ refuse r → r ≡ 13) → (f : Field) (x : Answer (List (List ℕ))) → nets_from k bs (next f) ≡ x
          → (x >>= λ ns. accept (payload bs f ∷ ns)) ≡ refuse r → r ≡ 13
      rest below f (accept ns) q e = not-refused (sym e)
      rest below f (refuse s) q e = below (next f) (q ∙ ap refuse (refuse_injective e))

      first : ((i : ℕ) → nets_from k bs i ≡ refuse r → r ≡ 13) → (x : Answer Field) → net_field bs at ≡ x
          → (x >>= λ f. nets_from k bs (next f) >>= λ ns. accept (payload bs f ∷ ns)) ≡ refuse r → r ≡ 13
      first below (accept f) q e = rest below f (nets_from k bs (next f)) refl e
      first below (refuse s) q e = field-number at (q ∙ ap refuse (refuse_injective e))

      go : ((i : ℕ) → nets_from k bs i ≡ refuse r → r ≡ 13) → Dec (at < length bs) → r ≡ 13
      go below (yes h) = first below (net_field bs at) refl (sym (step k at h) ∙ e)
      go below (no h) = not-refused (sym (rw (le-leb (length bs) at (omega arith), nets_from) at e))

  block-number : {r : ℕ} → block bs ≡ refuse r → r ≡ 13
  unfolding block
  block-number {r} e = go (leb (length bs) max_block) e
    where
      go : (t : Bool) → ◌>>◌ (13 unless t) (nets_from (length bs + 1) bs 0) ≡ refuse r → r ≡ 13
      go true e = nets_number (length bs + 1) 0 e
      go false e = sym (refuse_injective e)

  pub no_block : is_block bs ≡ false → report bs ≡ no_totals 13
  unfolding is_block report
  no_block e = go (block bs) refl
    where
      go : (a : Answer (List (List ℕ))) → block bs ≡ a → report bs ≡ no_totals 13
      go (accept ns) q = let z : ◌≡◌ {A = Bool} true false = sym (ap is_accepted q) ∙ e in let o : ◌≡◌ {A = ℕ} 0 1 = cc in absurd (omega arith)
      go (refuse r) q = rw (q, report) (ap no_totals (block-number q))

-- the bytes from the end of a head to the end of its field are the field's payload
pub payload-at : (bs : List ℕ) (at n : ℕ) → n ≡ number bs (at + 1) 2 → take (at + 3 + n - (at + 3)) (drop (at + 3) bs) ≡ payload bs (field_at bs at)
unfolding payload field_at
payload-at bs at n e = let size : at + 3 + n - (at + 3) ≡ number bs (at + 1) 2 = omega (arith, e) in ap (λ (k : ℕ). take k (drop (at + 3) bs)) size
