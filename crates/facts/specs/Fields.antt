-- What an accepted field is (01, Reading): the one whose head stands there, with a tag and length that are due, and all of it within the bytes.
use Rattle.std.specs.Prelude.{◌≡◌, refl, Bool, true, List, ℕ, ◌+◌, ◌≤◌, leb, length}
use Rattle.std.proofs.Common.{subst, leb-true}
use Rattle.rules.specs.Bytes.{Field, field_at, next}
use Rattle.rules.specs.Reading.{accept, field}
use Rattle.facts.specs.Answers.{accept_injective, unless_accepted}

pub record FieldThere (due : ℕ → ℕ → Bool) (bs : List ℕ) (i : ℕ) (f : Field) : Type 0 where
  pub is : f ≡ field_at bs i
  pub head : i + 3 ≤ length bs
  pub is-due : due f.tag f.size ≡ true
  pub whole : next f ≤ length bs

pub field-there : (due : ℕ → ℕ → Bool) (bs : List ℕ) (i : ℕ) {f : Field} → field due bs i ≡ accept f → FieldThere due bs i f
unfolding field
field-there due bs i a =
    let g = field_at bs i in
    let (r1, a1) = unless_accepted 1 (leb (i + 3) (length bs)) _ a in
    let (r2, a2) = unless_accepted 2 (due g.tag g.size) _ a1 in
    let (r3, a3) = unless_accepted 1 (leb (next g) (length bs)) _ a2 in
    let here : FieldThere due bs i g = record { is = refl; head = leb-true (i + 3) (length bs) r1; is-due = r2; whole = leb-true (next g) (length bs) r3 } in
    subst (FieldThere due bs i) (accept_injective a3) here
