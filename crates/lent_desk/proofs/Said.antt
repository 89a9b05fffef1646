-- The step that the answers of the open calls share, over plain values. The function on the record's value ensures that it gave o ≡ F h .., h being what stood
-- in the desk; the call leaves o.desk in the desk and answers o.answer. So both clauses hold of the two: the equation, and whatever P says of F h ..
-- (`ThinTwo.antt`, `ThinOne.antt` and `Seen.antt` have the same of the machine's code.)
use mathlib.Core.Path.{◌≡◌, sym, subst}
use Prim.Native.Nat.{ℕ}
use mathlib.Core.List.{List}
use Rattle.desk_record.specs.declared.Desk.{Desk}
use Rattle.desk_record.specs.declared.Changed.{Changed}
use Rattle.desk_record.specs.declared.Opened.{Opened}

-- For two further parameters, a and b.
pub two-said : (F : Desk → ℕ → ℕ → Changed) (P : Desk → ℕ → ℕ → Changed → Type 0) → ((d : Desk) (a b : ℕ) → P d a b (F d a b))
    → {h : Desk} {a b : ℕ} {o : Changed} → o ≡ F h a b
    → (record { desk = o.desk; answer = o.answer } ≡ F h a b) × P h a b (record { desk = o.desk; answer = o.answer })
two-said F P holds {h = h} {a = a} {b = b} e = (e, subst (P h a b) (sym e) (holds h a b))

-- For one.
pub one-said : (F : Desk → ℕ → Changed) (P : Desk → ℕ → Changed → Type 0) → ((d : Desk) (a : ℕ) → P d a (F d a))
    → {h : Desk} {a : ℕ} {o : Changed} → o ≡ F h a
    → (record { desk = o.desk; answer = o.answer } ≡ F h a) × P h a (record { desk = o.desk; answer = o.answer })
one-said F P holds {h = h} {a = a} e = (e, subst (P h a) (sym e) (holds h a))

-- For opening, whose further parameter is the net's bytes.
pub opened-said : (F : Desk → List ℕ → Opened) (P : Desk → List ℕ → Opened → Type 0) → ((d : Desk) (bs : List ℕ) → P d bs (F d bs))
    → {h : Desk} {bs : List ℕ} {o : Opened} → o ≡ F h bs
    → (record { desk = o.desk; answer = o.answer } ≡ F h bs) × P h bs (record { desk = o.desk; answer = o.answer })
opened-said F P holds {h = h} {bs = bs} e = (e, subst (P h bs) (sym e) (holds h bs))

-- For a call that only reads, whose answer is of any type.
pub seen-said : {X : Type 0} (F : Desk → X) (P : Desk → X → Type 0) → ((d : Desk) → P d (F d)) → {h : Desk} {r : X} → r ≡ F h → (r ≡ F h) × P h r
seen-said F P holds {h = h} e = (e, subst (P h) (sym e) (holds h))
