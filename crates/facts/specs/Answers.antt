-- What an answer tells of the steps that gave it: if it is accepted, each step before it was accepted and each test passed. The laws go by cases of the
-- first step, which is what the definition of going on does (01, Reading: the first fault met decides).
use Rattle.std.specs.Prelude.{◌≡◌, refl, Bool, true, false, ℕ}
use Rattle.std.proofs.Common.{ap, sym, arith}
use Rattle.rules.specs.Reading.{Answer, accept, refuse, ◌>>=◌, ◌>>◌, ◌unless◌}

-- What is accepted is not refused.
pub not-refused : {A B : Type 0} {r : ℕ} {a : A} → ◌≡◌ {A = Answer A} (refuse r) (accept a) → B
not-refused e = let z : ◌≡◌ {A = ℕ} 0 1 = cc in absurd (omega arith)

-- An accepted answer has one result.
pub accept_injective : {A : Type 0} {a b : A} → ◌≡◌ {A = Answer A} (accept a) (accept b) → a ≡ b
accept_injective e = cc

-- A refused answer has one number.
pub refuse_injective : {A : Type 0} {r s : ℕ} → ◌≡◌ {A = Answer A} (refuse r) (refuse s) → r ≡ s
refuse_injective e = cc

-- If going on with a result is accepted, there was a result, and going on with it gave this one.
pub then_accepted : {A B : Type 0} (x : Answer A) (f : A → Answer B) {b : B} → (x >>= f) ≡ accept b → (a : A) × (x ≡ accept a) × (f a ≡ accept b)
then_accepted (accept a) f e = (a, refl, e)
then_accepted (refuse r) f e = not-refused e

-- If going on after a test is accepted, the test passed.
pub unless_accepted : {B : Type 0} (r : ℕ) (t : Bool) (y : Answer B) {b : B} → ◌>>◌ (r unless t) y ≡ accept b → (t ≡ true) × (y ≡ accept b)
unless_accepted r true y e = (refl, e)
unless_accepted r false y e = not-refused e

-- Where only the result is turned into another, acceptance and refusal are those of the step.
pub turned_accepted : {A B : Type 0} (x : Answer A) (h : A → B) {b : B} → accept b ≡ (x >>= λ a. accept (h a)) → (a : A) × (x ≡ accept a) × (b ≡ h a)
turned_accepted (accept a) h e = (a, refl, accept_injective e)
turned_accepted (refuse r) h e = not-refused (sym e)

pub turned_refused : {A B : Type 0} (x : Answer A) (h : A → B) {r : ℕ} → ◌≡◌ {A = Answer B} (refuse r) (x >>= λ a. accept (h a)) → x ≡ refuse r
turned_refused (accept a) h e = not-refused e
turned_refused (refuse r) h e = ap refuse (sym (refuse_injective e))

-- The same answer and the same steps after it give the same.
pub then_same : {A B : Type 0} (x : Answer A) (f g : A → Answer B) → ((a : A) → f a ≡ g a) → (x >>= f) ≡ (x >>= g)
then_same (accept a) f g h = h a
then_same (refuse r) f g h = refl

-- A test after which the result is turned into another: the test first, the turning after it.
pub test_turned : {A B : Type 0} (r : ℕ) (x : Answer A) (w : A → Bool) (h : A → B)
    → (x >>= λ a. ◌>>◌ (r unless w a) (accept (h a))) ≡ ((x >>= λ a. ◌>>◌ (r unless w a) (accept a)) >>= λ a. accept (h a))
test_turned r (accept a) w h = go (w a)
  where
    go : (t : Bool) → ◌>>◌ (r unless t) (accept (h a)) ≡ (◌>>◌ (r unless t) (accept a) >>= λ b. accept (h b))
    go true = refl
    go false = refl
test_turned r (refuse n) w h = refl
