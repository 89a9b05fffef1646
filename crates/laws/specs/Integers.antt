-- Integers (times) as differences of two numbers, so that omega decides what is linear in them; their order, their least.
use Rattle.std.specs.Prelude.{◌≡◌, refl, Bool, true, false, cond, ◌&&◌, ℕ, zero, suc, ◌+◌, ◌≤◌, ◌<◌, min, ◌^◌, ltb, ℤ, pos, negsuc, ◌+ℤ◌, ◌-ℤ◌, neg_ℤ}
use Rattle.std.proofs.Common.{ap, sym, ◌∙◌, arith, leb-true, leb-false, ltb-true, ltb-false, le-leb, SFits}
use Rattle.std.proofs.Math.Bool.{and-true}
use mathlib.Core.List.{List, [], ◌∷◌, Memᴰ}
use Rattle.std.proofs.Math.IntN.{sub_ℕ}
use Rattle.std.specs.Int.Signed.{le_z, lt_z}
use Rattle.std.proofs.lemmas.Bool.{lt-leb}
use Rattle.laws.specs.Basic.{min_z, least_z, least_of}
use Rattle.laws.specs.Booleans.{and_left, and_right, both}
use Rattle.laws.specs.Lists.{Some, some-mem}
use Rattle.std.specs.Int.{w64}

-- z is up z - down z
unfoldable pub up : ℤ → ℕ
up (pos n) = n
up (negsuc n) = 0

unfoldable pub down : ℤ → ℕ
down (pos n) = 0
down (negsuc n) = suc n

sub_view : (a b : ℕ) → up (sub_ℕ a b) + b ≡ down (sub_ℕ a b) + a
unfolding up down
sub_view a b = go (ltb a b) refl
  where
    go : (t : Bool) → ltb a b ≡ t → up (sub_ℕ a b) + b ≡ down (sub_ℕ a b) + a
    go true e = rw e (omega (arith, ltb-true a b e))
    go false e = rw e (omega (arith, ltb-false a b e))

pub add_view : (a b : ℤ) → up (a +ℤ b) + (down a + down b) ≡ down (a +ℤ b) + (up a + up b)
unfolding up down
add_view (pos a) (pos b) = omega arith
add_view (pos a) (negsuc b) = omega (arith, sub_view a (suc b))
add_view (negsuc a) (pos b) = omega (arith, sub_view b (suc a))
add_view (negsuc a) (negsuc b) = omega arith

pub neg_view : (a : ℤ) → (up (neg_ℤ a) ≡ down a) × (down (neg_ℤ a) ≡ up a)
unfolding up down
neg_view (pos zero) = (refl, refl)
neg_view (pos (suc n)) = (refl, refl)
neg_view (negsuc n) = (refl, refl)

pub pos_view : (n : ℕ) → (up (pos n) ≡ n) × (down (pos n) ≡ 0)
unfolding up down
pos_view n = (refl, refl)

pub le_true : (a b : ℤ) → le_z a b ≡ true → up a + down b ≤ up b + down a
unfolding up down
le_true (pos a) (pos b) e = omega (arith, leb-true a b e)
le_true (pos a) (negsuc b) e = let z : ◌≡◌ {A = ℕ} 0 1 = cc in omega arith
le_true (negsuc a) (pos b) e = omega arith
le_true (negsuc a) (negsuc b) e = omega (arith, leb-true b a e)

pub le_false : (a b : ℤ) → le_z a b ≡ false → up b + down a < up a + down b
unfolding up down
le_false (pos a) (pos b) e = omega (arith, leb-false a b e)
le_false (pos a) (negsuc b) e = omega arith
le_false (negsuc a) (pos b) e = let z : ◌≡◌ {A = ℕ} 0 1 = cc in omega arith
le_false (negsuc a) (negsuc b) e = omega (arith, leb-false b a e)

pub true_le : (a b : ℤ) → up a + down b ≤ up b + down a → le_z a b ≡ true
true_le a b h = go (le_z a b) refl
  where
    go : (t : Bool) → le_z a b ≡ t → le_z a b ≡ true
    go true e = e
    go false e = let z : ◌≡◌ {A = ℕ} 0 1 = omega (arith, le_false a b e) in cc

pub false_le : (a b : ℤ) → up b + down a < up a + down b → le_z a b ≡ false
false_le a b h = go (le_z a b) refl
  where
    go : (t : Bool) → le_z a b ≡ t → le_z a b ≡ false
    go true e = let z : ◌≡◌ {A = ℕ} 0 1 = omega (arith, le_true a b e) in cc
    go false e = e

pub plus_view : (x : ℤ) (d : ℕ) → up (x +ℤ pos d) + down x ≡ down (x +ℤ pos d) + (up x + d)
plus_view x d = omega (arith, add_view x (pos d), pos_view d)

pub minus_view : (x : ℤ) (d : ℕ) → up (x -ℤ pos d) + (down x + d) ≡ down (x -ℤ pos d) + up x
minus_view x d = omega (arith, add_view x (neg_ℤ (pos d)), neg_view (pos d), pos_view d)

-- the law that turns required times into arrival times
pub adjoint : (x r : ℤ) (d : ℕ) → le_z (x +ℤ pos d) r ≡ le_z x (r -ℤ pos d)
adjoint x r d = go (le_z x (r -ℤ pos d)) refl
  where
    go : (t : Bool) → le_z x (r -ℤ pos d) ≡ t → le_z (x +ℤ pos d) r ≡ t
    go true e = true_le (x +ℤ pos d) r (omega (arith, le_true x (r -ℤ pos d) e, plus_view x d, minus_view r d))
    go false e = false_le (x +ℤ pos d) r (omega (arith, le_false x (r -ℤ pos d) e, plus_view x d, minus_view r d))

-- the lesser of two, and the least of a list, by their lower bounds
pub le_min_z : (x a b : ℤ) → le_z x (min_z a b) ≡ le_z x a && le_z x b
le_min_z x a b = go (le_z a b) (le_z x a) (le_z x b) refl refl refl
  where
    go : (t u v : Bool) → le_z a b ≡ t → le_z x a ≡ u → le_z x b ≡ v → le_z x (min_z a b) ≡ le_z x a && le_z x b
    go true true v e f g = rw (e, f, true_le x b (omega (arith, le_true a b e, le_true x a f)))
    go true false v e f g = rw (e, f)
    go false true v e f g = rw (e, f)
    go false false true e f g = let z : ◌≡◌ {A = ℕ} 0 1 = omega (arith, le_false a b e, le_false x a f, le_true x b g) in cc
    go false false false e f g = rw (e, f, g)

abbrev pub all_le : ℤ → List ℤ → Bool
all_le x [] = true
all_le x (b ∷ bs) = le_z x b && all_le x bs

pub le_least_z : (x a : ℤ) (bs : List ℤ) → le_z x (least_z a bs) ≡ all_le x (a ∷ bs)
le_least_z x a [] = sym (and-true (le_z x a))
le_least_z x a (b ∷ bs) = rw (le_min_z, le_least_z x b bs)

-- one of the two parts is 0
pub thin : (z : ℤ) → min (up z) (down z) ≡ 0
unfolding up down
thin (pos n) = omega arith
thin (negsuc n) = omega arith

pub same_view : (a b : ℤ) → up a + down b ≡ up b + down a → a ≡ b
unfolding up down
same_view (pos a) (pos b) e = ap pos (omega arith)
same_view (pos a) (negsuc b) e = absurd (omega arith)
same_view (negsuc a) (pos b) e = absurd (omega arith)
same_view (negsuc a) (negsuc b) e = ap negsuc (omega arith)

pub le_self : (a : ℤ) → le_z a a ≡ true
le_self a = true_le a a (omega arith)

-- two integers with the same lower bounds are equal, so the order in which a least is taken does not matter
pub same-bounds : (a b : ℤ) → ((x : ℤ) → le_z x a ≡ le_z x b) → a ≡ b
same-bounds a b h = same_view a b (omega (arith, le_true a b (sym (h a) ∙ le_self a), le_true b a (h b ∙ le_self b)))

all_le-at : (x : ℤ) (rs : List ℤ) (q : ℤ) → Memᴰ q rs → all_le x rs ≡ true → le_z x q ≡ true
all_le-at x [] q m t = elim m [ ]
all_le-at x (r ∷ rs) q (Memᴰ.head e) t = ap (le_z x) e ∙ and_left (le_z x r) (all_le x rs) t
all_le-at x (r ∷ rs) q (Memᴰ.tail m) t = all_le-at x rs q m (and_right (le_z x r) (all_le x rs) t)

all_le-sub : (x : ℤ) (rs qs : List ℤ) → ((z : ℤ) → Memᴰ z qs → Memᴰ z rs) → all_le x rs ≡ true → all_le x qs ≡ true
all_le-sub x rs [] h e = refl
all_le-sub x rs (q ∷ qs) h e = rw (all_le-at x rs q (h q (Memᴰ.head refl)) e) (all_le-sub x rs qs (λ z m. h z (Memᴰ.tail m)) e)

-- the least of a list depends only on which members it has
pub least_members : (rs qs : List ℤ) → Some rs → Some qs → ((z : ℤ) → Memᴰ z qs → Memᴰ z rs) → ((z : ℤ) → Memᴰ z rs → Memᴰ z qs) → least_of rs ≡ least_of qs
least_members [] qs s t f g = absurd s
least_members (r ∷ rs) [] s t f g = absurd t
least_members (r ∷ rs) (q ∷ qs) s t f g = same-bounds (least_z r rs) (least_z q qs) (λ x. le_least_z x r rs ∙ both (all_le x (r ∷ rs)) (all_le x (q ∷ qs)) (all_le-sub x (r ∷ rs) (q ∷ qs) f) (all_le-sub x (q ∷ qs) (r ∷ rs) g) ∙ sym (le_least_z x q qs))

-- How far a difference can lie above and below 0.
pub minus_up : (x y : ℤ) → up (x -ℤ y) ≤ up x + down y
minus_up x y = omega (arith, add_view x (neg_ℤ y), neg_view y, thin x, thin y, thin (x -ℤ y))

pub minus_down : (x y : ℤ) → down (x -ℤ y) ≤ down x + up y
minus_down x y = omega (arith, add_view x (neg_ℤ y), neg_view y, thin x, thin y, thin (x -ℤ y))

-- The least of a list is one of its members.
pub least-mem : (xs : List ℤ) → Some xs → Memᴰ (least_of xs) xs
least-mem [] s = absurd s
least-mem (x ∷ xs) s = go x xs
  where
    go : (x : ℤ) (xs : List ℤ) → Memᴰ (least_z x xs) (x ∷ xs)
    go x [] = Memᴰ.head refl
    go x (y ∷ ys) = pick (le_z x (least_z y ys)) (go y ys)
      where
        pick : (b : Bool) → Memᴰ (least_z y ys) (y ∷ ys) → Memᴰ (cond b x (least_z y ys)) (x ∷ y ∷ ys)
        pick true m = Memᴰ.head refl
        pick false m = Memᴰ.tail m

-- A member that is no later than any other is the least.
pub least_of-is : (r : ℤ) (xs : List ℤ) → Memᴰ r xs → ((q : ℤ) → Memᴰ q xs → le_z r q ≡ true) → least_of xs ≡ r
least_of-is r xs m h =
    let a = le_true r (least_of xs) (h (least_of xs) (least-mem xs (some-mem xs m))) in
    same_view (least_of xs) r (omega (arith, le_true (least_of xs) r (least_le xs m)))
  where
    least_le : (xs : List ℤ) → Memᴰ r xs → le_z (least_of xs) r ≡ true
    least_le [] m = elim m [ ]
    least_le (x ∷ xs) m = all_le-at (least_z x xs) (x ∷ xs) r m (sym (le_least_z (least_z x xs) x xs) ∙ le_self (least_z x xs))

-- The lesser of two is no later than either.
pub min-left : (a b : ℤ) → le_z (min_z a b) a ≡ true
min-left a b = and_left (le_z (min_z a b) a) (le_z (min_z a b) b) (sym (le_min_z (min_z a b) a b) ∙ le_self (min_z a b))

pub min-right : (a b : ℤ) → le_z (min_z a b) b ≡ true
min-right a b = and_right (le_z (min_z a b) a) (le_z (min_z a b) b) (sym (le_min_z (min_z a b) a b) ∙ le_self (min_z a b))

pub le_trans : (a b c : ℤ) → le_z a b ≡ true → le_z b c ≡ true → le_z a c ≡ true
le_trans a b c p q = true_le a c (omega (arith, le_true a b p, le_true b c q))

-- Two delays taken off one after the other.
pub minus_minus : (x : ℤ) (a b : ℕ) → (x -ℤ pos a) -ℤ pos b ≡ x -ℤ pos (a + b)
minus_minus x a b = same_view ((x -ℤ pos a) -ℤ pos b) (x -ℤ pos (a + b)) (omega (arith, minus_view x a, minus_view (x -ℤ pos a) b, minus_view x (a + b)))

-- A difference is 0 or more just where what is taken off is no more than what it is taken off from.
pub zero_minus : (r a : ℤ) → le_z (pos 0) (r -ℤ a) ≡ le_z a r
zero_minus r a = go (le_z a r) refl
  where
    go : (t : Bool) → le_z a r ≡ t → le_z (pos 0) (r -ℤ a) ≡ t
    go true e = true_le (pos 0) (r -ℤ a) (omega (arith, le_true a r e, add_view r (neg_ℤ a), neg_view a, pos_view 0))
    go false e = false_le (pos 0) (r -ℤ a) (omega (arith, le_false a r e, add_view r (neg_ℤ a), neg_view a, pos_view 0))

-- What fits signed 64 bits.
pub fits-parts : (z : ℤ) → up z < 2 ^ 63 → down z < 2 ^ 63 → SFits w64 z
unfolding up down
fits-parts (pos x) h k = record { sfits = omega arith }
fits-parts (negsuc x) h k = record { sfits = omega arith }

-- A time and a delay added.
pub plus-up : (x : ℤ) (d : ℕ) → up (x +ℤ pos d) ≤ up x + d
plus-up x d = omega (arith, plus_view x d, thin x, thin (x +ℤ pos d))

pub plus-down : (x : ℤ) (d : ℕ) → down (x +ℤ pos d) ≤ down x
plus-down x d = omega (arith, plus_view x d, thin x, thin (x +ℤ pos d))

-- One time is before another just where the other is not at most the one.
pub lt_true : (a b : ℤ) → lt_z a b ≡ true → le_z b a ≡ false
lt_true (pos a) (pos b) e = lt-leb b a (ltb-true a b e)
lt_true (pos a) (negsuc b) e = cc
lt_true (negsuc a) (pos b) e = refl
lt_true (negsuc a) (negsuc b) e = lt-leb a b (ltb-true b a e)

pub lt_false : (a b : ℤ) → lt_z a b ≡ false → le_z b a ≡ true
lt_false (pos a) (pos b) e = le-leb b a (ltb-false a b e)
lt_false (pos a) (negsuc b) e = refl
lt_false (negsuc a) (pos b) e = cc
lt_false (negsuc a) (negsuc b) e = le-leb a b (ltb-false b a e)
