-- The earlier of two times as code finds it, by `min`, is that of the definitions.
use Rattle.std.specs.Prelude.{◌≡◌, refl, Bool, true, false, ℤ, pos, negsuc, leb}
use Rattle.std.proofs.Common.{leb-true, leb-false, lt-ltb, le-ltb}
use Rattle.std.specs.Int.{int_min}
use Rattle.laws.specs.Basic.{min_z}

pub earlier-is : (a b : ℤ) → int_min a b ≡ min_z a b
earlier-is (pos a) (pos b) = go (leb a b) refl
  where
    go : (t : Bool) → leb a b ≡ t → int_min (pos a) (pos b) ≡ min_z (pos a) (pos b)
    go true e = rw (e, le-ltb b a (leb-true a b e)) refl
    go false e = rw (e, lt-ltb b a (leb-false a b e)) refl
earlier-is (pos a) (negsuc b) = refl
earlier-is (negsuc a) (pos b) = refl
earlier-is (negsuc a) (negsuc b) = go (leb b a) refl
  where
    go : (t : Bool) → leb b a ≡ t → int_min (negsuc a) (negsuc b) ≡ min_z (negsuc a) (negsuc b)
    go true e = rw (e, le-ltb a b (leb-true b a e)) refl
    go false e = rw (e, lt-ltb a b (leb-false b a e)) refl
