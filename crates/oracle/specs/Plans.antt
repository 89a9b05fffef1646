-- The plans in plan order are just the lists with one layer number for each stage, each below the layer count.
use Rattle.std.specs.Prelude.{◌≡◌, refl, ◌⊎◌, ℕ, zero, suc, ◌<◌, length}
use Rattle.std.proofs.Common.{ap, inl, inr, arith}
use mathlib.Core.List.Memᴰ
use mathlib.Core.List.{List, [], ◌∷◌, map, Memᴰ}
use Rattle.laws.specs.Basic.{from}
use Rattle.laws.specs.Lists.{mem-from, from-mem, mem-map, map-mem}
use Rattle.rules.specs.Tree.{on, before, plans_of}

-- Each layer number is below L.
abbrev pub EachBelow : ℕ → List ℕ → Type 0
EachBelow L [] = Unit {0}
EachBelow L (l ∷ ls) = (l < L) × EachBelow L ls

pub each_at : (L : ℕ) (x : List ℕ) (i : ℕ) → EachBelow L x → i < length x → on x i < L
each_at L [] i u h = absurd (omega arith)
each_at L (l ∷ ls) zero (a, u) h = a
each_at L (l ∷ ls) (suc i) (a, u) h = each_at L ls i u (omega arith)

-- Members of `before`.
mem-before : {l : ℕ} (ls : List ℕ) {t : List ℕ} (ts : List (List ℕ)) → Memᴰ l ls → Memᴰ t ts → Memᴰ (l ∷ t) (before ls ts)
mem-before {l = l} [] {t = t} ts x m = elim x [ ]
mem-before (k ∷ ls) {t} ts (Memᴰ.head e) m = Memᴰ.cast (ap (λ z. z ∷ t) e) (Memᴰ.append_left (before ls ts) (mem-map (λ t. k ∷ t) m))
mem-before (k ∷ ls) ts (Memᴰ.tail h) m = Memᴰ.append_right (map (λ t. k ∷ t) ts) (mem-before ls ts h m)

before-mem : {x : List ℕ} (ls : List ℕ) (ts : List (List ℕ)) → Memᴰ x (before ls ts)
    → (l : ℕ) × (t : List ℕ) × Memᴰ l ls × Memᴰ t ts × (x ≡ l ∷ t)
before-mem [] ts m = absurd (Memᴰ.not-nil m)
before-mem {x} (k ∷ ls) ts m = go (before-mem ls ts) (Memᴰ.append_cases (map (λ t. k ∷ t) ts) m)
  where
    go : (Memᴰ x (before ls ts) → (l : ℕ) × (t : List ℕ) × Memᴰ l ls × Memᴰ t ts × (x ≡ l ∷ t))
        → Memᴰ x (map (λ t. k ∷ t) ts) ⊎ Memᴰ x (before ls ts)
        → (l : ℕ) × (t : List ℕ) × Memᴰ l (k ∷ ls) × Memᴰ t ts × (x ≡ l ∷ t)
    go r (inl a) = let (t, b, e) = map-mem (λ t. k ∷ t) ts a in (k, t, Memᴰ.head refl, b, e)
    go r (inr a) = let (l, t, b, c, e) = r a in (l, t, Memᴰ.tail b, c, e)

-- A list of layer numbers below L is a plan, ..
pub mem-plans : (L : ℕ) (x : List ℕ) → EachBelow L x → Memᴰ x (plans_of L (length x))
mem-plans L [] u = Memᴰ.head refl
mem-plans L (l ∷ ls) (h, u) = mem-before (from 0 L) (plans_of L (length ls)) (mem-from 0 L l (omega arith) (omega arith)) (mem-plans L ls u)

-- .. and a plan is such a list.
pub plans-mem : (L s : ℕ) (x : List ℕ) → Memᴰ x (plans_of L s) → (length x ≡ s) × EachBelow L x
plans-mem L zero x m = rw (Memᴰ.eq_of_singleton m) (refl, tt)
plans-mem L (suc s) x m =
    let (l, t, a, b, e) = before-mem (from 0 L) (plans_of L s) m in
    let (f, u) = plans-mem L s t b in
    rw e (ap suc f, (omega (arith, from-mem 0 L l a), u))
