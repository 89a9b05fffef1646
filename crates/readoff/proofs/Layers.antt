-- The scan for the first layer that attains the least: none of the layers before l does.
use mathlib.Core.Path.{◌≡◌, ap, sym, ◌∙◌}
use mathlib.Core.Bool.{Bool, true, false}
use mathlib.Core.Logic.{◌⊎◌, inl, inr}
use mathlib.Core.Option
use mathlib.Core.List.{List}
use Prim.Native.Nat.{ℕ, suc, ◌+◌, ◌*◌, ◌-◌, ◌≤◌, ◌<◌}
use native.Mathlib.Omega.{arith}
use native.Mathlib.Decide.{dec_le}
use native.Mathlib.Nat.{le-suc_iff}
use lib.Dec.{leb}
use lib.IntN.{ℤ}
use lib.ListN.{get_or}
use borrow.Author.Tests.{le-leb, lt-leb}
use Rattle.laws.specs.First.{first-is}
use Rattle.oracle.specs.Stages.{StageTree}
use Rattle.oracle.specs.Programme.{least_on}
use Rattle.oracle.specs.Timing.{charge, least_at}
use Rattle.oracle.specs.ReadOff.{attains, first_layer, first-attains}
use Rattle.readoff.specs.Clauses.{Column, Finished, Need, FirstLayer}

-- The layers before l do not attain the least.
pub record Trying (table : List ℤ) (driver first next delay : List ℕ) (limit : List ℤ) (cost starts ends : List ℕ) (stages layers width g i : ℕ) (t : ℤ)
    (l : ℕ) : Type 0 where
  pub inside : l < layers
  pub before : (T : StageTree) (k : ℕ) (asked : ℕ → ℤ → Bool) → Finished T k asked table driver first next delay limit cost starts ends stages width g
      → layers ≡ T.layers → asked i t ≡ true → least_at T k (width - 1) i t < width → (m : ℕ) → m < l → attains T (charge T k (width - 1)) i t m ≡ false

module _ {table : List ℤ} {driver first next delay : List ℕ} {limit : List ℤ} {cost starts ends : List ℕ} {stages layers width g i : ℕ} {t : ℤ} where
  module _ {least need l : ℕ} (here : Trying table driver first next delay limit cost starts ends stages layers width g i t l) (low : i < stages)
      (C : Column table (i * width) (get_or starts i 0) (get_or ends i 0) width t least)
      (N : Need table driver first next delay limit cost starts ends stages width g i l t need) where
    -- The comparison that is made is the test of the definition.
    compared : (T : StageTree) (k : ℕ) (asked : ℕ → ℤ → Bool) → Finished T k asked table driver first next delay limit cost starts ends stages width g
        → layers ≡ T.layers → asked i t ≡ true → least_at T k (width - 1) i t < width → leb need least ≡ attains T (charge T k (width - 1)) i t l
    compared T k asked F e q small =
        let w = least_at T k (width - 1) i t in
        let col = C.is (asked i) (least_at T k (width - 1) i) (F.filled.band i (omega (arith, F.sized.stages-are))) q in
        let same : least ≡ w = omega arith in
        ap (leb need) same ∙ N.is T k asked F (omega (arith, here.inside)) q w small

    pub trying_more : least < need → l + 1 < layers → Trying table driver first next delay limit cost starts ends stages layers width g i t (l + 1)
    trying_more above more = record {
      inside = more;
      before = λ T k asked F e q small m h. go T k asked F e q small m (le-suc_iff.0 (omega arith));
    }
      where
        go : (T : StageTree) (k : ℕ) (asked : ℕ → ℤ → Bool) → Finished T k asked table driver first next delay limit cost starts ends stages width g
            → layers ≡ T.layers → asked i t ≡ true
            → least_at T k (width - 1) i t < width → (m : ℕ) → (suc m ≤ l) ⊎ (suc m ≡ suc l) → attains T (charge T k (width - 1)) i t m ≡ false
        go T k asked F e q small m (inl h) = here.before T k asked F e q small m h
        go T k asked F e q small m (inr z) = let same : m ≡ l = omega arith in rw same (sym (compared T k asked F e q small) ∙ lt-leb need least above)

    pub trying_found : need ≤ least → FirstLayer table driver first next delay limit cost starts ends stages layers width g i t l
    trying_found enough = record {
      most = here.inside;
      is = λ T k asked F e q small.
          sym (ap (λ o. Option.get_or o 0) (
          first-is (attains T (charge T k (width - 1)) i t) 0 T.layers l (omega arith) (omega (arith, here.inside))
          (sym (compared T k asked F e q small) ∙ le-leb need least enough) (λ m a b. here.before T k asked F e q small m b)
          ));
    }

  -- If no layer before the last attains the least, the last does.
  pub trying_end : {l : ℕ} → Trying table driver first next delay limit cost starts ends stages layers width g i t l → i < stages → layers ≤ l + 1
      → FirstLayer table driver first next delay limit cost starts ends stages layers width g i t l
  trying_end {l} here low last = record { most = here.inside; is = is }
    where
      is : (T : StageTree) (k : ℕ) (asked : ℕ → ℤ → Bool) → Finished T k asked table driver first next delay limit cost starts ends stages width g
          → layers ≡ T.layers → asked i t ≡ true → least_at T k (width - 1) i t < width → l ≡ first_layer T (charge T k (width - 1)) i t
      is T k asked F e q small = go (dec_le l chosen)
        where
          chosen : ℕ
          chosen = first_layer T (charge T k (width - 1)) i t

          found : (chosen < T.layers) × (least_on T (charge T k (width - 1)) i chosen t ≡ least_at T k (width - 1) i t)
          found = first-attains T (charge T k (width - 1)) F.sized.tree i t (omega (arith, F.sized.stages-are))

          go : Dec (l ≤ chosen) → l ≡ chosen
          go (yes a) = omega (arith, found.0)
          go (no a) =
              let attained : attains T (charge T k (width - 1)) i t chosen ≡ true =
              le-leb (least_on T (charge T k (width - 1)) i chosen t) (least_at T k (width - 1) i t) (omega (arith, found.1)) in
              let f = here.before T k asked F e q small chosen (omega arith) in
              let z : ◌≡◌ {A = ℕ} 0 1 = cc in
              absurd (omega arith)
