-- The test of a plan's layer numbers, and the slack of a plan from the driver's required time (01, Judging and Timing rule).
use Rattle.std.specs.Prelude.{◌≡◌, ◌↔◌, refl, Bool, true, false, IsTrue, EachIndex, List, ℕ, zero, suc, ◌+◌, ◌≤◌, ◌<◌, ltb, length, get_or, ℤ, ◌-ℤ◌}
use Rattle.std.proofs.Common.{sym, ◌∙◌, arith, ap, SFits, lt-ltb, le-ltb}
use Rattle.std.proofs.lemmas.Bool.{ltb-true, ltb-false}
use Rattle.std.specs.Int.{w64}
use Rattle.laws.specs.Lists.{all-at, all-entries, scan, scan-start, scan_end, scan-more}
use Rattle.rules.specs.Tree.{Net, layer_count, are_layers, drives}
use Rattle.rules.specs.Timing.{required, slack}
use Rattle.facts.specs.Accepted.{Accepted}
use Rattle.facts.specs.Fits.{slack-fits, fits_signed}

-- The test of the layer number of stage t.
unfoldable pub plan_layer_test : List ℕ → ℕ → ℕ → Bool
plan_layer_test plan layers t = ltb (get_or plan t 0) layers

-- It passes at every stage if the numbers are layers of the net.
pub layers-scan : (n : Net) (plan : List ℕ) {layers : ℕ} → layers ≡ layer_count n → scan (plan_layer_test plan layers) 0 (length plan) ≡ are_layers n plan
unfolding plan_layer_test are_layers
layers-scan n plan e = scan-start _ (length plan) ∙ sym (rw e (all-entries (λ l. ltb l (layer_count n)) 0 plan))

-- The test at stage t, by the layer number that code has read.
pub layer-passes : (plan : List ℕ) (layers t : ℕ) {l : ℕ} → l ≡ get_or plan t 0 → l < layers → plan_layer_test plan layers t ≡ true
unfolding plan_layer_test
layer-passes plan layers t e h = lt-ltb (get_or plan t 0) layers (omega arith)

-- The same where it fails.
pub layer-fails : (plan : List ℕ) (layers t : ℕ) {l : ℕ} → l ≡ get_or plan t 0 → layers ≤ l → plan_layer_test plan layers t ≡ false
unfolding plan_layer_test
layer-fails plan layers t e h = le-ltb (get_or plan t 0) layers (omega arith)

-- Code that finds whether every number is a layer of the net finds what the definition asks.
pub layers-each : (n : Net) (plan : List ℕ) {layers : ℕ} {b : Bool} → layers ≡ layer_count n
    → (IsTrue b ↔ EachIndex plan (λ t. get_or plan t 0 < layers)) → b ≡ are_layers n plan
layers-each n plan {layers} {b} e (each, whole) = go b (scan test 0 m) refl refl ∙ layers-scan n plan e
  where
    m : ℕ
    m = length plan

    test : ℕ → Bool
    test = plan_layer_test plan layers

    passed : (d k : ℕ) → d + k ≡ m → ((t : ℕ) → t < m → test t ≡ true) → scan test k m ≡ true
    passed zero k q f = scan_end test m k (omega arith)
    passed (suc d) k q f = let h : k < m = omega arith in scan-more test m h (f k h) ∙ passed d (k + 1) (omega arith) f

    below : (t : ℕ) → t < m → test t ≡ true → (x : Bool) → ltb (get_or plan t 0) layers ≡ x → get_or plan t 0 < layers
    below t h p true q = ltb-true (get_or plan t 0) layers q
    below t h p false q = let f : test t ≡ false = layer-fails plan layers t refl (ltb-false (get_or plan t 0) layers q) in absurd (cc)

    go : (x y : Bool) → b ≡ x → scan test 0 m ≡ y → b ≡ scan test 0 m
    go true true p q = cc
    go false false p q = cc
    go true false p q = let f : scan test 0 m ≡ true = passed m 0 (omega arith) (λ t h. layer-passes plan layers t refl (each p t h)) in cc
    go false true p q =
        let f : b ≡ true =
        whole (λ t h. below t h (ap test (omega arith) ∙ all-at test 0 m t h (sym (scan-start test m) ∙ q)) (ltb (get_or plan t 0) layers) refl) in
        cc

-- The slack of a plan, from the driver's required time.
pub slack-is : (n : Net) (plan : List ℕ) {r a : ℤ} → r ≡ required n plan 0 → a ≡ n.driver.arrival → r -ℤ a ≡ slack n plan
unfolding slack
slack-is n plan er ea = rw (er, ea)

-- It fits the code's times.
pub slack_difference : {n : Net} → Accepted n → (plan : List ℕ) {r a : ℤ} → r ≡ required n plan 0 → a ≡ n.driver.arrival → SFits w64 (r -ℤ a)
slack_difference {n} A plan er ea = rw (slack-is n plan er ea) (fits_signed (slack n plan) (slack-fits A plan))

-- The driver's stage is stage 0.
pub drives-zero : (n : Net) → drives n 0 ≡ 0
unfolding drives
drives-zero n = refl
