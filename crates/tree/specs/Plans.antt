-- A plan of a net as code holds it: a slice with one layer number for each stage (01, The tree).
use Rattle.std.specs.Prelude.{◌≡◌, true, List, ℕ, ◌<◌, ltb, length, get_or}
use Rattle.std.proofs.Common.{ap, sym, ◌∙◌, arith, zero-add, ltb-true}
use Rattle.laws.specs.Lists.{all-at, all-entries}
use Rattle.rules.specs.Tree.{Net, stages, layer_count, are_layers, on}

pub record Fitting (n : Net) (plan : List ℕ) : Type 0 where
  pub sized : length plan ≡ stages n
  pub layered : (t : ℕ) → t < stages n → on plan t < layer_count n

pub fitting : {n : Net} (plan : List ℕ) → length plan ≡ stages n → are_layers n plan ≡ true → Fitting n plan
unfolding are_layers
fitting {n} plan e a = record {
  sized = e;
  layered = λ t h.
      let q = all-at (λ k. ltb (get_or plan k 0) (layer_count n)) 0 (length plan) t (omega arith) (sym (all-entries (λ l. ltb l (layer_count n)) 0 plan) ∙ a) in
      ltb-true (get_or plan t 0) (layer_count n) (ap (λ (k : ℕ). ltb (get_or plan k 0) (layer_count n)) (sym (zero-add t)) ∙ q);
}
