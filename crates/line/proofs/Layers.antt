-- The layers of a plan put one after the other, a space before each.
use mathlib.Core.Path.{◌≡◌}
use mathlib.Core.List.{List, ◌++◌, map, map-append}
use Prim.Native.Nat.{ℕ, ◌+◌, ◌<◌}
use native.Mathlib.Numerals.{add-one}
use lib.ListN.{length, take, get_or}
use lib.Seq.{take-suc}
use Rattle.rules.specs.Text.{space, decimal, number_field}
use Rattle.rules.specs.Program.{layer_numbers}
use Rattle.text.specs.Placing.{Placed}
use Rattle.text.proofs.Joining.{joined}
use Rattle.text.proofs.Separated.{each_more}

-- One layer more is put after the first i.
pub layer-put : (plan : List ℕ) (i : ℕ) {before middle after : List ℕ} {at mid next : ℕ} → i < length plan
    → Placed (layer_numbers (take i plan)) at before middle mid → Placed (number_field space (get_or plan i 0)) mid middle after next
    → Placed (layer_numbers (take (i + 1) plan)) at before after next
unfolding layer_numbers
layer-put plan i h first second = rw more (joined first second)
  where
    more : layer_numbers (take (i + 1) plan) ≡ layer_numbers (take i plan) ++ number_field space (get_or plan i 0)
    more = rw (add-one, take-suc plan i 0 h, map-append) (each_more space (map decimal (take i plan)) (decimal (get_or plan i 0)))
