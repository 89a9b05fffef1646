-- `put_layer` is right: each of the three numbers is put at its own place, and all three are tested.
use mathlib.Core.Path.{refl, ◌∙◌, sym}
use Rattle.words.proofs.Layers.{layer_res, layer_cap, layer-via}
use Rattle.words.proofs.put_layer.Goals as goal
use Rattle.words.proofs.put_layer.Goals.{then-unit_in_range, else-unit_in_range}

pub returns-then-unit_in_range-2 : goal.returns-then-unit_in_range-2
returns-then-unit_in_range-2 c =
    elim c.if-unit_in_range.branch [
      | then-unit_in_range w ↦ rw c.from.ensures
          (layer-via _ _ _ c.number-unit_res.ensures c.number-unit_cap.ensures c.via_at-via_res.ensures c.unit_in_range.ensures
          w.unit_in_range-then-unit_in_range.ensures _ c.requires.0 c.requires.2 w.if-unit_in_range.true (sym w.value-is ∙ c.if-unit_in_range-2.true))
      | else-unit_in_range w ↦ let a = w.if-unit_in_range.false in let b = w.value-is in cc
    ]

pub returns-else-unit_in_range-2 : goal.returns-else-unit_in_range-2
returns-else-unit_in_range-2 c =
    elim c.if-unit_in_range.branch [
      | then-unit_in_range w ↦ rw c.if-unit_in_range-2.false
          (layer_cap _ _ _ c.number-unit_res.ensures c.number-unit_cap.ensures c.via_at-via_res.ensures c.unit_in_range.ensures
          w.unit_in_range-then-unit_in_range.ensures _ c.requires.0 c.requires.2 w.if-unit_in_range.true (sym w.value-is ∙ c.if-unit_in_range-2.false))
      | else-unit_in_range w ↦ rw c.if-unit_in_range-2.false
          (layer_res _ _ _ c.number-unit_res.ensures c.number-unit_cap.ensures c.via_at-via_res.ensures c.unit_in_range.ensures refl _
          c.requires.0 c.requires.2 w.if-unit_in_range.false)
    ]
