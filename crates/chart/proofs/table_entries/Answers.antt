-- `table_entries` is right: it makes the definition's two tests in their order, and what passes both is on the chart.
use mathlib.Core.Path.{sym, ◌∙◌}
use Rattle.facts.specs.Chart.{on_chart, told-on, told-stages, told_shares}
use Rattle.chart.proofs.table_entries.Goals as goal

pub returns-then-not-within : goal.returns-then-not-within
returns-then-not-within c = sym (told-stages _ _ (sym c.within.ensures ∙ c.if-not-within.true))

pub returns-then-not-within-2 : goal.returns-then-not-within-2
returns-then-not-within-2 c = sym (told_shares _ _ (sym c.within.ensures ∙ c.if-not-within.false) (sym c.within-2.ensures ∙ c.if-not-within-2.true))

pub entry-requires : goal.entry-requires
entry-requires c = on_chart _ _ (sym c.within.ensures ∙ c.if-not-within.false) (sym c.within-2.ensures ∙ c.if-not-within-2.false)

pub returns : goal.returns
returns c =
    let on = on_chart _ _ (sym c.within.ensures ∙ c.if-not-within.false) (sym c.within-2.ensures ∙ c.if-not-within-2.false) in
    c.entry.ensures ∙ sym (told-on _ _ on)
