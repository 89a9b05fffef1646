-- `table` is right: the checker computes the rule over all 640 numbers.
use mathlib.Core.Path.{refl}
use Rattle.rules.specs.Planning.{enough_columns}
use Rattle.rules.specs.Chart.{chart_entry}
use Rattle.chart.proofs.table.Goals as goal

pub returns : goal.returns
unfolding enough_columns chart_entry
returns c = record { whole = refl; rule = refl }
