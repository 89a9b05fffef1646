-- `entry` is right: what holds of the whole table holds at the place that is read.
use Rattle.chart.specs.Charted.{charted_entry}
use Rattle.chart.proofs.entry.Goals as goal

pub returns : goal.returns
returns c = charted_entry c.table-numbers.ensures c.requires
