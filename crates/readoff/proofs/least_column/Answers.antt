-- `least_column` is right: what halving finds inside the band, or `width`.
use mir.Facts.{to_z-of_z}
use Rattle.readoff.proofs.Columns.{column-inside, column-none}
use Rattle.readoff.proofs.least_column.Goals as goal

pub returns-then-c-end : goal.returns-then-c-end
returns-then-c-end c =
    column-inside c.requires.0 (to_z-of_z c.ranges.t) c.first_column-c.ensures c.if-c-end.true c.requires.2

pub returns : goal.returns
returns c = column-none c.requires.0 (to_z-of_z c.ranges.t) c.first_column-c.ensures c.if-c-end.false
