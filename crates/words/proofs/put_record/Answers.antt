-- `put_record` is right: the numbers of the record, in the order of the row.
use Rattle.words.proofs.Cells.{record_steiner, record_other}
use Rattle.words.proofs.put_record.Goals as goal

pub returns-then-tag-ne3 : goal.returns-then-tag-ne3
returns-then-tag-ne3 c = record_other _ _ c.put_three.ensures
    c.number-parent.ensures
    c.number-len.ensures
    c.put_three-then-tag-ne3.ensures
    c.number-a.ensures c.number-b.ensures
    c.number-c.ensures

pub returns-else-tag-ne3 : goal.returns-else-tag-ne3
returns-else-tag-ne3 c = record_steiner _ _ c.put_three.ensures c.number-parent.ensures
    c.number-len.ensures c.if-tag-ne3.false
