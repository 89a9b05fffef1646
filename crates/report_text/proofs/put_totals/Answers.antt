-- `put_totals` is right: the lines are put one after the other, and none is longer than its share of the longest text.
use Rattle.rules.specs.Block.{totals_text}
use Rattle.text.proofs.Joining.{joined}
use Rattle.report_text.proofs.put_totals.Goals as goal

pub returns : goal.returns
unfolding totals_text
returns c =
    let nets-planned = joined c.put_count-at.ensures.placed c.put_count-at-2.ensures.placed in
    joined (joined (joined nets-planned c.put_met-at.ensures.placed) c.put_count-at-3.ensures.placed) c.put_met.ensures.placed
