-- `counts_line` is right: the words with their numbers and the line feed are put one after the other, and a number of 64 bits has at most 20 digits.
use Rattle.text.proofs.Joining.{joined, at_front}
use Rattle.line.specs.Counted.{counts_line}
use Rattle.line.proofs.counts_line.Goals as goal

pub returns : goal.returns
unfolding counts_line
returns c =
    let counts = joined (joined c.put_field-at.ensures.placed c.put_field-at-2.ensures.placed) c.put_field-at-3.ensures.placed in
    let front = at_front (joined counts c.put.ensures) in
    record { value = front.0; out_after = front.1.0; prefix_len = front.1.1 }
