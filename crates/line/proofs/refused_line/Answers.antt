-- `refused_line` is right: the word with the number and the line feed are put one after the other, and a refusal's number has at most three digits.
use Rattle.rules.specs.Program.{refused_line}
use Rattle.text.proofs.Joining.{joined, at_front}
use Rattle.line.proofs.refused_line.Goals as goal

pub returns : goal.returns
unfolding refused_line
returns c =
    let front = at_front (joined (rw c.from.ensures at c.put_field-at.ensures.placed) c.put.ensures) in
    record { value = front.0; out_after = front.1.0; prefix_len = front.1.1 }
