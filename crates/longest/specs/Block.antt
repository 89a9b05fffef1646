-- The law that `block_report` rests on: it holds one byte more than a block may have, and the text is the one for the whole input. An input that does not
-- fit is longer than a block, so it is 13 whatever follows.
use Rattle.std.specs.Prelude.{◌≡◌, refl, Bool, true, false, List, ℕ, ◌+◌, leb, length, take}
use Rattle.std.proofs.Common.{ap, sym, ◌∙◌, arith, take_all, length-take-le, leb-true, leb-false}
use Rattle.rules.specs.Block.{max_block, block, report, report_text}
use Rattle.facts.specs.Block.{block_too_long}

block-front : (bs : List ℕ) → block (take (max_block + 1) bs) ≡ block bs
block-front bs = go (leb (length bs) max_block) refl
  where
    go : (fits : Bool) → leb (length bs) max_block ≡ fits → block (take (max_block + 1) bs) ≡ block bs
    go true e = ap block (take_all (max_block + 1) bs (omega (arith, leb-true (length bs) max_block e)))
    go false e =
        let long = leb-false (length bs) max_block e in
        block_too_long (take (max_block + 1) bs) (omega (arith, length-take-le (max_block + 1) bs (omega (arith, long)))) ∙ sym (block_too_long bs long)

pub report-front : (bs : List ℕ) → report_text (take (max_block + 1) bs) ≡ report_text bs
unfolding report_text report
report-front bs = let e = block-front bs in cc
