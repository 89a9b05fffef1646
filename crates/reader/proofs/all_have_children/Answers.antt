-- `all_have_children` is right: each entry up to the last node's is tested, as the definition does by their numbers.
use mathlib.Core.Path.{◌∙◌}
use Prim.Native.Nat.{◌+◌}
use native.Mathlib.Omega.{arith}
use lib.Dec.{leb}
use lib.ListN.{take}
use borrow.Author.Rules.{rules}
use borrow.Author.Tests.{tests}
use Rattle.std.proofs.lemmas.Iterator.{YieldsList-from_slice}
use Rattle.std.proofs.lemmas.Iterator.Search.{all_from_yields_List}
use Rattle.reader.proofs.Whole.{whole-all}
use Rattle.reader.proofs.all_have_children.Goals as goal

pub returns : goal.returns
returns c =
    all_from_yields_List (leb 1) _ _ c.all.result c.all.ensures.ran (YieldsList-from_slice (take (c.args.count + 1) c.args.kids.now) (cc))
    (λ x b q k. search (rules, tests)) ∙
    whole-all c.args.count c.args.kids.now (omega arith)
