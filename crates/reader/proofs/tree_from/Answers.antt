-- `tree_from` is right: the loop's array stands for the nodes read, so the test over it is the definition's last test.
use Rattle.std.proofs.lemmas.Result.{err_from_is_err_and}
use Rattle.reader.proofs.Whole.{tree-refused, tree-childless, tree_took}
use Rattle.reader.proofs.tree_from.Goals as goal

pub returns-in_err-counts : goal.returns-in_err-counts
returns-in_err-counts c =
    let p = err_from_is_err_and c.from_residual.result c.from_residual.ensures.1 in
    rw (p.1, p.2) (tree-refused c.in_err-counts.ensures)

pub returns-then-not-all_have_children : goal.returns-then-not-all_have_children
returns-then-not-all_have_children c = tree-childless c.in_ok-counts.ensures c.all_have_children.ensures c.if-not-all_have_children.true

pub returns : goal.returns
returns c = tree_took c.in_ok-counts.ensures c.all_have_children.ensures c.if-not-all_have_children.false
