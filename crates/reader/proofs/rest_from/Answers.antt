-- `rest_from` is right: it meets the faults in the definition's order, driver, nodes; the count of nodes comes last into row 0.
use mathlib.Core.Path.{sym, ◌∙◌}
use native.Mathlib.Omega.{arith}
use Rattle.std.proofs.lemmas.Result.{err_from_is_err_and}
use Rattle.fields.proofs.Laws.{field-inside}
use Rattle.reader.proofs.Stored.{rows-kept}
use Rattle.reader.proofs.Whole.{driver-size, rest_1, rest_2, rest_3, rest_4}
use Rattle.reader.proofs.rest_from.Goals as goal

pub returns-in_err-driver : goal.returns-in_err-driver
returns-in_err-driver c =
    let p = err_from_is_err_and c.from_residual.result c.from_residual.ensures.1 in
    rw (p.1, p.2) (rest_1 _ _ _ _ _ _ (sym c.in_err-driver.ensures))

pub put_driver-requires : goal.put_driver-requires
put_driver-requires c =
    let t = field-inside _ _ _ (sym c.in_ok-driver.ensures) in
    let n = driver-size _ _ t.allowed in
    (c.requires.0, omega arith, omega (arith, c.requires.2.some))

pub returns-then-not-put_driver : goal.returns-then-not-put_driver
returns-then-not-put_driver c =
    rest_2 _ _ _ _ _ _ (sym c.in_ok-driver.ensures) (sym c.put_driver.ensures.answer ∙ c.if-not-put_driver.true)

pub overflow_add-driver : goal.overflow_add-driver
overflow_add-driver c = let t = field-inside _ _ _ (sym c.in_ok-driver.ensures) in omega arith

pub tree_from-requires : goal.tree_from-requires
tree_from-requires c =
    let t = field-inside _ _ _ (sym c.in_ok-driver.ensures) in
    (c.requires.0, omega arith, rows-kept c.requires.2 c.put_driver.auto.words)

pub returns-in_err-counts : goal.returns-in_err-counts
returns-in_err-counts c =
    let p = err_from_is_err_and c.from_residual-in_err-counts.result c.from_residual-in_err-counts.ensures.1 in
    rw (p.1, p.2)
    (rest_3 _ _ _ _ _ _ (sym c.in_ok-driver.ensures) (sym c.put_driver.ensures.answer ∙ c.if-not-put_driver.false) c.in_err-counts.ensures)

pub returns : goal.returns
returns c =
    rw c.put_count.ensures
    (rest_4 (sym c.in_ok-driver.ensures) c.requires.0
    (omega (arith, c.requires.2.some, c.put_driver.auto.words, c.tree_from.auto.words))
    c.put_driver.ensures c.if-not-put_driver.false c.in_ok-counts.ensures)
