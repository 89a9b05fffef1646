-- `read` is right: it meets the faults of the layers first, in the definition's order, and what follows them begins where they end.
use mathlib.Core.Path.{sym}
use native.Mathlib.Omega.{arith}
use Rattle.std.proofs.lemmas.Result.{err_from_is_err_and}
use Rattle.fields.proofs.Laws.{field-inside}
use Rattle.reader.proofs.Stored.{rows-kept}
use Rattle.reader.proofs.Whole.{layers-read, read_1, read_2, read_3}
use Rattle.reader.proofs.read.Goals as goal

pub returns-in_err-field : goal.returns-in_err-field
returns-in_err-field c =
    let p = err_from_is_err_and c.from_residual.result c.from_residual.ensures.1 in
    rw (p.1, p.2) (read_1 _ _ _ (sym c.in_err-field.ensures))

pub overflow_sub-layers : goal.overflow_sub-layers
overflow_sub-layers c = omega (arith, (layers-read (sym c.in_ok-field.ensures) c.layer_size-each.ensures).long)

pub put_layers-requires : goal.put_layers-requires
put_layers-requires c =
    let t = layers-read (sym c.in_ok-field.ensures) c.layer_size-each.ensures in
    (t.few, t.ends, omega (arith, c.requires.some))

pub returns-then-not-put_layers : goal.returns-then-not-put_layers
returns-then-not-put_layers c =
    read_2 _ _ _ (sym c.in_ok-field.ensures) (layers-read (sym c.in_ok-field.ensures) c.layer_size-each.ensures).number
    c.put_layers.ensures c.if-not-put_layers.true

pub overflow_add-field : goal.overflow_add-field
overflow_add-field c = let t = field-inside _ _ _ (sym c.in_ok-field.ensures) in omega arith

pub rest_from-requires : goal.rest_from-requires
rest_from-requires c =
    let t = layers-read (sym c.in_ok-field.ensures) c.layer_size-each.ensures in
    let i = field-inside _ _ _ (sym c.in_ok-field.ensures) in
    (t.few, omega arith, rows-kept c.requires c.put_layers.auto.words)

pub returns : goal.returns
returns c =
    read_3 _ _ _ (sym c.in_ok-field.ensures) (layers-read (sym c.in_ok-field.ensures) c.layer_size-each.ensures).number
    c.put_layers.ensures c.if-not-put_layers.false c.rest_from.ensures
