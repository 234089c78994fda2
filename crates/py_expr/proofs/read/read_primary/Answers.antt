use Rattle.std.proofs.Common.{◌∙◌, ap, sym, Some}
use Rattle.std.proofs.lemmas.Result.{err_from_is_err_and}
use Rattle.py_language.specs.TreesPlaces.{Postfix}
use Rattle.py_expr.proofs.ReadLemmas.{tree_read, fault_read}
use Rattle.py_expr.proofs.read.read_primary.Goals as goal

pub returns-in_err-shape : goal.returns-in_err-shape
returns-in_err-shape c =
    let p = err_from_is_err_and c.from_residual-in_err-shape.result c.from_residual-in_err-shape.ensures.1 in
    rw (p.1, p.2) (fault_read Postfix _ c.as_slice.result.now c.in_err-shape.field-0.0 (c.as_slice.ensures ∙ c.in_ok-symbols.ensures) c.in_err-shape.ensures)

pub returns : goal.returns
returns c = tree_read Postfix _ c.as_slice.result.now c.get.result.now _ c.in_ok-tree._end (c.as_slice.ensures ∙ c.in_ok-symbols.ensures) (c.in_ok-shape.ensures ∙ ap Some (sym c.get.ensures)) c.in_ok-tree.ensures
