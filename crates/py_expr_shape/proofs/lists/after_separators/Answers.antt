use Rattle.std.proofs.Common.{◌∙◌, ap}
use Rattle.std.proofs.lemmas.Result.{err_from_is_err_and}
use Rattle.py_language.specs.Trees.{each}
use Rattle.py_expr_shape.specs.Cuts.{pieces_from}
use Rattle.py_expr_shape.proofs.ListLemmas.{goes_on, stopped, ended, pieces_next, back_decreases}
use Rattle.py_expr_shape.proofs.lists.after_separators.Goals as goal

pub returns-in_err-item : goal.returns-in_err-item
returns-in_err-item g c =
    let p = err_from_is_err_and c.from_residual.result c.from_residual.ensures.1 in
    λ f answers. rw (p.1, p.2) (stopped _ _ _ _ _ (c.loop-symbol.invariant f answers) (pieces_next f c.args.separator _ _ _ _ _ c.requires.anew c.in-Some.ensures c.cut.ensures.front c.cut.ensures.back) _ (answers _ _ _ c.in_err-item.ensures))

pub loop-symbol-smaller : goal.loop-symbol-smaller
loop-symbol-smaller g c = back_decreases _ _ c.args.separator _ _ c.in-Some.ensures c.cut.ensures.back

pub loop-symbol-preserved : goal.loop-symbol-preserved
loop-symbol-preserved g c = λ f answers.
    goes_on _ _ _ _ _ (c.loop-symbol.invariant f answers) (pieces_next f c.args.separator _ _ _ _ _ c.requires.anew c.in-Some.ensures c.cut.ensures.front c.cut.ensures.back) _ _ (answers _ _ _ c.in_ok-item.ensures) c.in_ok-push.ensures.ok

pub returns : goal.returns
returns g c = λ f answers. ended _ _ _ (c.loop-symbol.invariant f answers) (ap (λ xs. each f (pieces_from c.args.separator xs)) c.in_default.ensures)
