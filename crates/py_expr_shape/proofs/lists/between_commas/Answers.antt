use Rattle.std.proofs.Common.{◌∙◌, ap}
use Rattle.std.proofs.lemmas.Result.{err_from_is_err_and}
use Rattle.py_language.specs.Trees.{comma_list}
use Rattle.py_expr_shape.specs.declared.cut.Separator.TheVariants.{Comma}
use Rattle.py_expr_shape.proofs.ListLemmas.{prepend_none, goes_on, stopped, ended, items_next, tail_decreases}
use Rattle.py_expr_shape.proofs.lists.between_commas.Goals as goal

pub loop-part-init : goal.loop-part-init
loop-part-init g c = λ f answers. rw c.new-all.ensures (prepend_none (comma_list f c.args.symbols.now))

pub returns-in_err-item : goal.returns-in_err-item
returns-in_err-item g c =
    let p = err_from_is_err_and c.from_residual.result c.from_residual.ensures.1 in
    λ f answers. rw (p.1, p.2) (stopped _ _ _ _ _ (c.loop-part.invariant f answers) (items_next f _ _ _ _ _ c.in-Some.ensures c.cut.ensures.front c.cut.ensures.back) _ (answers _ _ c.in_err-item.ensures))

pub loop-part-smaller : goal.loop-part-smaller
loop-part-smaller g c = rw c.tail-rest.ensures (tail_decreases _ _ Comma _ _ c.in-Some.ensures c.cut.ensures.back)

pub loop-part-preserved : goal.loop-part-preserved
loop-part-preserved g c = λ f answers.
    rw c.tail-rest.ensures (goes_on _ _ _ _ _ (c.loop-part.invariant f answers) (items_next f _ _ _ _ _ c.in-Some.ensures c.cut.ensures.front c.cut.ensures.back) _ _ (answers _ _ c.in_ok-item.ensures) c.in_ok-push.ensures.ok)

pub returns : goal.returns
returns g c = λ f answers. ended _ _ _ (c.loop-part.invariant f answers) (ap (comma_list f) c.in_default.ensures)
