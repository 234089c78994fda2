use Rattle.std.proofs.Common.{◌∙◌, ap, [], ◌∷◌, ◌++◌}
use Rattle.std.proofs.lemmas.Result.{err_from_is_err_and}
use Rattle.py_language.specs.Trees.{each}
use Rattle.py_line.specs.Reads.{behind}
use Rattle.py_line.proofs.ListLemmas.{prepend_none, goes_on, stopped, ended, all_next, behind_next, back_decreases}
use Rattle.py_line.proofs.list.all_parts.Goals as goal

pub loop-separator-init : goal.loop-separator-init
loop-separator-init g c = λ f answers.
    goes_on _ _ _ [] _ (prepend_none _) (all_next c.args.separator c.requires.lists f _ _ _ c.cut.ensures.front c.cut.ensures.back) _ _ (answers _ _ c.in_ok-part.ensures)
    (c.in_ok-push.ensures.ok ∙ ap (λ xs. xs ++ c.in_ok-part.field-0 ∷ []) c.new-all.ensures)

pub returns-in_err-part : goal.returns-in_err-part
returns-in_err-part g c =
    let p = err_from_is_err_and c.from_residual.result c.from_residual.ensures.1 in
    λ f answers. rw (p.1, p.2) (stopped _ _ _ [] _ (prepend_none _) (all_next c.args.separator c.requires.lists f _ _ _ c.cut.ensures.front c.cut.ensures.back) _ (answers _ _ c.in_err-part.ensures))

pub returns-in_err-part-2 : goal.returns-in_err-part-2
returns-in_err-part-2 g c =
    let p = err_from_is_err_and c.from_residual-in_err-part-2.result c.from_residual-in_err-part-2.ensures.1 in
    λ f answers. rw (p.1, p.2) (stopped _ _ _ _ _ (c.loop-separator.invariant f answers) (behind_next c.args.separator c.requires.lists f _ _ _ _ _ c.in-Some.ensures c.cut-in-Some.ensures.front c.cut-in-Some.ensures.back) _ (answers _ _ c.in_err-part-2.ensures))

pub loop-separator-smaller : goal.loop-separator-smaller
loop-separator-smaller g c = back_decreases _ _ c.args.separator _ _ c.in-Some.ensures c.cut-in-Some.ensures.back

pub loop-separator-preserved : goal.loop-separator-preserved
loop-separator-preserved g c = λ f answers.
    goes_on _ _ _ _ _ (c.loop-separator.invariant f answers) (behind_next c.args.separator c.requires.lists f _ _ _ _ _ c.in-Some.ensures c.cut-in-Some.ensures.front c.cut-in-Some.ensures.back) _ _ (answers _ _ c.in_ok-part-2.ensures) c.in_ok-push-2.ensures.ok

pub returns : goal.returns
returns g c = λ f answers. ended _ _ _ (c.loop-separator.invariant f answers) (ap (λ xs. each f (behind c.args.separator xs)) c.in_default.ensures)
