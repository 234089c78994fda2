use Rattle.std.proofs.Common.{ap}
use Rattle.std.proofs.lemmas.Result.{err_from_is_err_and}
use Rattle.py_grammar.specs.Separators.{parts}
use Rattle.py_line.proofs.ListLemmas.{prepend_none, goes_on, stopped, ended, parts_next, tail_decreases}
use Rattle.py_line.proofs.list.parts.Goals as goal

pub loop-separator-init : goal.loop-separator-init
loop-separator-init g c = λ f answers. rw c.new-all.ensures (prepend_none (parts c.args.separator f c.args.tokens.now))

pub returns-in_err-part : goal.returns-in_err-part
returns-in_err-part g c =
    let p = err_from_is_err_and c.from_residual.result c.from_residual.ensures.1 in
    λ f answers. rw (p.1, p.2) (stopped _ _ _ _ _ (c.loop-separator.invariant f answers) (parts_next c.args.separator c.requires.lists f _ _ _ _ _ c.in-Some.ensures c.cut.ensures.front c.cut.ensures.back) _ (answers _ _ c.in_err-part.ensures))

pub loop-separator-smaller : goal.loop-separator-smaller
loop-separator-smaller g c = rw c.tail-rest.ensures (tail_decreases _ _ c.args.separator _ _ c.in-Some.ensures c.cut.ensures.back)

pub loop-separator-preserved : goal.loop-separator-preserved
loop-separator-preserved g c = λ f answers.
    rw c.tail-rest.ensures (goes_on _ _ _ _ _ (c.loop-separator.invariant f answers) (parts_next c.args.separator c.requires.lists f _ _ _ _ _ c.in-Some.ensures c.cut.ensures.front c.cut.ensures.back) _ _ (answers _ _ c.in_ok-part.ensures) c.in_ok-push.ensures.ok)

pub returns : goal.returns
returns g c = λ f answers. ended _ _ _ (c.loop-separator.invariant f answers) (ap (parts c.args.separator f) c.in_default.ensures)
