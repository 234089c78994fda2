use Rattle.std.proofs.Common.{sym, ap, ◌∙◌}
use Rattle.py_syntax.specs.declared.expr.ExprKind.TheVariants as k
use Rattle.py_meaning.specs.Tuples.{tuple}
use Rattle.py_import.specs.Kinds.{constant_kind}
use Rattle.py_import.proofs.ByKind.{kind-TupleLit}
use Rattle.py_import.proofs.constants.+constant.Goals as goal

pub constant_of_kind-returns-in_ok-x-in-TupleLit : goal.constant_of_kind-returns-in_ok-x-in-TupleLit
constant_of_kind-returns-in_ok-x-in-TupleLit t c =
    let names = c.args.names.now in
    let is = c.in-TupleLit.is ∙ ap k.TupleLit (sym c.as_slice.ensures) in
    c.in_ok-x-in-TupleLit.ensures ∙ ap tuple c.in_ok-values-in-TupleLit.ensures ∙ sym (kind-TupleLit c.as_slice.result.now names) ∙ ap (λ kind. constant_kind kind names) (sym is)
