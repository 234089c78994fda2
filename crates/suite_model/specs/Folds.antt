-- Types and displays, one level at a time.
use Rattle.std.proofs.Common.{ap}
use Rattle.py_syntax.specs.declared.stmt.Annotation.{fold_out-Annotation}
use Rattle.py_syntax.specs.declared.expr.Expr.{Expr}
use Rattle.suite_model.specs.declared.suite.Shown.{fold_out-Shown}
use Rattle.suite_model.specs.declared.ty.Ty.{Ty, fold_out-Ty}
use Rattle.suite_model.specs.Assertions.{display, display_by}
use Rattle.suite_model.specs.Laws.{ByAnnotation, BySame, ByFits, ByShown}
use Rattle.suite_model.specs.Types.{annotated, type_by, Asked, asked_by, same_type, fits}

pub by_annotation : ByAnnotation
unfolding annotated
by_annotation classes annotation = fold_out-Annotation Ty (type_by classes) annotation

pub by_same : BySame
unfolding same_type fits
by_same program t given = ap (λ asked. asked.same given) (fold_out-Ty Asked (asked_by program) t)

pub by_fits : ByFits
unfolding same_type fits
by_fits program given t = ap (λ asked. asked.fits given) (fold_out-Ty Asked (asked_by program) t)

pub by_shown : ByShown
unfolding display
by_shown shown = fold_out-Shown Expr display_by shown
