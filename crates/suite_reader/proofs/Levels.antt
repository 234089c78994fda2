-- Displays by their kinds.
use Rattle.std.proofs.Common.{◌≡◌, ◌∙◌, refl, ap, List, [], ◌∷◌, map, Option}
use Rattle.std.specs.Option.{option_map}
use Rattle.py_syntax.specs.declared.expr.Args.{Args}
use Rattle.py_syntax.specs.declared.expr.Expr.{Expr}
use Rattle.py_syntax.specs.declared.expr.ExprKind.{ExprKind, ExprKind-F, map-ExprKind}
use Rattle.py_syntax.specs.declared.expr.ExprKind.TheVariants as e
use Rattle.py_syntax.specs.declared.expr.ExprKind.TheVariants.{outs-NoneLit, outs-BoolLit, outs-IntLit, outs-StrLit, outs-Name, outs-ListLit, outs-TupleLit, outs-DictLit, outs-Attr, outs-Index, outs-Slice, outs-Call, outs-Method, outs-Super, outs-Unary, outs-Not, outs-Binary, outs-And, outs-Or, outs-Compare, outs-Cond}
use Rattle.suite_model.specs.declared.suite.Shown.{Shown}
use Rattle.suite_model.specs.declared.suite.Shown.TheVariants as shown
use Rattle.suite_file.specs.Folds.{shown_by_level, shown_by_kind}
use Rattle.suite_file.specs.Spelled.{all_of, both_of, shown_by, shown_in, shown_in_kind, shown_in_args}
use Rattle.suite_reader.specs.Shown.{shown_pair}

abbrev level : ExprKind-F ExprKind Args Expr → Option Shown
level f = shown_by (map-ExprKind ExprKind Args Expr (Option Shown) (Unit {0}) (Option Shown) shown_in_kind shown_in_args shown_in f)

abbrev parts_shown : Expr × Expr → Option Shown × Option Shown
parts_shown pair = (shown_in pair.0, shown_in pair.1)

pairs_are : (pairs : List (Expr × Expr)) → map both_of (map parts_shown pairs) ≡ map shown_pair pairs
pairs_are [] = refl
pairs_are (pair ∷ pairs) = ap (λ rest. shown_pair pair ∷ rest) (pairs_are pairs)

pub kind-DictLit : (pairs : List (Expr × Expr)) → shown_in_kind (e.DictLit pairs) ≡ option_map shown.Dict (all_of (map shown_pair pairs))
kind-DictLit pairs = shown_by_kind (e.DictLit pairs) ∙ ap level (outs-DictLit pairs) ∙ ap (λ parts. option_map shown.Dict (all_of parts)) (pairs_are pairs)

pub kind-ListLit : (xs : List Expr) → shown_in_kind (e.ListLit xs) ≡ option_map shown.List (all_of (map shown_in xs))
kind-ListLit xs = shown_by_kind (e.ListLit xs) ∙ ap level (outs-ListLit xs)

pub kind-TupleLit : (xs : List Expr) → shown_in_kind (e.TupleLit xs) ≡ option_map shown.Tuple (all_of (map shown_in xs))
kind-TupleLit xs = shown_by_kind (e.TupleLit xs) ∙ ap level (outs-TupleLit xs)

pub ruleset levels = (kind-ListLit, kind-TupleLit, kind-DictLit, shown_by_level, shown_by_kind, outs-NoneLit, outs-BoolLit, outs-IntLit, outs-StrLit, outs-Name, outs-Attr, outs-Index, outs-Slice, outs-Call, outs-Method, outs-Super, outs-Unary, outs-Not, outs-Binary, outs-And, outs-Or, outs-Compare, outs-Cond)
