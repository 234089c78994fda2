-- The expression of each form of display, from those of its parts.
use Rattle.std.proofs.Common.{◌≡◌, ◌∙◌, ap, List}
use Rattle.std.specs.Prelude.{map}
use Rattle.py_syntax.specs.declared.expr.Expr.{Expr}
use Rattle.py_syntax.specs.declared.expr.ExprKind.TheVariants as e
use Rattle.suite_model.specs.declared.suite.Shown.{Shown, Shown-F, map-Shown, out-Shown}
use Rattle.suite_model.specs.declared.suite.Shown.TheVariants as shown
use Rattle.suite_model.specs.declared.suite.Shown.TheVariants.{outs-Prim, outs-List, outs-Tuple, outs-Dict}
use Rattle.suite_model.specs.declared.test.Primitive.{Primitive}
use Rattle.suite_model.specs.Assertions.{display, display_by}
use Rattle.suite_model.specs.Folds.{by_shown}
use Rattle.suite_model.specs.Statements.{expression, literal}

by : (x : Shown) (f : Shown-F Shown) → out-Shown x ≡ f → display x ≡ display_by (map-Shown Shown Expr display f)
by x f is = by_shown x ∙ ap (λ f. display_by (map-Shown Shown Expr display f)) is

pub display-Prim : (p : Primitive) → display (shown.Prim p) ≡ literal p
display-Prim p = by (shown.Prim p) (Shown-F.Prim p) (outs-Prim p)

pub display-List : (parts : List Shown) → display (shown.List parts) ≡ expression (e.ListLit (map display parts))
display-List parts = by (shown.List parts) (Shown-F.List parts) (outs-List parts)

pub display-Tuple : (parts : List Shown) → display (shown.Tuple parts) ≡ expression (e.TupleLit (map display parts))
display-Tuple parts = by (shown.Tuple parts) (Shown-F.Tuple parts) (outs-Tuple parts)

pub display-Dict : (pairs : List (Shown × Shown)) → display (shown.Dict pairs) ≡ expression (e.DictLit (map (λ pair. (display pair.0, display pair.1)) pairs))
display-Dict pairs = by (shown.Dict pairs) (Shown-F.Dict pairs) (outs-Dict pairs)

pub ruleset levels = (display-Prim, display-List, display-Tuple, display-Dict)
