-- The defaults of an item's functions.
use Rattle.std.proofs.Common.{◌≡◌, ◌∙◌, sym, ap, Bool, List, map}
use Rattle.std.specs.Borrow.{Bor}
use Rattle.std.specs.List.{flat_map}
use Rattle.std.proofs.lemmas.List.Folds.{flat_map-map}
use Rattle.py_syntax.specs.declared.expr.Expr.{Expr}
use Rattle.py_syntax.specs.declared.module.Func.{Func}
use Rattle.py_syntax.specs.declared.module.Item.{Item}
use Rattle.py_scopes.specs.ModuleRows.{functions_in_item, defaults_where}
use Rattle.py_module_rules.specs.Pieces.{params_where}

pub defaults_are : (is_faulty : Expr → Bool) (functions : List (Bor Func)) (x : Item) → map (λ function. function.now) functions ≡ functions_in_item x
    → flat_map (λ function. params_where is_faulty function.now.params) functions ≡ defaults_where is_faulty x
defaults_are is_faulty functions x are =
    sym (flat_map-map (λ (f : Func). params_where is_faulty f.params) (λ (function : Bor Func). function.now) functions)
    ∙ ap (flat_map (λ (f : Func). params_where is_faulty f.params)) are
