-- What the program knows of a module of the first form.
use Rattle.std.specs.Prelude.{◌≡◌, ℕ, ◌≤◌, Bool, true, not, ◌==◌, List, [], ◌∷◌, map, length}
use Rattle.std.specs.List.{list_all}
use Rattle.py_syntax.specs.declared.expr.Expr.{Expr}
use Rattle.py_syntax.specs.declared.expr.ExprKind.{ExprKind, out-ExprKind}
use Rattle.py_syntax.specs.declared.stmt.Stmt.{Stmt}
use Rattle.py_syntax.specs.declared.module.Func.{Func}
use Rattle.py_syntax.specs.declared.module.Module.{Module}
use Rattle.py_language.specs.declared.first.First.{First}
use Rattle.py_language.specs.FirstForm.{module_of, is_distinct, name_of, most_functions}
use Rattle.py_meaning.specs.declared.value.Value.{Value}
use Rattle.pyn_model.specs.FirstRun.{Run, pure}
use Rattle.pyn_model.specs.FirstMeaning.{value_by}

-- an expression that is this value at once
abbrev pub IsLiteral : ExprKind → Value → Type 0
IsLiteral kind x =
    (funcs : List Func) → (value : Expr → Run Value) → (does : Stmt → Run Value) → value_by funcs value does (out-ExprKind kind) ≡ pure x

-- a text of one line
abbrev pub is_one_line : List ℕ → Bool
is_one_line text = list_all (λ c. not (c == 10)) text

-- each returns a literal, and its name has no line feed
abbrev pub AllReturn : List First → Type 0
AllReturn [] = Unit {0}
AllReturn (f ∷ rest) = ((x : Value) × IsLiteral f.literal x) × (is_one_line f.name ≡ true) × AllReturn rest

-- A module that is that of these functions, with names of their own.
pub record IsFirst (module' : Module) : Type 0 where
  pub functions : List First
  pub is : module' ≡ module_of functions
  pub distinct : is_distinct (map name_of functions) ≡ true
  pub few : length functions ≤ most_functions
  pub return : AllReturn functions
