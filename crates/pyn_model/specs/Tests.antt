-- Tests, and the statements that they are.
use Rattle.std.specs.Prelude.{ℕ, zero, ◌+◌, false, List, [], ◌∷◌, ◌++◌, map, Option, Some, None, codes, decimal, slice_get}
use Rattle.pyn_base.specs.declared.ids.NodeId.{NodeId}
use Rattle.py_syntax.specs.declared.module.Func.{Func}
use Rattle.py_syntax.specs.declared.module.Module.{Module}
use Rattle.py_syntax.specs.declared.expr.Expr.{Expr}
use Rattle.py_syntax.specs.declared.expr.Args.{Args, roll-Args}
use Rattle.py_syntax.specs.declared.expr.ExprKind.{ExprKind}
use Rattle.py_syntax.specs.declared.expr.ExprKind.TheVariants as e
use Rattle.py_syntax.specs.declared.stmt.Stmt.{Stmt}
use Rattle.py_syntax.specs.declared.stmt.StmtKind.TheVariants.{Assign}
use Rattle.py_syntax.specs.declared.stmt.Target.TheVariants as target
use Rattle.pyn_model.specs.declared.test.Step.{Step}
use Rattle.pyn_model.specs.declared.test.Step.TheVariants.{Function}
use Rattle.py_syntax.specs.Functions.{functions_of}

-- the name of a function of the module
abbrev pub name_in : Option Func → List ℕ
name_in None = []
name_in (Some f) = f.name

abbrev pub function_name : Module → ℕ → List ℕ
function_name module' k = name_in (slice_get (functions_of module') k)

-- the variable that a step defines
abbrev pub variable : ℕ → List ℕ
variable k = codes "var_" ++ decimal k

-- a test's own nodes have no number: all are 0, and their line is 1
abbrev pub expression : ExprKind → Expr
expression kind = record { node = record { 0 = 0 }; line = 1; kind = kind }

abbrev pub variable_read : ℕ → Expr
variable_read k = expression (e.Name (variable k))

-- what a step gives to its variable: a call through the module's name
abbrev pub right_of : Module → Step → Expr
right_of module' (Function f args) =
    expression (e.Method (expression (e.Name (codes "module_0"))) (function_name module' f.0)
    (roll-Args record { plain = map variable_read args; named = [] }))

-- step k is the assignment of its right side to variable k
abbrev pub statement_of : Module → ℕ → Step → Stmt
statement_of module' k step =
    record { node = record { 0 = 0 }; line = 1; kind = Assign (target.Name (variable k) ∷ []) false None (right_of module' step) }

abbrev pub statements_from : Module → ℕ → List Step → List Stmt
statements_from module' k [] = []
statements_from module' k (step ∷ rest) = statement_of module' k step ∷ statements_from module' (k + 1) rest
