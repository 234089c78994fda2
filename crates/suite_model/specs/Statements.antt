-- The statements that a test is (Language Reference 7.2): step k assigns what it makes to `var_k`. The module is `module_0`.
use Rattle.std.specs.Prelude.{ℕ, ◌+◌, suc, ℤ, pos, negsuc, false, List, [], ◌∷◌, ◌++◌, map, Option, Some, None, codes, decimal, slice_get}
use Rattle.py_syntax.specs.declared.expr.Args.{roll-Args}
use Rattle.py_syntax.specs.declared.expr.Expr.{Expr}
use Rattle.py_syntax.specs.declared.expr.ExprKind.{ExprKind}
use Rattle.py_syntax.specs.declared.expr.ExprKind.TheVariants as e
use Rattle.py_syntax.specs.declared.operator.Sign.TheVariants.{Minus}
use Rattle.py_syntax.specs.declared.stmt.Stmt.{Stmt}
use Rattle.py_syntax.specs.declared.stmt.StmtKind.TheVariants.{Assign}
use Rattle.py_syntax.specs.declared.stmt.Target.TheVariants as target
use Rattle.py_plain.specs.Names.{function_at}
use Rattle.py_plain.specs.Program.{Function, ClassInfo, Program}
use Rattle.suite_model.specs.declared.test.Primitive.{Primitive}
use Rattle.suite_model.specs.declared.test.Primitive.TheVariants as prim
use Rattle.suite_model.specs.declared.test.Step.{Step}
use Rattle.suite_model.specs.declared.test.Step.TheVariants as step
use Rattle.suite_model.specs.declared.test.Test.{Test}

abbrev pub variable : ℕ → List ℕ
variable k = codes "var_" ++ decimal k

-- A test's own nodes have no numbers: all are 0, and their line is 1.
abbrev pub expression : ExprKind → Expr
expression kind = record { node = record { 0 = 0 }; line = 1; kind = kind }

abbrev pub variable_read : ℕ → Expr
variable_read k = expression (e.Name (variable k))

-- a negative integer is a sign and a literal
abbrev pub integer : ℤ → Expr
integer (pos n) = expression (e.IntLit (pos n))
integer (negsuc n) = expression (e.Unary Minus (expression (e.IntLit (pos (suc n)))))

abbrev pub literal : Primitive → Expr
literal prim.None = expression e.NoneLit
literal (prim.Bool b) = expression (e.BoolLit b)
literal (prim.Int n) = integer n
literal (prim.Str text) = expression (e.StrLit text)

abbrev pub class_name : Option ClassInfo → List ℕ
class_name None = []
class_name (Some info) = info.name

abbrev pub function_name : Option Function → List ℕ
function_name None = []
function_name (Some f) = f.tree.name

abbrev pub calls : Expr → List ℕ → List ℕ → Expr
calls of name args = expression (e.Method of name (roll-Args record { plain = map variable_read args; named = [] }))

abbrev pub module_read : Expr
module_read = expression (e.Name (codes "module_0"))

module _ (program : Program) where
  -- what a step makes
  abbrev pub right_of : Step → Expr
  right_of (step.Prim p) = literal p
  right_of (step.ListOf parts) = expression (e.ListLit (map variable_read parts))
  right_of (step.DictOf pairs) = expression (e.DictLit (map (λ pair. (variable_read pair.0, variable_read pair.1)) pairs))
  right_of (step.Construct class args) = calls module_read (class_name (slice_get program.classes class)) args
  right_of (step.Method receiver name args) = calls (variable_read receiver) name args
  right_of (step.Function f args) = calls module_read (function_name (function_at program (Some f))) args

  abbrev pub statement_of : ℕ → Step → Stmt
  statement_of k step = record { node = record { 0 = 0 }; line = 1; kind = Assign (target.Name (variable k) ∷ []) false None (right_of step) }

  abbrev pub statements_from : ℕ → List Step → List Stmt
  statements_from k [] = []
  statements_from k (step ∷ more) = statement_of k step ∷ statements_from (k + 1) more

  abbrev pub statements_of : Test → List Stmt
  statements_of test = statements_from 0 test.steps
