-- The meaning of the first form's programs (Language Reference, chapters 4, 6, 7 and 8), as far as these modules go:
-- functions without parameters that return a literal, and tests that call them. What has no meaning yet leaves.
use Rattle.std.specs.Prelude.{ℕ, zero, suc, ◌+◌, if◌then◌else◌, bytes_eq, nat_lt, List, [], ◌∷◌, Option, Some, None, Result, Ok, Err, slice_get, option_and_then}
use Rattle.std.specs.List.{position_from}
use Rattle.pyn_base.specs.declared.construct.Construct.TheVariants.{Form, CallDepth, UnknownName}
use Rattle.py_syntax.specs.declared.expr.Expr.{Expr}
use Rattle.py_syntax.specs.declared.expr.Args.{Args, out-Args}
use Rattle.py_syntax.specs.declared.expr.ExprKind.{ExprKind, ExprKind-F, out-ExprKind}
use Rattle.py_syntax.specs.declared.stmt.Stmt.{Stmt}
use Rattle.py_syntax.specs.declared.stmt.StmtKind.{StmtKind, StmtKind-F, out-StmtKind}
use Rattle.py_syntax.specs.declared.stmt.Clause.{Clause}
use Rattle.py_syntax.specs.declared.stmt.Target.{Target}
use Rattle.py_syntax.specs.declared.stmt.Target.TheVariants as target
use Rattle.py_syntax.specs.declared.module.Func.{Func}
use Rattle.py_meaning.specs.declared.value.Value.{Value}
use Rattle.py_meaning.specs.declared.value.Value.TheVariants as v
use Rattle.pyn_model.specs.FirstRun.{State, Stop, Returned, OutOfSteps, Left, Run, ◌>>=◌, ◌>>◌, pure, stop, begins}

-- the value of a name in a list of bindings, the newest first
abbrev pub lookup : List (List ℕ × Value) → List ℕ → Option Value
lookup [] name = None
lookup (bound ∷ rest) name = if bytes_eq bound.0 name then Some bound.1 else lookup rest name

abbrev pub found : Option Value → Run Value
found (Some x) = pure x
found None = stop (Left UnknownName)

abbrev pub reads : List ℕ → Run Value
reads name = λ s. found (lookup s.variables name) s

abbrev pub binds : List ℕ → Value → Run Value
binds name x = λ s. (Ok v.None, record s { variables = (name, x) ∷ s.variables })

-- the number of the first function of a name
abbrev pub place_of : List Func → List ℕ → Option ℕ
place_of funcs name = position_from (λ (f : Func). bytes_eq name f.name) 0 funcs

abbrev pub function_named : List Func → List ℕ → Option Func
function_named funcs name = option_and_then (slice_get funcs) (place_of funcs name)

-- a call gives what its body returned, and None at its end
abbrev pub answer : Result Value Stop → Result Value Stop
answer (Ok x) = Ok v.None
answer (Err (Returned x)) = Ok x
answer (Err OutOfSteps) = Err OutOfSteps
answer (Err (Left construct)) = Err (Left construct)

-- back in the frame of the caller
abbrev pub leaves : State → Result Value Stop × State → Result Value Stop × State
leaves caller r = (answer r.0, record r.1 { variables = caller.variables; depth = caller.depth })

abbrev pub call_limit : ℕ
call_limit = 200

module _ (does : Stmt → Run Value) where
  abbrev pub block : List Stmt → Run Value
  block [] = pure v.None
  block (s ∷ rest) = does s >> block rest

  -- a function's frame is made, it begins, and its body runs
  abbrev pub calls : Func → Run Value
  calls f = λ s.
      if nat_lt s.depth call_limit
      then leaves s ((begins f.node >> block f.body) record s { variables = []; depth = s.depth + 1 })
      else (Err (Left CallDepth), s)

module _ (funcs : List Func) (value : Expr → Run Value) (does : Stmt → Run Value) where
  -- a call without arguments
  abbrev pub calls_with : Func → List Expr → List (List ℕ × Expr) → Run Value
  calls_with f [] [] = calls does f
  calls_with f [] (n ∷ named) = stop (Left Form)
  calls_with f (a ∷ plain) named = stop (Left Form)

  abbrev pub calls_found : Option Func → Args → Run Value
  calls_found None args = stop (Left UnknownName)
  calls_found (Some f) args = calls_with f (out-Args args).plain (out-Args args).named

  -- a function of the module is called by its name, through the module
  abbrev pub calls_method : Value → List ℕ → Args → Run Value
  calls_method v.ModuleRef name args = calls_found (function_named funcs name) args
  calls_method _ name args = stop (Left Form)

  abbrev pub value_by : ExprKind-F ExprKind Args Expr → Run Value
  value_by ExprKind-F.NoneLit = pure v.None
  value_by (ExprKind-F.BoolLit b) = pure (v.Bool b)
  value_by (ExprKind-F.IntLit n) = pure (v.Int n)
  value_by (ExprKind-F.StrLit text) = pure (v.Str text)
  value_by (ExprKind-F.Name name) = reads name
  value_by (ExprKind-F.Method object name args) = do
    x ← value object
    calls_method x name args
  value_by _ = stop (Left Form)

  -- an assignment to one name
  abbrev pub assigns : List Target → Expr → Run Value
  assigns (target.Name name ∷ []) e = value e >>= binds name
  assigns _ e = stop (Left Form)

  abbrev pub does_by : StmtKind-F StmtKind Clause Stmt → Run Value
  does_by (StmtKind-F.Return None) = stop (Returned v.None)
  does_by (StmtKind-F.Return (Some e)) = do
    x ← value e
    stop (Returned x)
  does_by (StmtKind-F.Assign targets is_tuple annotation e) = assigns targets e
  does_by _ = stop (Left Form)

module _ (funcs : List Func) where
  -- what an expression and a statement mean with so many steps at most: a node takes one before its parts do
  abbrev mutual
    pub value_in : ℕ → Expr → Run Value
    value_in zero e = stop OutOfSteps
    value_in (suc n) e = begins e.node >> value_by funcs (value_in n) (does_in n) (out-ExprKind e.kind)

    pub does_in : ℕ → Stmt → Run Value
    does_in zero s = stop OutOfSteps
    does_in (suc n) s = begins s.node >> does_by funcs (value_in n) (does_in n) (out-StmtKind s.kind)

  -- what a statement means with the steps that are left
  abbrev pub means : Stmt → Run Value
  means stmt = λ s. does_in s.left stmt s
