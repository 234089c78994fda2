-- The run of a test that calls a function without parameters that returns a literal.
use Rattle.std.proofs.Common.{◌≡◌, refl, ℕ, suc, ◌+◌, List, [], ◌∷◌, Option, Some, None, slice_get, codes}
use Rattle.pyn_base.specs.declared.ids.NodeId.{NodeId}
use Rattle.py_syntax.specs.declared.expr.Expr.{Expr}
use Rattle.py_syntax.specs.declared.expr.ExprKind.{ExprKind, out-ExprKind}
use Rattle.py_syntax.specs.declared.expr.Args.{out-roll-Args}
use Rattle.py_syntax.specs.declared.stmt.Stmt.{Stmt}
use Rattle.py_syntax.specs.declared.stmt.StmtKind.TheVariants.{Return, outs-Return, Assign, outs-Assign}
use Rattle.py_syntax.specs.declared.expr.ExprKind.TheVariants.{outs-Method, outs-Name}
use Rattle.py_syntax.specs.declared.module.Func.{Func}
use Rattle.py_syntax.specs.declared.module.Module.{Module}
use Rattle.py_meaning.specs.declared.value.Value.{Value}
use Rattle.pyn_model.specs.FirstMeaning.{place_of}
use Rattle.pyn_model.specs.FirstModules.{IsLiteral}
use Rattle.pyn_model.specs.declared.report.TestLine.TheVariants.{Passes}
use Rattle.py_syntax.specs.Functions.{functions_of}
use Rattle.pyn_model.specs.FileRun.{TestRun, run_case}
use Rattle.pyn_model.specs.SuiteRead.{call_case}

-- a function that returns an expression, with its nodes numbered from `node` on
abbrev pub returning : List ℕ → ℕ → ℕ → ℕ → ExprKind → Func
returning name node line body_line kind =
    record {
      node = record { 0 = node };
      name = name;
      line = line;
      params = [];
      returns = None;
      body = record {
        node = record { 0 = node + 1 };
        line = body_line;
        kind = Return (Some record { node = record { 0 = node + 2 }; line = body_line; kind = kind });
      } ∷ [];
    }

-- with six steps or more
pub run_case-returning : (n : ℕ) (m : Module) (name : List ℕ) (node line body_line : ℕ) (kind : ExprKind) (x : Value) (k : ℕ)
    → slice_get (functions_of m) k ≡ Some (returning name node line body_line kind)
    → place_of (functions_of m) name ≡ Some k
    → IsLiteral kind x
    → run_case m (suc (suc (suc (suc (suc (suc n)))))) (call_case k k) ≡ record { outcome = Passes; trail = node ∷ (node + 1) ∷ (node + 2) ∷ [] }
run_case-returning n m name node line body_line kind x k at place literal = rw (at, outs-Assign, outs-Method, outs-Name, place, at, out-roll-Args, outs-Return, literal) refl
