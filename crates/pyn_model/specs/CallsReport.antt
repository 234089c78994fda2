-- The report of the suite that calls each function of a module of the first form.
use Rattle.std.specs.Prelude.{ℕ, ◌+◌, true, List, [], ◌∷◌, ◌++◌, map, Some}
use Rattle.py_syntax.specs.declared.stmt.Stmt.{Stmt}
use Rattle.py_syntax.specs.declared.module.Func.{Func}
use Rattle.py_syntax.specs.declared.module.Module.{Module}
use Rattle.pyn_model.specs.declared.report.GoalKind.TheVariants.{Entry, Reached}
use Rattle.pyn_model.specs.declared.report.GoalLine.{GoalLine}
use Rattle.pyn_model.specs.declared.report.TestLine.{TestLine}
use Rattle.pyn_model.specs.declared.report.TestLine.TheVariants.{Passes}
use Rattle.pyn_model.specs.declared.report.Report.{Report}
use Rattle.py_syntax.specs.Functions.{functions_of}
use Rattle.pyn_model.specs.Judged.{test_id}

-- test k covers the entry of function k, and each statement of its body
abbrev pub body_lines : ℕ → List Stmt → List GoalLine
body_lines k body = map (λ (s : Stmt). record { kind = Reached; line = s.line; by = Some (test_id k) }) body

abbrev pub function_lines : ℕ → Func → List GoalLine
function_lines k f = record { kind = Entry; line = f.line; by = Some (test_id k) } ∷ body_lines k f.body

abbrev pub covers_from : ℕ → List Func → List GoalLine
covers_from k [] = []
covers_from k (f ∷ rest) = function_lines k f ++ covers_from (k + 1) rest

abbrev pub passes : List Func → List TestLine
passes functions = map (λ (f : Func). Passes) functions

abbrev pub calls_report : List ℕ → Module → Report
calls_report name module' =
    record {
      «module» = name;
      steps = 20000;
      cap = 0;
      tests = passes (functions_of module');
      goals = covers_from 0 (functions_of module');
      minimal = true;
    }
