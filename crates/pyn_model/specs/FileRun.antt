-- The run of a suite file: each test on its own, each statement with its own steps.
use Rattle.std.specs.Prelude.{ℕ, List, [], ◌∷◌, map, zip, Result, Ok, Err, codes}
use Rattle.pyn_base.specs.declared.construct.Construct.TheVariants.{Form}
use Rattle.py_syntax.specs.declared.module.Func.{Func}
use Rattle.py_syntax.specs.declared.module.Module.{Module}
use Rattle.py_syntax.specs.declared.stmt.Stmt.{Stmt}
use Rattle.py_meaning.specs.declared.value.Value.{Value}
use Rattle.py_meaning.specs.declared.value.Value.TheVariants as v
use Rattle.pyn_model.specs.FirstRun.{State, Stop, Returned, OutOfSteps, Left}
use Rattle.pyn_model.specs.FirstMeaning.{means}
use Rattle.pyn_model.specs.declared.report.TestLine.{TestLine}
use Rattle.pyn_model.specs.declared.report.TestLine.TheVariants as t
use Rattle.pyn_model.specs.declared.test.Suite.{Suite}
use Rattle.pyn_model.specs.declared.test.TestCase.{TestCase}
use Rattle.py_syntax.specs.Functions.{functions_of}
use Rattle.pyn_model.specs.Tests.{statements_from}

-- how a test ended, and which nodes of the module began in it
pub record TestRun : Type 0 where
  pub outcome : TestLine
  pub trail : List ℕ

-- where a test begins: the module is imported under its name, and nothing else is bound
abbrev pub start : State
start = record { variables = (codes "module_0", v.ModuleRef) ∷ []; depth = 0; left = 0; trail = [] }

-- a test's end at a statement that doesn't pass; a test has no `return`
abbrev pub stopped : ℕ → Stop → TestLine
stopped line (Returned x) = t.Left line Form
stopped line OutOfSteps = t.OutOfSteps line
stopped line (Left construct) = t.Left line construct

-- a statement that ends normally passes, and the test goes on after it
abbrev pub after_statement : ℕ → Result Value Stop → State → (State → TestRun) → TestRun
after_statement line (Ok x) s rest = rest s
after_statement line (Err why) s rest = record { outcome = stopped line why; trail = s.trail }

abbrev pub runs : List Func → ℕ → List (ℕ × Stmt) → State → TestRun
runs funcs steps [] s = record { outcome = t.Passes; trail = s.trail }
runs funcs steps (next ∷ rest) s =
    let meant = means funcs next.1 record s { left = steps } in
    after_statement next.0 meant.0 meant.1 (runs funcs steps rest)

-- the run of a test, each of whose statements has so many steps
abbrev pub run_case : Module → ℕ → TestCase → TestRun
run_case module' steps case = runs (functions_of module') steps (zip case.lines (statements_from module' 0 case.test.steps)) start

-- the run of each test of a suite
abbrev pub file_run : Module → ℕ → List TestCase → List TestRun
file_run module' steps cases = map (run_case module' steps) cases
