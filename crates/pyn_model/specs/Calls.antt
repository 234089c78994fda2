-- The suite that calls each function of a module once.
use Rattle.std.specs.Prelude.{ℕ, ◌+◌, List, [], ◌∷◌}
use Rattle.py_syntax.specs.declared.module.Func.{Func}
use Rattle.py_syntax.specs.declared.module.Module.{Module}
use Rattle.pyn_model.specs.declared.test.TestCase.{TestCase}
use Rattle.pyn_model.specs.declared.test.Suite.{Suite}
use Rattle.py_syntax.specs.Functions.{functions_of}
use Rattle.pyn_model.specs.SuiteRead.{call_case}

-- one test for each function from number k on
abbrev pub calls_from : ℕ → List Func → List TestCase
calls_from k [] = []
calls_from k (f ∷ rest) = call_case k k ∷ calls_from (k + 1) rest

abbrev pub calls_suite : List ℕ → Module → Suite
calls_suite name module' = record { «module» = name; cases = calls_from 0 (functions_of module') }
