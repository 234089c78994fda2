-- The text of a suite, which is a pytest file.
use Rattle.std.specs.Prelude.{ℕ, ◌+◌, List, [], ◌∷◌, ◌++◌, map, codes, decimal}
use Rattle.py_syntax.specs.declared.module.Module.{Module}
use Rattle.pyn_base.specs.declared.ids.FuncId.{FuncId}
use Rattle.pyn_model.specs.declared.test.Step.{Step}
use Rattle.pyn_model.specs.declared.test.Step.TheVariants.{Function}
use Rattle.pyn_model.specs.declared.test.TestCase.{TestCase}
use Rattle.pyn_model.specs.declared.test.Suite.{Suite}
use Rattle.pyn_model.specs.Tests.{function_name, variable}

-- these, parted by commas
abbrev pub with_commas : List (List ℕ) → List ℕ
with_commas [] = []
with_commas (x ∷ []) = x
with_commas (x ∷ y ∷ rest) = x ++ codes ", " ++ with_commas (y ∷ rest)

-- what a step gives to its variable
abbrev pub right_text : Module → Step → List ℕ
right_text module' (Function f args) =
    codes "module_0." ++ function_name module' f.0 ++ codes "(" ++ with_commas (map variable args) ++ codes ")"

abbrev pub steps_text : Module → ℕ → List Step → List ℕ
steps_text module' k [] = []
steps_text module' k (step ∷ rest) =
    codes "    " ++ variable k ++ codes " = " ++ right_text module' step ++ codes "\n" ++ steps_text module' (k + 1) rest

abbrev pub tests_text : Module → ℕ → List TestCase → List ℕ
tests_text module' k [] = []
tests_text module' k (case ∷ rest) =
    codes "\n\ndef test_case_" ++ decimal k ++ codes "():\n" ++ steps_text module' 0 case.test.steps
    ++ tests_text module' (k + 1) rest

-- the text of a suite of a module
abbrev pub suite_text : Module → Suite → List ℕ
suite_text module' suite =
    codes "import pytest\nimport " ++ suite.module ++ codes " as module_0\n" ++ tests_text module' 0 suite.cases
