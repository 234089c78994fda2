-- A suite file is read. Its tests have one step each, which calls a function of the module without arguments.
use Rattle.std.specs.Prelude.{ℕ, ◌+◌, ◌*◌, Bool, ◌&&◌, ◌==◌, if◌then◌else◌, bytes_eq, List, [], ◌∷◌, ◌++◌, Option, Some, None, codes, decimal, option_and_then}
use Rattle.std.specs.Option.{option_map}
use Rattle.py_syntax.specs.declared.module.Module.{Module}
use Rattle.py_language.specs.FirstForm.{lines_of, between, is_empty_line}
use Rattle.pyn_model.specs.FirstMeaning.{place_of}
use Rattle.pyn_model.specs.declared.test.Step.TheVariants.{Function}
use Rattle.pyn_model.specs.declared.test.TestCase.{TestCase}
use Rattle.pyn_model.specs.declared.test.Suite.{Suite}
use Rattle.py_syntax.specs.Functions.{functions_of}

-- test k of the file, which calls a function: two empty lines, its header and its step
abbrev pub call_case : ℕ → ℕ → TestCase
call_case k f =
    record {
      line = 4 * k + 5;
      test = record { steps = Function (record { 0 = f }) [] ∷ [] };
      lines = (4 * k + 6) ∷ [];
    }

-- the function that a step's line calls
abbrev pub callee_of : Module → List ℕ → Option ℕ
callee_of module' line =
    option_and_then (place_of (functions_of module')) (between (codes "    var_0 = module_0.") (codes "()\n") line)

abbrev pub cases_in : Module → ℕ → List (List ℕ) → Option (List TestCase)
cases_in module' k [] = Some []
cases_in module' k (x ∷ []) = None
cases_in module' k (x ∷ y ∷ []) = None
cases_in module' k (x ∷ y ∷ header ∷ []) = None
cases_in module' k (x ∷ y ∷ header ∷ step ∷ rest) =
    if is_empty_line x && is_empty_line y && bytes_eq header (codes "def test_case_" ++ decimal k ++ codes "():\n")
    then option_and_then (λ f. option_map (λ cases. call_case k f ∷ cases) (cases_in module' (k + 1) rest)) (callee_of module' step)
    else None

abbrev pub suite_named : Module → List (List ℕ) → List ℕ → Option Suite
suite_named module' rest name = option_map (λ cases. record { «module» = name; cases = cases }) (cases_in module' 0 rest)

-- the two import lines, and the tests
abbrev pub suite_in : Module → List (List ℕ) → Option Suite
suite_in module' [] = None
suite_in module' (first ∷ []) = None
suite_in module' (first ∷ second ∷ rest) =
    if bytes_eq first (codes "import pytest\n")
    then option_and_then (suite_named module' rest) (between (codes "import ") (codes " as module_0\n") second)
    else None

-- the suite that a text is, for a module
abbrev pub suite_of : Module → List ℕ → Option Suite
suite_of module' text = suite_in module' (lines_of text)
