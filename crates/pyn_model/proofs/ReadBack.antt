-- The suite that calls each function, written and read back.
use Rattle.std.proofs.Common.{◌≡◌, refl, sym, ◌∙◌, ap, ap₂, subst, ℕ, ◌+◌, Bool, true, if◌then◌else◌, List, [], ◌∷◌, ◌++◌, map, Option, Some, None, codes, decimal, arith, append_assoc, append-nil, bytes_eq, slice_get, option_and_then}
use Rattle.std.specs.Option.{option_map}
use Rattle.std.proofs.lemmas.Fmt.{decimal_digit}
use Rattle.py_syntax.specs.declared.module.Func.{Func}
use Rattle.py_syntax.specs.declared.module.Module.{Module}
use Rattle.py_language.specs.declared.first.First.{First}
use Rattle.py_language.specs.FirstForm.{func_at, module_of, is_distinct, name_of, lines_of, between, before}
use Rattle.pyn_model.specs.FirstMeaning.{place_of}
use Rattle.pyn_model.specs.declared.test.Step.TheVariants.{Function}
use Rattle.pyn_model.specs.declared.test.TestCase.{TestCase}
use Rattle.pyn_model.specs.declared.test.Suite.{Suite}
use Rattle.py_syntax.specs.Functions.{functions_of}
use Rattle.pyn_model.specs.Tests.{function_name, name_in}
use Rattle.pyn_model.specs.SuiteText.{right_text, steps_text, tests_text, suite_text}
use Rattle.pyn_model.specs.SuiteRead.{call_case, callee_of, cases_in, suite_named, suite_in, suite_of}
use Rattle.pyn_model.specs.Calls.{calls_from, calls_suite}
use Rattle.pyn_model.specs.FirstModules.{is_one_line, AllReturn, IsFirst}
use Rattle.pyn_model.proofs.Booleans.{same_text}
use Rattle.pyn_model.proofs.Functions.{funcs_from, functions_of-module, IsCalled, AllCalled, all_called}
use Rattle.pyn_model.proofs.Reading.{lines_of-parts, before-append, one_line-decimal}

-- ---- the lines of a test

-- the step of test k, whose function has this name
abbrev pub step_line : List ℕ → List ℕ
step_line name = codes "    var_0 = module_0." ++ name ++ codes "()\n"

abbrev header_line : ℕ → List ℕ
header_line k = codes "def test_case_" ++ decimal k ++ codes "():\n"

brackets : (name : List ℕ) → name ++ codes "(" ++ [] ++ codes ")" ++ codes "\n" ++ [] ≡ name ++ codes "()\n"
brackets name =
    append-nil (name ++ codes "(" ++ [] ++ codes ")" ++ codes "\n")
    ∙ ap (λ t. t ++ codes ")" ++ codes "\n") (append-nil (name ++ codes "("))
    ∙ append_assoc (name ++ codes "(") (codes ")") (codes "\n")
    ∙ append_assoc name (codes "(") (codes ")\n")

pub step-is : (m : Module) (k : ℕ) → steps_text m 0 (Function (record { 0 = k }) [] ∷ []) ≡ step_line (function_name m k)
step-is m k =
    ap (λ digit. codes "    " ++ (codes "var_" ++ digit) ++ codes " = " ++ right_text m (Function (record { 0 = k }) []) ++ codes "\n" ++ []) (decimal_digit 0 (omega arith))
    ∙ ap (λ rest. codes "    var_0 = module_0." ++ rest) (brackets (function_name m k))

regrouped : (a b c d : List ℕ) → a ++ b ++ c ++ d ≡ a ++ b ++ (c ++ d)
regrouped a b c d = append_assoc (a ++ b) c d

step_cut : (name rest : List ℕ) → is_one_line name ≡ true → lines_of (step_line name ++ rest) ≡ step_line name ∷ lines_of rest
step_cut name rest e =
    ap lines_of (regrouped (codes "    var_0 = module_0.") name (codes "()\n") rest)
    ∙ lines_of-parts (codes "    var_0 = module_0.") name (codes "()") rest refl e refl

header_cut : (k : ℕ) (rest : List ℕ) → lines_of (header_line k ++ rest) ≡ header_line k ∷ lines_of rest
header_cut k rest =
    ap lines_of (regrouped (codes "def test_case_") (decimal k) (codes "():\n") rest)
    ∙ lines_of-parts (codes "def test_case_") (decimal k) (codes "():") rest refl (one_line-decimal k) refl

-- the four lines of test k
test_cut : (k : ℕ) (step more : List ℕ) → lines_of (codes "\n\ndef test_case_" ++ decimal k ++ codes "():\n" ++ step ++ more)
    ≡ codes "\n" ∷ codes "\n" ∷ header_line k ∷ lines_of (step ++ more)
test_cut k step more =
    ap (λ text. lines_of (10 ∷ 10 ∷ text)) (append_assoc (header_line k) step more)
    ∙ ap (λ lines. codes "\n" ∷ codes "\n" ∷ lines) (header_cut k (step ++ more))

-- ---- what they spell

callee-is : (m : Module) (name : List ℕ) → callee_of m (step_line name) ≡ place_of (functions_of m) name
callee-is m name = ap (λ found. option_and_then (place_of (functions_of m)) found) (before-append (codes "()\n") name)

abbrev read_case : Module → ℕ → List (List ℕ) → Bool → Option ℕ → Option (List TestCase)
read_case m k rest header callee =
    if header then option_and_then (λ f. option_map (λ cases. call_case k f ∷ cases) (cases_in m (k + 1) rest)) callee else None

case_read : (m : Module) (k : ℕ) (name : List ℕ) (rest : List (List ℕ)) → place_of (functions_of m) name ≡ Some k
    → cases_in m k (codes "\n" ∷ codes "\n" ∷ header_line k ∷ step_line name ∷ rest) ≡ option_map (λ cases. call_case k k ∷ cases) (cases_in m (k + 1) rest)
case_read m k name rest e =
    ap₂ (read_case m k rest) (same_text (header_line k)) (callee-is m name ∙ e)

-- ---- the whole

cases_read : (m : Module) (k : ℕ) (fs : List First) → AllReturn fs → AllCalled (functions_of m) k fs
    → cases_in m k (lines_of (tests_text m k (calls_from k (funcs_from k fs)))) ≡ Some (calls_from k (funcs_from k fs))
cases_read m k [] r c = refl
cases_read m k (f ∷ rest) r c =
    let more = tests_text m (k + 1) (calls_from (k + 1) (funcs_from (k + 1) rest)) in
    let name : function_name m k ≡ f.name = ap name_in c.0.at in
    let step = step-is m k ∙ ap step_line name in
    ap (λ s. cases_in m k (lines_of (codes "\n\ndef test_case_" ++ decimal k ++ codes "():\n" ++ s ++ more))) step
    ∙ ap (cases_in m k) (test_cut k (step_line f.name) more ∙ ap (λ lines. codes "\n" ∷ codes "\n" ∷ header_line k ∷ lines) (step_cut f.name more r.1))
    ∙ case_read m k f.name (lines_of more) c.0.place
    ∙ ap (option_map (λ cases. call_case k k ∷ cases)) (cases_read m (k + 1) rest r.2 c.1)

import_cut : (name rest : List ℕ) → is_one_line name ≡ true
    → lines_of (codes "import " ++ name ++ codes " as module_0\n" ++ rest) ≡ (codes "import " ++ name ++ codes " as module_0\n") ∷ lines_of rest
import_cut name rest e =
    ap lines_of (regrouped (codes "import ") name (codes " as module_0\n") rest)
    ∙ lines_of-parts (codes "import ") name (codes " as module_0") rest refl e refl

-- the suite of a module of the first form is read back from its text
pub suite_of-calls : (m : Module) (name : List ℕ) → IsFirst m → is_one_line name ≡ true → suite_of m (suite_text m (calls_suite name m)) ≡ Some (calls_suite name m)
suite_of-calls m name first e =
    ap (λ lines. suite_in m (codes "import pytest\n" ∷ lines)) (import_cut name tests e)
    ∙ ap (λ found. option_and_then (suite_named m (lines_of tests)) found) (before-append (codes " as module_0\n") name)
    ∙ ap (option_map (λ cases. record { «module» = name; cases = cases })) cases
  where
    tests : List ℕ
    tests = tests_text m 0 (calls_from 0 (functions_of m))

    cases : cases_in m 0 (lines_of tests) ≡ Some (calls_from 0 (functions_of m))
    cases =
        let P : Module → Type 0 = λ n. cases_in n 0 (lines_of (tests_text n 0 (calls_from 0 (functions_of n)))) ≡ Some (calls_from 0 (functions_of n)) in
        let Q : List Func → Type 0 = λ all. AllCalled all 0 first.functions in
        let n = module_of first.functions in
        let called : AllCalled (functions_of n) 0 first.functions = subst Q (sym (functions_of-module first.functions)) (all_called first.functions first.distinct) in
        let R : List Func → Type 0 = λ all. cases_in n 0 (lines_of (tests_text n 0 (calls_from 0 all))) ≡ Some (calls_from 0 all) in
        subst P (sym first.is) (subst R (sym (functions_of-module first.functions)) (cases_read n 0 first.functions first.return called))
