-- Worked examples: the texts of small suites, and which suites are printable.
use Rattle.std.specs.Prelude.{◌≡◌, ℕ, pos, negsuc, true, false, List, [], ◌∷◌, map, Option, None, Some, codes}
use Rattle.pyn_base.specs.declared.class.BuiltClass.TheVariants.{Object, Int, ValueError}
use Rattle.pyn_base.specs.declared.class.ClassId.{ClassId}
use Rattle.pyn_base.specs.declared.class.ClassId.TheVariants.{Built, Own}
use Rattle.pyn_base.specs.declared.ids.FuncId.{FuncId}
use Rattle.py_syntax.specs.declared.module.Func.{Func}
use Rattle.py_syntax.specs.declared.module.Item.TheVariants as item
use Rattle.py_syntax.specs.declared.module.Member.TheVariants as member
use Rattle.py_syntax.specs.declared.module.Module.{Module}
use Rattle.py_plain.specs.Program.{Program, program_of}
use Rattle.suite_model.specs.declared.suite.Assert.{Assert}
use Rattle.suite_model.specs.declared.suite.Shown.{Shown}
use Rattle.suite_model.specs.declared.suite.Shown.TheVariants as shown
use Rattle.suite_model.specs.declared.suite.Subject.{Subject}
use Rattle.suite_model.specs.declared.suite.Subject.TheVariants.{Whole, Attr}
use Rattle.suite_model.specs.declared.suite.Suite.{Suite}
use Rattle.suite_model.specs.declared.suite.TestCase.{TestCase}
use Rattle.suite_model.specs.declared.suite.Wants.{Wants}
use Rattle.suite_model.specs.declared.suite.Wants.TheVariants.{Is, Equals, Kind}
use Rattle.suite_model.specs.declared.test.Primitive.TheVariants as prim
use Rattle.suite_model.specs.declared.test.Step.{Step}
use Rattle.suite_model.specs.declared.test.Step.TheVariants as step
use Rattle.suite_text.specs.Printable.{display_depth, is_printable}
use Rattle.suite_text.specs.SuiteText.{suite_text}

-- ---- a module:
--
--     class Full(Exception):
--         def m(self):
--             ..
--     def put(n):
--         ..

abbrev pub func : List ℕ → Func
func name = record { node = record { 0 = 0 }; name = name; line = 1; params = []; returns = None; body = [] }

abbrev pub sample : Module
sample = record {
  items = item.Class record { name = codes "Full"; base = Some (codes "Exception"); line = 1; members = member.Func (func (codes "m")) ∷ [] } ∷ item.Func (func (codes "put")) ∷ [];
  future = false;
  nodes = 2;
}

abbrev pub program : Program
program = program_of sample

-- its function `put`, and the method
abbrev pub put : FuncId
put = record { 0 = 1 }

abbrev pub m : FuncId
m = record { 0 = 0 }

-- ---- tests of it

abbrev pub case_of : List Step → Option ClassId → List Assert → TestCase
case_of steps None asserts = record { line = 0; test = record { steps = steps }; lines = []; raises = None; asserts = asserts }
case_of steps (Some class) asserts = record { line = 0; test = record { steps = steps }; lines = []; raises = Some (0, class); asserts = asserts }

abbrev pub suite_of : List TestCase → Suite
suite_of cases = record { «module» = codes "box"; cases = cases }

abbrev pub number : ℕ → Step
number n = step.Prim (prim.Int (pos n))

abbrev pub asserts : ℕ → Subject → Wants → Assert
asserts after subject wants = record { after = after; line = 0; subject = subject; wants = wants }

-- ---- texts

-- no test
abbrev pub Empty : Type 0
Empty = suite_text program (suite_of []) ≡ codes "import pytest\nimport box as module_0\n"

-- a test that ends by raising an exception of the module
abbrev pub raising : Suite
raising = suite_of (case_of (number 3 ∷ step.Function put (0 ∷ []) ∷ []) (Some (Own 0)) [] ∷ [])

abbrev pub Raising : Type 0
Raising = suite_text program raising ≡ codes "import pytest\nimport box as module_0\n\n\ndef test_case_0():\n    var_0 = 3\n    with pytest.raises(module_0.Full):\n        module_0.put(var_0)\n"

-- two tests, with steps and assertions of every kind
abbrev pub one : Shown
one = shown.Prim (prim.Int (pos 1))

abbrev pub steps : List Step
steps = step.Prim (prim.Int (negsuc 0)) ∷ step.Prim (prim.Str (codes "a\n")) ∷ step.ListOf (0 ∷ 1 ∷ []) ∷ step.DictOf ((1, 0) ∷ []) ∷ step.Construct 0 (2 ∷ []) ∷ step.Method 4 (codes "m") [] ∷ []

abbrev pub checks : List Assert
checks =
    asserts 0 (Whole 0) (Equals (shown.Prim (prim.Int (negsuc 0))))
    ∷ asserts 4 (Attr 4 (codes "n")) (Equals (shown.List (one ∷ shown.Tuple (one ∷ []) ∷ shown.Dict ((shown.Prim (prim.Str (codes "b")), shown.Prim prim.None) ∷ []) ∷ [])))
    ∷ asserts 4 (Whole 4) (Kind (Own 0)) ∷ asserts 5 (Whole 5) (Is prim.None) ∷ []

abbrev pub kinds : Suite
kinds =
    suite_of (case_of steps None checks
    ∷ case_of (step.Prim (prim.Bool true) ∷ step.Function put [] ∷ []) (Some (Built ValueError)) (asserts 1 (Whole 0) (Is (prim.Bool true)) ∷ asserts 1 (Whole 0) (Kind (Built Int)) ∷ []) ∷ [])

abbrev pub Kinds : Type 0
Kinds = suite_text program kinds ≡ codes "import pytest\nimport box as module_0\n\n\ndef test_case_0():\n    var_0 = -1\n    assert var_0 == -1\n    var_1 = \"a\\n\"\n    var_2 = [var_0, var_1]\n    var_3 = {var_1: var_0}\n    var_4 = module_0.Full(var_2)\n    assert var_4.n == [1, (1,), {\"b\": None}]\n    assert isinstance(var_4, module_0.Full)\n    var_5 = var_4.m()\n    assert var_5 is None\n\n\ndef test_case_1():\n    var_0 = True\n    with pytest.raises(ValueError):\n        module_0.put()\n    assert var_0 is True\n    assert isinstance(var_0, int)\n"

-- ---- printable suites

-- `1`, `-1`, `[]`, `[-1]`, `{1: (1,)}`
abbrev pub Depths : Type 0
Depths =
    map display_depth (one ∷ shown.Prim (prim.Int (negsuc 0)) ∷ shown.List [] ∷ shown.List (shown.Prim (prim.Int (negsuc 0)) ∷ []) ∷ shown.Dict ((one, shown.Tuple (one ∷ [])) ∷ []) ∷ [])
    ≡ 1 ∷ 2 ∷ 1 ∷ 3 ∷ 3 ∷ []

abbrev pub single : List Step → Option ClassId → List Assert → Suite
single steps raises asserts = suite_of (case_of steps raises asserts ∷ [])

-- The three suites above; then a test without a step; a method called as a function; a step that names itself; assertions that descend; an
-- assertion on what raises; a class that is no exception.
abbrev pub Printable : Type 0
Printable =
    map (is_printable program)
    (suite_of [] ∷ raising ∷ kinds ∷ single [] None [] ∷ single (step.Function m [] ∷ []) None [] ∷ single (step.ListOf (0 ∷ []) ∷ []) None []
    ∷ single (number 1 ∷ number 2 ∷ []) None (asserts 1 (Whole 0) (Is prim.None) ∷ asserts 0 (Whole 0) (Is prim.None) ∷ [])
    ∷ single (step.Function put [] ∷ []) (Some (Own 0)) (asserts 0 (Whole 0) (Is prim.None) ∷ []) ∷ single (step.Function put [] ∷ []) (Some (Built Object)) [] ∷ [])
    ≡ true ∷ true ∷ true ∷ false ∷ false ∷ false ∷ false ∷ false ∷ false ∷ []
