-- Worked examples: texts of suite files, items of `with`, and texts that are refused.
use Rattle.std.specs.Prelude.{◌≡◌, ℕ, List, [], ◌∷◌, ◌++◌, map, length, Some, None, Result, Ok, Err, codes}
use Rattle.pyn_base.specs.declared.construct.Construct.{Construct}
use Rattle.pyn_base.specs.declared.construct.Construct.TheVariants as construct
use Rattle.py_syntax.specs.declared.expr.Args.{roll-Args}
use Rattle.py_syntax.specs.declared.expr.Expr.{Expr}
use Rattle.py_syntax.specs.declared.expr.ExprKind.TheVariants as x
use Rattle.py_syntax.specs.declared.refusal.Refusal.{Refusal}
use Rattle.py_syntax.specs.declared.refusal.Refusal.TheVariants.{Refused}
use Rattle.py_grammar.specs.Blocks.{◌>>=◌}
use Rattle.suite_model.specs.declared.suite.Suite.{Suite}
use Rattle.suite_file.specs.declared.file.FileTest.{FileTest}
use Rattle.suite_file.specs.declared.file.SuiteFile.{SuiteFile}
use Rattle.suite_file.specs.Examples.{program, call, e, read as read_name}
use Rattle.suite_grammar.specs.Files.{file_in, suite_in}
use Rattle.suite_grammar.specs.Forms.{raised_in}

-- with `class Full(Exception):`, `class Box:` and `def put(n):`
abbrev pub read : List ℕ → Result Suite Refusal
read text = suite_in program text

abbrev pub imports : List ℕ
imports = codes "import pytest\nimport box as module_0\n"

-- no test
abbrev pub Empty : Type 0
Empty = read imports ≡ Ok record { «module» = codes "box"; cases = [] }

-- ---- layouts

-- what is in a file: the module under test, each test with its line and the number of its statements, and the lines of all else
abbrev pub outline : SuiteFile → List ℕ × List (List ℕ × ℕ × ℕ) × List ℕ
outline file = (file.module, map (λ (test : FileTest). (test.name, test.line, length test.body)) file.tests, file.strays)

abbrev pub outlined : List ℕ → Result (List ℕ × List (List ℕ × ℕ × ℕ) × List ℕ) Refusal
outlined text = file_in text >>= λ file. Ok (outline file)

-- comments, and several statements on the line of a header; a block, and what is no test
abbrev pub Layouts : Type 0
Layouts =
    map outlined
    (codes "import pytest # first\n\nimport box as module_0\ndef test_case_0(): var_0 = (7); var_1 = None\n"
    ∷ codes "import pytest\nimport box as module_0\nx = 1; y = 2\ndef a():\n  if x:\n   pass\n  del x[0]\nclass A:\n pass\n" ∷ [])
    ≡ Ok (codes "box", (codes "test_case_0", 4, 2) ∷ [], []) ∷ Ok (codes "box", (codes "a", 4, 2) ∷ [], 3 ∷ 3 ∷ 8 ∷ []) ∷ []

-- ---- the item of a `with`, by its tree

abbrev pub class_a : Expr
class_a = read_name (codes "A")

-- `pytest.raises(A)`; another name; another object; two classes; none; a class by its name
abbrev pub Items : Type 0
Items =
    map raised_in
    (call (read_name (codes "pytest")) (codes "raises") (class_a ∷ []) ∷ call (read_name (codes "pytest")) (codes "warns") (class_a ∷ []) ∷ call (read_name (codes "box")) (codes "raises") (class_a ∷ [])
    ∷ call (read_name (codes "pytest")) (codes "raises") (class_a ∷ class_a ∷ []) ∷ call (read_name (codes "pytest")) (codes "raises") []
    ∷ e (x.Method (read_name (codes "pytest")) (codes "raises") (roll-Args record { plain = []; named = (codes "expected_exception", class_a) ∷ [] })) ∷ [])
    ≡ Some class_a ∷ None ∷ None ∷ None ∷ None ∷ None ∷ []

-- ---- refused

abbrev pub refused : ℕ → Construct → Result Suite Refusal
refused line why = Err (Refused line why)

-- nothing; the imports in the other order; one of them twice; something before them; another import line; one that no module has
abbrev pub Imports : Type 0
Imports =
    map read
    ([] ∷ codes "import box as module_0\nimport pytest\n" ∷ (imports ++ codes "import pytest\n") ∷ (codes "1\n" ++ imports) ∷ (imports ++ codes "from typing import List\n") ∷ (codes "import os\n" ++ imports) ∷ [])
    ≡ refused 1 construct.Header ∷ refused 1 construct.Header ∷ refused 1 construct.Header ∷ refused 1 construct.Header ∷ refused 1 construct.Header ∷ refused 1 construct.Import ∷ []

-- beside the tests: a class, a statement, and what no module may have; in a test: an import line
abbrev pub Strays : Type 0
Strays =
    map (λ lines. read (imports ++ lines))
    (codes "class A:\n pass\n" ∷ codes "x = 1\n" ∷ codes "with pytest.raises(A): 1\n" ∷ codes "global x\n" ∷ codes "def a():\n import pytest\n" ∷ [])
    ≡ refused 3 construct.Form ∷ refused 3 construct.Form ∷ refused 3 construct.With ∷ refused 3 construct.Global ∷ refused 4 construct.Import ∷ []
