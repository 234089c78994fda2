-- Worked examples: a module of one function, and one of two.
use Rattle.std.specs.Prelude.{ℕ, List, [], ◌∷◌, codes, pos}
use Rattle.py_syntax.specs.declared.expr.ExprKind.TheVariants.{IntLit, StrLit}
use Rattle.py_syntax.specs.declared.module.Module.{Module}
use Rattle.py_language.specs.declared.first.First.{First}
use Rattle.py_language.specs.FirstForm.{module_of}
use Rattle.pyn_model.specs.declared.test.Suite.{Suite}
use Rattle.pyn_model.specs.Calls.{calls_suite}

-- `def f():` with `return 1`
abbrev pub one : Module
one = module_of (record { name = codes "f"; literal = IntLit (pos 1) } ∷ [])

-- the same, and then `def g():` with `return "x"`
abbrev pub two : Module
two = module_of (record { name = codes "f"; literal = IntLit (pos 1) } ∷ record { name = codes "g"; literal = StrLit (codes "x") } ∷ [])

abbrev pub one_suite : Suite
one_suite = calls_suite (codes "one") one

abbrev pub two_suite : Suite
two_suite = calls_suite (codes "two") two

abbrev pub one_text : List ℕ
one_text = codes "import pytest\nimport one as module_0\n\n\ndef test_case_0():\n    var_0 = module_0.f()\n"
