-- The lines of a test that calls a function of the module.
use Rattle.std.specs.Prelude.{ℕ, ◌+◌, List, [], ◌∷◌, ◌++◌, Option, Some, None, codes, decimal}
use Rattle.py_syntax.specs.declared.module.Func.{Func}

-- test k, which calls the function of this name
abbrev pub call_text : ℕ → List ℕ → List ℕ
call_text k name =
    codes "\n\ndef test_case_" ++ decimal k ++ codes "():\n    var_0 = module_0." ++ name ++ codes "()\n"

abbrev pub calls_text : ℕ → List Func → List ℕ
calls_text k [] = []
calls_text k (f ∷ rest) = call_text k f.name ++ calls_text (k + 1) rest

-- what an item adds, and the number of the test behind it
abbrev pub item_text : ℕ → Option Func → List ℕ
item_text k None = []
item_text k (Some f) = call_text k f.name

abbrev pub number_after : ℕ → Option Func → ℕ
number_after k None = k
number_after k (Some f) = k + 1
