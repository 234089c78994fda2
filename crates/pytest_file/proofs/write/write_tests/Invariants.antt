use Rattle.std.proofs.Common.{◌≡◌, ◌≤◌, ◌++◌, drop}
use Rattle.py_syntax.specs.Functions.{functions_in}
use Rattle.pytest_file.specs.CallText.{calls_text}
use Rattle.pytest_file.proofs.write.write_tests.Given as goal

abbrev pub invariant-loop-item : goal.invariant-loop-item
invariant-loop-item l =
    (l.text ++ calls_text l.number (functions_in (drop l.item-index l.items)) ≡ l.fn.text ++ calls_text 0 (functions_in l.items))
    × (l.number ≤ l.item-index)
