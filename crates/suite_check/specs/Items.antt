-- What an item of a module adds to the report of its calls.
use Rattle.std.specs.Prelude.{ℕ, ◌+◌, List, [], ◌∷◌, Option, Some, None}
use Rattle.py_syntax.specs.declared.module.Func.{Func}
use Rattle.pyn_model.specs.declared.report.GoalLine.{GoalLine}
use Rattle.pyn_model.specs.declared.report.TestLine.{TestLine}
use Rattle.pyn_model.specs.declared.report.TestLine.TheVariants.{Passes}
use Rattle.pyn_model.specs.CallsReport.{function_lines}

abbrev pub item_tests : Option Func → List TestLine
item_tests None = []
item_tests (Some f) = Passes ∷ []

abbrev pub item_lines : ℕ → Option Func → List GoalLine
item_lines k None = []
item_lines k (Some f) = function_lines k f

-- the number of the test behind the item
abbrev pub number_after : ℕ → Option Func → ℕ
number_after k None = k
number_after k (Some f) = k + 1
