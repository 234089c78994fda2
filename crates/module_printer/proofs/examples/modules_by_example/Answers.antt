use Rattle.std.specs.Fmt.{digits}
use Rattle.py_printer.specs.Style.{put}
use Rattle.module_printer.proofs.ExampleRows.{name_alone, returned_rows, assigned_rows, unpacked_rows, passed_rows, if_rows}
use Rattle.module_printer.proofs.examples.modules_by_example.Goals as goal

pub returns-clause-function : goal.returns-clause-function
unfolding put digits
returns-clause-function c = simp (returned_rows)

pub returns-clause-class : goal.returns-clause-class
unfolding put digits
returns-clause-class c = simp (assigned_rows, returned_rows)

pub returns-clause-branches : goal.returns-clause-branches
unfolding put
returns-clause-branches c = simp (if_rows, name_alone, unpacked_rows, passed_rows)
