use Rattle.std.proofs.Common.{refl}
use Rattle.std.specs.Fmt.{digits}
use Rattle.py_printer.specs.Style.{put}
use Rattle.suite_text.proofs.ExampleRules.{texts}
use Rattle.suite_text.proofs.examples.suites_by_example.Goals as goal

pub returns-clause-empty : goal.returns-clause-empty
unfolding put digits
returns-clause-empty c = refl

pub returns-clause-raising : goal.returns-clause-raising
unfolding put digits
returns-clause-raising c = simp texts

pub returns-clause-kinds : goal.returns-clause-kinds
unfolding put digits
returns-clause-kinds c = simp texts
