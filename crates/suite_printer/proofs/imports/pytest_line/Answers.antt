use Rattle.std.proofs.Common.{◌∷◌}
use Rattle.std.specs.Prelude.{codes}
use Rattle.py_language.specs.declared.token.Token.TheVariants as t
use Rattle.py_language.specs.declared.token.Keyword.TheVariants as k
use Rattle.py_layout.specs.Headers.{lone}
use Rattle.suite_printer.proofs.Pages.{line_ok}
use Rattle.suite_printer.proofs.imports.pytest_line.Goals as goal

pub returns : goal.returns
returns c = line_ok c.line.result c.args.page.now c.line.new.self 0 c.new_pen-pen.result c.pytest.new.pen (t.Keyword k.Import ∷ lone (codes "pytest")) c.new_pen-pen.ensures c.in_ok-pytest.ensures c.line.ensures
