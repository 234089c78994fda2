use Rattle.std.proofs.Common.{◌≡◌, take}
use Rattle.py_scopes.specs.Refusals.{least}
use Rattle.py_module_rules.proofs.lines.least_of.Given as goal

abbrev pub invariant-loop-line : goal.invariant-loop-line
invariant-loop-line l = l.first ≡ least (take l.line-index l.lines)
