use Rattle.std.proofs.Common.{◌≡◌, drop}
use Rattle.py_scopes.specs.Refusals.{earlier}
use Rattle.py_accept.specs.Faults.{first_of}
use Rattle.py_accept.proofs.earliest.earliest_of.Given as goal

abbrev pub invariant-loop-rule : goal.invariant-loop-rule
invariant-loop-rule l = earlier l.found (first_of (drop l.rule-index l.rules)) ≡ first_of l.rules
