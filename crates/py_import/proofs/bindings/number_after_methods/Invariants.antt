use Rattle.std.proofs.Common.{◌≡◌, ◌+◌, drop, length}
use Rattle.py_plain.specs.Program.{methods_from}
use Rattle.py_import.proofs.bindings.number_after_methods.Given as goal

abbrev pub invariant-loop-member : goal.invariant-loop-member
invariant-loop-member l = l.number + length (methods_from 0 (drop l.member-index l.members)) ≡ l.fn.number + length (methods_from 0 l.members)
