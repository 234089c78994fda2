use Rattle.std.proofs.Common.{◌≡◌, ◌++◌, drop}
use Rattle.py_plain.specs.Program.{methods_in}
use Rattle.py_tables.proofs.tables.add_methods.Given as goal

abbrev pub invariant-loop-member : goal.invariant-loop-member
invariant-loop-member l = l.functions.items ++ methods_in l.class (drop l.member-index l.members) ≡ l.fn.functions.items ++ methods_in l.class l.members
