use Rattle.std.proofs.Common.{◌≡◌, ◌++◌, drop, map}
use Rattle.py_tables.specs.Rows.{constants_in, assigned_now}
use Rattle.py_tables.proofs.tables.constants_of.Given as goal

abbrev pub invariant-loop-member : goal.invariant-loop-member
invariant-loop-member l = map assigned_now l.constants.items ++ constants_in (drop l.member-index l.members) ≡ constants_in l.members
