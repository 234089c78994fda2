use Rattle.std.proofs.Common.{◌≡◌, ◌++◌, ◌+◌, ◌≤◌, drop, map}
use Rattle.py_plain.specs.Program.{methods_from}
use Rattle.py_tables.proofs.tables.methods_of.Given as goal

abbrev pub invariant-loop-member : goal.invariant-loop-member
invariant-loop-member l = record {
  methods : map (λ row. (row.0.now, row.1)) l.methods.items ++ methods_from l.number (drop l.member-index l.members) ≡ methods_from l.first l.members;
  small : l.number ≤ l.first + l.member-index;
}
