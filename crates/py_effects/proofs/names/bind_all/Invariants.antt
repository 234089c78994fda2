use Rattle.std.proofs.Common.{◌≡◌, drop}
use Rattle.py_plain.specs.Assignments.{binds_all}
use Rattle.py_effects.proofs.names.bind_all.Given as goal

abbrev pub invariant-loop-name : goal.invariant-loop-name
invariant-loop-name g l = record {
  meant : binds_all (drop l.name-index l.names) l.left l.s ≡ binds_all l.names l.xs l.fn.s;
  spends : l.s.left ≡ l.fn.s.left;
}
