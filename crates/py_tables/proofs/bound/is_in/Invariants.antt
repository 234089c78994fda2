use Rattle.std.proofs.Common.{◌≡◌, drop, map}
use Rattle.py_meaning.specs.Methods.{is_among}
use Rattle.py_tables.proofs.bound.is_in.Given as goal

abbrev pub invariant-loop-other : goal.invariant-loop-other
invariant-loop-other l = is_among (map (λ other. other.now) (drop l.other-index l.names)) l.name ≡ is_among (map (λ other. other.now) l.names) l.name
