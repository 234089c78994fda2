use Rattle.std.proofs.Common.{◌≡◌, drop}
use Rattle.std.specs.List.{list_any}
use Rattle.py_plain.specs.Exceptions.{handled_class, handles_class}
use Rattle.py_lookups.proofs.members.is_handled_by_any.Given as goal

abbrev pub invariant-loop-name : goal.invariant-loop-name
invariant-loop-name l = list_any (λ name. handles_class l.tables l.class (handled_class l.space name)) (drop l.name-index l.names)
    ≡ list_any (λ name. handles_class l.tables l.class (handled_class l.space name)) l.names
