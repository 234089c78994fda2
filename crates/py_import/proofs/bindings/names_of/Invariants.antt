use Rattle.std.proofs.Common.{◌≡◌, [], drop}
use Rattle.py_plain.specs.Import.{names_from}
use Rattle.py_plain.specs.Program.{bindings_from}
use Rattle.py_import.proofs.bindings.names_of.Given as goal

abbrev pub invariant-loop-item : goal.invariant-loop-item
invariant-loop-item l = names_from l.names (bindings_from l.functions l.classes (drop l.item-index l.items)) ≡ names_from [] (bindings_from 0 0 l.items)
