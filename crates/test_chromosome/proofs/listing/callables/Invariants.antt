use Rattle.std.proofs.Common.{◌≡◌, ◌++◌, drop}
use Rattle.suite_model.specs.Callables.{callables_from, callables_of}
use Rattle.test_chromosome.proofs.listing.callables.Given as goal

abbrev pub invariant-loop-item : goal.invariant-loop-item
invariant-loop-item l = l.list.items ++ callables_from l.functions l.classes (drop l.item-index l.tree.items) ≡ callables_of l.tree
