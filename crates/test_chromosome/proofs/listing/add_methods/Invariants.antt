use Rattle.std.proofs.Common.{◌≡◌, ◌++◌, drop}
use Rattle.suite_model.specs.Callables.{methods_called}
use Rattle.test_chromosome.proofs.listing.add_methods.Given as goal

abbrev pub invariant-loop-member : goal.invariant-loop-member
invariant-loop-member l = l.list.items ++ methods_called l.class l.number (drop l.member-index l.members) ≡ l.fn.list.items ++ methods_called l.class l.first l.members
