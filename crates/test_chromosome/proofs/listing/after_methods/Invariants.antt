use Rattle.std.proofs.Common.{◌≡◌, ◌+◌, drop}
use Rattle.test_chromosome.specs.Counts.{method_count}
use Rattle.test_chromosome.proofs.listing.after_methods.Given as goal

abbrev pub invariant-loop-member : goal.invariant-loop-member
invariant-loop-member l = l.number + method_count (drop l.member-index l.members) ≡ l.functions + method_count l.members
