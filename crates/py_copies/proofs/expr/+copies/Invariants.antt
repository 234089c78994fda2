use Rattle.std.proofs.Common.{◌≡◌, take}
use Rattle.py_copies.proofs.expr.+copies.Given as goal

abbrev pub invariant-copy_all-loop-x : goal.invariant-copy_all-loop-x
invariant-copy_all-loop-x l = l.all ≡ take l.x-index l.xs

abbrev pub invariant-copy_pairs-loop-pair : goal.invariant-copy_pairs-loop-pair
invariant-copy_pairs-loop-pair l = l.all ≡ take l.pair-index l.pairs

abbrev pub invariant-copy_compared-loop-pair : goal.invariant-copy_compared-loop-pair
invariant-copy_compared-loop-pair l = l.all ≡ take l.pair-index l.pairs

abbrev pub invariant-copy_named-loop-pair : goal.invariant-copy_named-loop-pair
invariant-copy_named-loop-pair l = l.all ≡ take l.pair-index l.pairs
