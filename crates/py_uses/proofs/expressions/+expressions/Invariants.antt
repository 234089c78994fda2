use Rattle.std.proofs.Common.{◌≡◌, ◌++◌, take}
use Rattle.std.specs.List.{flat_map}
use Rattle.py_scopes.specs.Uses.{uses_of}
use Rattle.py_uses.specs.Blocks.{pair_uses, operand_uses, named_uses}
use Rattle.py_uses.proofs.expressions.+expressions.Given as goal

abbrev pub invariant-add_all-loop-x : goal.invariant-add_all-loop-x
invariant-add_all-loop-x l = l.uses ≡ l.fn.uses ++ flat_map uses_of (take l.x-index l.xs)

abbrev pub invariant-add_pairs-loop-pair : goal.invariant-add_pairs-loop-pair
invariant-add_pairs-loop-pair l = l.uses ≡ l.fn.uses ++ flat_map pair_uses (take l.pair-index l.pairs)

abbrev pub invariant-add_operands-loop-pair : goal.invariant-add_operands-loop-pair
invariant-add_operands-loop-pair l = l.uses ≡ l.fn.uses ++ flat_map operand_uses (take l.pair-index l.pairs)

abbrev pub invariant-add_named-loop-row : goal.invariant-add_named-loop-row
invariant-add_named-loop-row l = l.uses ≡ l.fn.uses ++ flat_map (named_uses l.line) (take l.row-index l.named)
