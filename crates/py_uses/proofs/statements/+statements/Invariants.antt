use Rattle.std.proofs.Common.{◌≡◌, ◌++◌, take}
use Rattle.std.specs.List.{flat_map}
use Rattle.py_uses.specs.Blocks.{body_uses, arm_uses, clauses_uses}
use Rattle.py_uses.specs.Seen.{around_seen}
use Rattle.py_uses.proofs.statements.+statements.Given as goal

abbrev pub invariant-add_block-loop-stmt : goal.invariant-add_block-loop-stmt
invariant-add_block-loop-stmt l = l.uses ≡ l.fn.uses ++ body_uses (around_seen l.around) (take l.stmt-index l.body)

abbrev pub invariant-add_maybe_block-loop-stmt : goal.invariant-add_maybe_block-loop-stmt
invariant-add_maybe_block-loop-stmt l = l.uses ≡ l.fn.uses ++ body_uses (around_seen l.around) (take l.stmt-index l.all)

abbrev pub invariant-add_branches-loop-arm : goal.invariant-add_branches-loop-arm
invariant-add_branches-loop-arm l = l.uses ≡ l.fn.uses ++ flat_map (arm_uses (around_seen l.around)) (take l.arm-index l.arms)

abbrev pub invariant-add_clauses-loop-clause : goal.invariant-add_clauses-loop-clause
invariant-add_clauses-loop-clause l = l.uses ≡ l.fn.uses ++ clauses_uses (around_seen l.around) (take l.clause-index l.clauses)
