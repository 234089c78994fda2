use Rattle.std.proofs.Common.{◌≡◌, ◌++◌, take}
use Rattle.std.specs.List.{flat_map}
use Rattle.py_names.specs.Bound.{names_bound, clause_names}
use Rattle.py_name_rules.specs.Blocks.{arms_bound}
use Rattle.py_name_rules.proofs.bound.+bound.Given as goal

abbrev pub invariant-add_block-loop-stmt : goal.invariant-add_block-loop-stmt
invariant-add_block-loop-stmt l = l.names ≡ l.fn.names ++ flat_map names_bound (take l.stmt-index l.body)

abbrev pub invariant-add_branches-loop-arm : goal.invariant-add_branches-loop-arm
invariant-add_branches-loop-arm l = l.names ≡ l.fn.names ++ arms_bound (take l.arm-index l.arms)

abbrev pub invariant-add_clauses-loop-clause : goal.invariant-add_clauses-loop-clause
invariant-add_clauses-loop-clause l = l.names ≡ l.fn.names ++ flat_map clause_names (take l.clause-index l.clauses)

abbrev pub invariant-add_maybe-loop-stmt : goal.invariant-add_maybe-loop-stmt
invariant-add_maybe-loop-stmt l = l.names ≡ l.fn.names ++ flat_map names_bound (take l.stmt-index l.all)
