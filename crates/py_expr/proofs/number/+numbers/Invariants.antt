use Rattle.std.proofs.Common.{◌≡◌, drop, map}
use Rattle.py_language.specs.TreesNumbers.{numbered, in_order, entries, compared, arguments}
use Rattle.py_expr.specs.Numbers.{pair_numbered, comparison_numbered, argument_numbered}
use Rattle.py_expr.proofs.NumberSteps.{prepend, prepend_args}
use Rattle.py_expr.proofs.number.+numbers.Given as goal

abbrev pub invariant-all_numbered-loop-shape : goal.invariant-all_numbered-loop-shape
invariant-all_numbered-loop-shape l =
    in_order (map numbered l.shapes) l.number ≡ prepend l.all (in_order (map numbered (drop l.shape-index l.shapes)) l.next)

abbrev pub invariant-entries_numbered-loop-pair : goal.invariant-entries_numbered-loop-pair
invariant-entries_numbered-loop-pair l =
    entries (map pair_numbered l.pairs) l.number ≡ prepend l.all (entries (map pair_numbered (drop l.pair-index l.pairs)) l.next)

abbrev pub invariant-compared_numbered-loop-pair : goal.invariant-compared_numbered-loop-pair
invariant-compared_numbered-loop-pair l =
    compared (map comparison_numbered l.pairs) l.number ≡ prepend l.all (compared (map comparison_numbered (drop l.pair-index l.pairs)) l.next)

abbrev pub invariant-args_numbered-loop-argument : goal.invariant-args_numbered-loop-argument
invariant-args_numbered-loop-argument l =
    arguments (map argument_numbered l.given) l.number ≡ prepend_args (l.plain, l.named) (arguments (map argument_numbered (drop l.argument-index l.given)) l.next)
