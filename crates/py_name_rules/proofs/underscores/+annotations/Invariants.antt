use Rattle.std.proofs.Common.{◌≡◌, drop}
use Rattle.std.specs.List.{list_any}
use Rattle.py_name_rules.specs.Underscores.{any_spelled}
use Rattle.py_name_rules.proofs.underscores.+annotations.Given as goal

abbrev pub invariant-any_part_spelled-loop-part : goal.invariant-any_part_spelled-loop-part
invariant-any_part_spelled-loop-part l = list_any (any_spelled l.spelling) (drop l.part-index l.parts) ≡ list_any (any_spelled l.spelling) l.parts
