use Rattle.std.proofs.Common.{◌≡◌, drop, map}
use Rattle.py_scopes.specs.Constants.{deepest_part}
use Rattle.py_module_rules.specs.Pieces.{constant_of}
use Rattle.py_module_rules.proofs.ConstantLevels.{raised}
use Rattle.py_module_rules.proofs.constants.+constants.Given as goal

abbrev pub invariant-deepest_part-loop-part : goal.invariant-deepest_part-loop-part
invariant-deepest_part-loop-part l = raised l.deepest (deepest_part (map (constant_of l.names) (drop l.part-index l.parts))) ≡ deepest_part (map (constant_of l.names) l.parts)
