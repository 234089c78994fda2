use Rattle.std.proofs.Common.{◌≡◌, ◌++◌, take}
use Rattle.py_annotation_rules.specs.Found.{found_uses}
use Rattle.py_annotation_rules.proofs.module_annotations.add_uses.Given as goal

abbrev pub invariant-loop-used : goal.invariant-loop-used
invariant-loop-used l = l.lines ≡ l.fn.lines ++ found_uses l.scope l.evaluated (take l.used-index l.uses)
