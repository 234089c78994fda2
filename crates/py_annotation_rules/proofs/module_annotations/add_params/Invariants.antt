use Rattle.std.proofs.Common.{◌≡◌, ◌++◌, take}
use Rattle.std.specs.List.{flat_map}
use Rattle.py_annotation_rules.specs.Found.{param_faulty}
use Rattle.py_annotation_rules.proofs.module_annotations.add_params.Given as goal

abbrev pub invariant-loop-param : goal.invariant-loop-param
invariant-loop-param l = l.lines ≡ l.fn.lines ++ flat_map (param_faulty l.scope) (take l.param-index l.params)
