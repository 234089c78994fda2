use Rattle.std.proofs.Common.{◌≡◌, ◌++◌, take}
use Rattle.std.specs.List.{flat_map}
use Rattle.py_scopes.specs.ModuleRows.{scope_in_param}
use Rattle.py_annotation_rules.proofs.class_body.add_params.Given as goal

abbrev pub invariant-loop-param : goal.invariant-loop-param
invariant-loop-param l = l.lines ≡ l.fn.lines ++ flat_map (scope_in_param l.future l.names) (take l.param-index l.params)
