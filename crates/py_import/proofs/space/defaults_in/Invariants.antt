use Rattle.std.proofs.Common.{◌≡◌, ◌++◌, drop}
use Rattle.std.specs.List.{filter_map}
use Rattle.py_plain.specs.Import.{default_of}
use Rattle.py_import.proofs.space.defaults_in.Given as goal

abbrev pub invariant-loop-param : goal.invariant-loop-param
invariant-loop-param l = l.defaults ++ filter_map (λ param. default_of l.names param.name param.default) (drop l.param-index l.params)
    ≡ filter_map (λ param. default_of l.names param.name param.default) l.params
