-- The parameters of a method besides its instance.
use Rattle.std.proofs.Common.{◌≡◌, List, [], ◌∷◌, map, drop, refl}
use Rattle.py_syntax.specs.declared.module.Param.{Param}
use Rattle.py_plain.specs.Program.{Program}
use Rattle.suite_model.specs.Callables.{param_type}

pub others : (program : Program) (params : List Param) → drop 1 (map (param_type program) params) ≡ map (param_type program) (drop 1 params)
others program [] = refl
others program (param ∷ params) = refl
