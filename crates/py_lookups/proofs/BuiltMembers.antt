-- Built-in classes have no members here.
use Rattle.std.proofs.Common.{◌≡◌, ℕ, List, [], ◌∷◌, map, None, refl}
use Rattle.pyn_base.specs.declared.class.BuiltClass.{BuiltClass}
use Rattle.pyn_base.specs.declared.class.ClassId.TheVariants.{Built}
use Rattle.py_plain.specs.declared.state.Space.{Space}
use Rattle.py_plain.specs.BuiltNames.{built_bases}
use Rattle.py_plain.specs.Classes.{order_within, member_along}
use Rattle.py_plain.specs.Program.{Program}

none_along : (program : Program) (space : Space) (classes : List BuiltClass) (name : List ℕ) → member_along program space (map Built classes) name ≡ None
none_along program space [] name = refl
none_along program space (class ∷ classes) name = none_along program space classes name

pub built_none : (program : Program) (space : Space) (left : ℕ) (class : BuiltClass) (name : List ℕ) → member_along program space (order_within program left (Built class)) name ≡ None
built_none program space left class name = none_along program space (built_bases class) name

pub ruleset built_members = (built_none)
