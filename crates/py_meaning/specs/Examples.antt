-- Short names for the worked examples.
use Rattle.std.specs.Prelude.{ℕ, zero, suc, pos, [], ◌∷◌}
use Rattle.pyn_base.specs.declared.ids.ObjId.{ObjId}
use Rattle.py_meaning.specs.declared.value.Value.{Value}
use Rattle.py_meaning.specs.declared.value.Value.TheVariants as value
use Rattle.py_meaning.specs.Tuples.{tuple}

abbrev pub id : ℕ → ObjId
id n = record { 0 = n }

abbrev pub ref : ℕ → Value
ref n = value.Ref (id n)

abbrev pub int : ℕ → Value
int n = value.Int (pos n)

-- a tuple of so many levels
abbrev pub nested : ℕ → Value
nested zero = int 0
nested (suc n) = tuple (nested n ∷ [])
