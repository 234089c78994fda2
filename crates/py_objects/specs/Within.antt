-- Costs up to a limit, lists that may not be there, and tuples that aren't too deep.
use Rattle.std.specs.Prelude.{ℕ, Bool, not, ◌||◌, nat_le, if◌then◌else◌, Option, Some, None, List, []}
use Rattle.py_meaning.specs.declared.value.Value.{Value}
use Rattle.py_meaning.specs.Walk.{shallow}

-- a cost, unless it is above the limit
abbrev pub within : ℕ → ℕ → Option ℕ
within cost limit = if nat_le cost limit then Some cost else None

abbrev pub or_empty : {A : Type 0} → Option (List A) → List A
or_empty None = []
or_empty (Some xs) = xs

-- items, unless a tuple that was made is too deep
abbrev pub unless_deep : Bool → List Value → Option (List Value)
unless_deep made items = if not made || shallow items then Some items else None
