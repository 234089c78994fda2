-- The earliest line of those that are found one after another.
use Rattle.std.specs.Prelude.{ℕ, Bool, List, Option, Some, None}
use Rattle.py_scopes.specs.ModuleRows.{line_if}
use Rattle.py_scopes.specs.Pieces.{Place}
use Rattle.py_scopes.specs.Refusals.{least_with}
use Rattle.py_scopes.specs.Uses.{Use, Used}

-- the earlier of two lines, if there are any
abbrev pub earlier_of : Option ℕ → Option ℕ → Option ℕ
earlier_of None other = other
earlier_of (Some line) other = least_with line other

-- the line of a use, if it breaks a rule
abbrev pub fault_at : (Place → Use → Bool) → Place → Used → List ℕ
fault_at is_faulty place u = line_if (is_faulty place u.use') u.line
