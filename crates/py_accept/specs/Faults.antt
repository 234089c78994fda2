-- The earliest fault of rules, each with the least line that breaks it.
use Rattle.std.specs.Prelude.{ℕ, List, [], ◌∷◌, Option, None}
use Rattle.pyn_base.specs.declared.construct.Construct.{Construct}
use Rattle.py_scopes.specs.Refusals.{earlier, fault_of}

abbrev pub first_of : List (Construct × Option ℕ) → Option (ℕ × Construct)
first_of [] = None
first_of (rule ∷ rules) = earlier (fault_of rule.0 rule.1) (first_of rules)
