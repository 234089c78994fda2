-- What a call of `str` answers.
use Rattle.std.specs.Prelude.{◌≡◌, ℕ}
use Rattle.py_meaning.specs.declared.op.Op.{Op}
use Rattle.py_meaning.specs.declared.value.Value.{Value}
use Rattle.py_meaning.specs.Builtins.{reading}
use Rattle.py_meaning.specs.Steps.{Costing, changes, UnlessMemory}
use Rattle.py_meaning.specs.Worlds.{World}

-- The text that reading the objects gives, from the steps before it, and those after.
abbrev pub AsksText : (World → Costing Value) → World → ℕ → Op Value → World → ℕ → Type 0
AsksText read before had answer after left = UnlessMemory answer (changes (reading read) before had ≡ (answer, after, left))
