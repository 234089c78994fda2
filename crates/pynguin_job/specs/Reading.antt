-- The module of a text: read by the grammar, judged by acceptance, and of the first form.
use Rattle.std.specs.Prelude.{ℕ, List, length, nat_le, if◌then◌else◌, Option, Some, None, Result, Ok, Err}
use Rattle.pyn_base.specs.declared.construct.Construct.{Construct}
use Rattle.pyn_base.specs.declared.construct.Construct.TheVariants.{TooLong}
use Rattle.py_syntax.specs.declared.module.Module.{Module}
use Rattle.py_syntax.specs.declared.refusal.Refusal.{Refusal}
use Rattle.py_syntax.specs.declared.refusal.Refusal.TheVariants.{Refused}
use Rattle.py_language.specs.FirstForm.{first_form}
use Rattle.py_parser.specs.Parsed.{parsed}
use Rattle.py_scopes.specs.Refusals.{refusal}

-- the most bytes of a module
abbrev pub module_limit : ℕ
module_limit = 262144

-- what is read where there is no fault
abbrev pub unless_fault : Option (ℕ × Construct) → Result Module Refusal → Result Module Refusal
unless_fault None read = read
unless_fault (Some fault) read = Err (Refused fault.0 fault.1)

-- what is read where acceptance refuses nothing of a text's tree
abbrev pub accepted : Result Module Refusal → Result Module Refusal → Result Module Refusal
accepted (Err refused) read = Err refused
accepted (Ok tree) read = unless_fault (refusal tree) read

-- the module of a text, or why it is refused
abbrev pub module_in : List ℕ → Result Module Refusal
module_in text = if nat_le (length text) module_limit then accepted (parsed text) (first_form text) else Err (Refused 1 TooLong)
