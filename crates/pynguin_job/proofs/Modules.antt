-- A module that is read has the first form.
use Rattle.std.proofs.Common.{◌≡◌, Bool, true, false, cond, List, ℕ, length, nat_le, Option, Some, None, Result, Ok, Err}
use Rattle.pyn_base.specs.declared.construct.Construct.{Construct}
use Rattle.pyn_base.specs.declared.construct.Construct.TheVariants.{TooLong}
use Rattle.py_syntax.specs.declared.module.Module.{Module}
use Rattle.py_syntax.specs.declared.refusal.Refusal.{Refusal}
use Rattle.py_syntax.specs.declared.refusal.Refusal.TheVariants.{Refused}
use Rattle.py_language.specs.FirstForm.{first_form}
use Rattle.py_parser.specs.Parsed.{parsed}
use Rattle.py_scopes.specs.Refusals.{refusal}
use Rattle.pyn_model.specs.FirstModules.{IsFirst}
use Rattle.pyn_model.proofs.Accepted.{first_form-IsFirst}
use Rattle.pynguin_job.specs.Reading.{module_in, module_limit, accepted, unless_fault}

without_fault : (fault : Option (ℕ × Construct)) (read : Result Module Refusal) (m : Module) → unless_fault fault read ≡ Ok m → read ≡ Ok m
without_fault None read m e = e
without_fault (Some fault) read m e = absurd (cc)

read_accepted : (tree read : Result Module Refusal) (m : Module) → accepted tree read ≡ Ok m → read ≡ Ok m
read_accepted (Err refused) read m e = absurd (cc)
read_accepted (Ok tree) read m e = without_fault (refusal tree) read m e

within : (t : Bool) (text : List ℕ) (m : Module) → ◌≡◌ {A = Result Module Refusal} (cond t (accepted (parsed text) (first_form text)) (Err (Refused 1 TooLong))) (Ok m) → IsFirst m
within true text m e = first_form-IsFirst text m (read_accepted (parsed text) (first_form text) m e)
within false text m e = absurd (cc)

pub module_in-IsFirst : (text : List ℕ) (m : Module) → module_in text ≡ Ok m → IsFirst m
module_in-IsFirst text m e = within (nat_le (length text) module_limit) text m e
