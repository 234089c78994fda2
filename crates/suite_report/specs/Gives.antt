-- What a function that reads gives: exactly what the definition has, unless memory runs out.
use Rattle.std.specs.Prelude.{◌≡◌, Option, Some, None, Result, Ok, Err}
use Rattle.suite_report.specs.declared.fault.Fault.{Fault}
use Rattle.suite_report.specs.declared.fault.Fault.TheVariants as fault

-- a line, or a part of one
abbrev pub Fails : {A : Type 0} → Fault → Option A → Type 0
Fails fault.Form read = read ≡ None
Fails fault.Memory read = Unit {0}

abbrev pub Gives : {A B : Type 0} → (A → B) → Result A Fault → Option B → Type 0
Gives view (Ok x) read = read ≡ Some (view x)
Gives view (Err e) read = Fails e read
