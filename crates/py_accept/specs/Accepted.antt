-- What acceptance gives: the refusal of the earliest fault, or the module with its functions and classes.
use Rattle.std.specs.Prelude.{ℕ, if◌then◌else◌, List, [], ◌∷◌, ◌++◌, map, Option, None, Some, Result, Ok, Err}
use Rattle.pyn_base.specs.declared.construct.Construct.{Construct}
use Rattle.py_syntax.specs.declared.module.Module.{Module}
use Rattle.py_syntax.specs.declared.refusal.Refusal.{Refusal}
use Rattle.py_syntax.specs.declared.refusal.Refusal.TheVariants.{Refused}
use Rattle.py_meaning.specs.Methods.{is_among}
use Rattle.py_plain.specs.Program as program
use Rattle.py_plain.specs.Program.{Function, program_of}
use Rattle.py_scopes.specs.Refusals.{refusal}
use Rattle.py_accept.specs.declared.acceptance.Accepted.{Accepted}
use Rattle.py_accept.specs.declared.infos.ClassInfo.{ClassInfo}
use Rattle.py_accept.specs.declared.infos.FuncInfo.{FuncInfo}

-- those of the names that are not among these, nor among the ones before them
abbrev pub first_of_each : List (List ℕ) → List (List ℕ) → List (List ℕ)
first_of_each before [] = []
first_of_each before (name ∷ names) =
    let others = first_of_each (before ++ name ∷ []) names in
    if is_among before name then others else name ∷ others

abbrev pub func_info : Function → FuncInfo
func_info f = record { name = f.tree.name; class = f.owner; node = f.tree.node; locals = first_of_each [] f.locals }

abbrev pub class_info : program.ClassInfo → ClassInfo
class_info c = record { name = c.name; base = c.base; methods = map (λ row. row.1) c.methods; constants = c.constants }

-- its functions and classes, in the order of their lines
abbrev pub funcs_of : Module → List FuncInfo
funcs_of m = map func_info (program_of m).functions

abbrev pub classes_of : Module → List ClassInfo
classes_of m = map class_info (program_of m).classes

abbrev pub with_infos : Module → Accepted
with_infos m = record { tree = m; funcs = funcs_of m; classes = classes_of m }

abbrev pub unless_fault : {A : Type 0} → Option (ℕ × Construct) → A → Result A Refusal
unless_fault None given = Ok given
unless_fault (Some fault) given = Err (Refused fault.0 fault.1)

abbrev pub accepted : Module → Result Accepted Refusal
accepted m = unless_fault (refusal m) (with_infos m)
