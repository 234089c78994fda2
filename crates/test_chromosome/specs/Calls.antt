-- What a test may call, asked of the functions and classes themselves and not of the list of callables.
use Rattle.std.specs.Prelude.{ℕ, Bool, true, false, ◌&&◌, nat_lt, is_some, is_none, List, [], ◌∷◌, ◌++◌, length, Option, Some, None, slice_get}
use Rattle.std.specs.List.{list_any, list_all}
use Rattle.pyn_base.specs.declared.class.ClassId.{ClassId}
use Rattle.pyn_base.specs.declared.class.ClassId.TheVariants.{Built, Own}
use Rattle.py_meaning.specs.Methods.{Names, named}
use Rattle.pyn_base.specs.declared.ids.FuncId.{FuncId}
use Rattle.py_plain.specs.Classes.{resolution_order}
use Rattle.py_plain.specs.Names.{function_at}
use Rattle.py_plain.specs.Program.{Function, ClassInfo, Program}
use Rattle.suite_model.specs.declared.ty.Ty.{Ty, Ty-F, out-Ty}
use Rattle.suite_model.specs.Callables.{is_public, function_signature, method_signature, constructor_signature}
use Rattle.suite_model.specs.WellFormed.{arguments_fit, method_of_type, step_type}
use Rattle.suite_model.specs.declared.test.Step.{Step}
use Rattle.suite_model.specs.declared.test.Step.TheVariants as step

-- a function at the module's level, for callers by its name
abbrev pub is_called : Option Function → Bool
is_called None = false
is_called (Some f) = is_none f.owner && is_public f.tree.name

abbrev pub is_public_name : Option (List ℕ) → Bool
is_public_name None = false
is_public_name (Some name) = is_public name

abbrev pub is_made : Option ClassInfo → Bool
is_made None = false
is_made (Some info) = is_public info.name

-- a class by its name and its methods: whether it is one for callers, and has a method of the name that is one for callers too
abbrev pub head_has : List ℕ → Option (List ℕ × Names FuncId) → Bool
head_has name None = false
head_has name (Some head) = is_public head.0 && is_public name && is_some (named head.1 name)

abbrev pub info_has : List ℕ → Option ClassInfo → Bool
info_has name None = false
info_has name (Some info) = head_has name (Some (info.name, info.methods))

module _ (program : Program) where
  abbrev pub class_has : List ℕ → ClassId → Bool
  class_has name (Built class) = false
  class_has name (Own k) = info_has name (slice_get program.classes k)

  -- whether the class or one above it does
  abbrev pub answers_by : Ty-F Ty → List ℕ → Bool
  answers_by (Ty-F.Class class) name = list_any (class_has name) (resolution_order program class)
  answers_by _ name = false

  -- ---- what a step may be

  abbrev pub method_is_fit : List Ty → Option Ty → List ℕ → List ℕ → Bool
  method_is_fit types None name args = false
  method_is_fit types (Some receiver) name args =
      answers_by (out-Ty receiver) name && arguments_fit program types args (method_signature program (method_of_type program receiver name)).takes

  abbrev pub step_is_fit : List Ty → Step → Bool
  step_is_fit types (step.Prim p) = true
  step_is_fit types (step.ListOf parts) = list_all (λ k. nat_lt k (length types)) parts
  step_is_fit types (step.DictOf pairs) = list_all (λ pair. nat_lt pair.0 (length types) && nat_lt pair.1 (length types)) pairs
  step_is_fit types (step.Construct class args) = is_made (slice_get program.classes class) && arguments_fit program types args (constructor_signature program class).takes
  step_is_fit types (step.Method receiver name args) = method_is_fit types (slice_get types receiver) name args
  step_is_fit types (step.Function f args) = is_called (function_at program (Some f)) && arguments_fit program types args (function_signature program f).takes

  abbrev pub steps_are_fit : List Ty → List Step → Bool
  steps_are_fit types [] = true
  steps_are_fit types (step ∷ more) = step_is_fit types step && steps_are_fit (types ++ step_type program types step ∷ []) more
