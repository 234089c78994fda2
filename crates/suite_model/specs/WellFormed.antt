-- Well-formed tests: each step names earlier variables alone, calls what may be called, and gives each parameter an argument of its type.
use Rattle.std.specs.Prelude.{ℕ, Bool, true, false, ◌&&◌, ◌||◌, nat_lt, List, [], ◌∷◌, ◌++◌, length, Option, Some, None, slice_get, bytes_eq}
use Rattle.std.specs.List.{list_any, list_all}
use Rattle.pyn_base.specs.declared.class.ClassId.TheVariants.{Own}
use Rattle.pyn_base.specs.declared.ids.FuncId.{FuncId}
use Rattle.py_syntax.specs.declared.module.Module.{Module}
use Rattle.py_plain.specs.Classes.{method_named}
use Rattle.py_plain.specs.Names.{function_at}
use Rattle.py_plain.specs.Program.{Function, Program, program_of}
use Rattle.suite_model.specs.declared.callable.Callable.{Callable}
use Rattle.suite_model.specs.declared.callable.Callable.TheVariants as callable
use Rattle.suite_model.specs.declared.test.Primitive.{Primitive}
use Rattle.suite_model.specs.declared.test.Primitive.TheVariants as prim
use Rattle.suite_model.specs.declared.test.Step.{Step}
use Rattle.suite_model.specs.declared.test.Step.TheVariants as step
use Rattle.suite_model.specs.declared.test.Test.{Test}
use Rattle.suite_model.specs.declared.ty.Ty.{Ty, Ty-F, out-Ty}
use Rattle.suite_model.specs.declared.ty.Ty.TheVariants as ty
use Rattle.suite_model.specs.Callables.{callables_of, is_callable, function_signature, method_signature, constructor_signature}
use Rattle.suite_model.specs.Types.{fits}

abbrev pub prim_type : Primitive → Ty
prim_type prim.None = ty.NoneType
prim_type (prim.Bool b) = ty.Bool
prim_type (prim.Int n) = ty.Int
prim_type (prim.Str text) = ty.Str

abbrev pub or_unknown : Option Ty → Ty
or_unknown None = ty.Any
or_unknown (Some t) = t

abbrev pub has_name : List ℕ → Option Function → Bool
has_name name None = false
has_name name (Some f) = bytes_eq name f.tree.name

module _ (program : Program) where
  -- The method that a call finds is that of its name in the receiver's class, else in the nearest class above it. Only a class has methods.
  abbrev pub method_by : Ty-F Ty → List ℕ → Option FuncId
  method_by (Ty-F.Class class) name = method_named program class name
  method_by _ name = None

  abbrev pub method_of_type : Ty → List ℕ → Option FuncId
  method_of_type receiver name = method_by (out-Ty receiver) name

  -- the type of what a step makes, where the variables before it have these types
  abbrev pub step_type : List Ty → Step → Ty
  step_type types (step.Prim p) = prim_type p
  step_type types (step.ListOf parts) = ty.List ty.Any
  step_type types (step.DictOf pairs) = ty.Dict ty.Any ty.Any
  step_type types (step.Construct class args) = (constructor_signature program class).gives
  step_type types (step.Method receiver name args) = (method_signature program (method_of_type (or_unknown (slice_get types receiver)) name)).gives
  step_type types (step.Function f args) = (function_signature program f).gives

  -- the types of all variables, where the first ones have these
  abbrev pub types_from : List Ty → List Step → List Ty
  types_from types [] = types
  types_from types (step ∷ more) = types_from (types ++ step_type types step ∷ []) more

  abbrev pub types_of : Test → List Ty
  types_of test = types_from [] test.steps

  -- ---- what a step may be

  abbrev pub serves : Option Ty → Ty → Bool
  serves None wanted = false
  serves (Some given) wanted = fits program given wanted || fits program given ty.NoneType

  -- an argument for each parameter, and none more
  abbrev pub arguments_fit : List Ty → List ℕ → List Ty → Bool
  arguments_fit types [] [] = true
  arguments_fit types (k ∷ args) (wanted ∷ takes) = serves (slice_get types k) wanted && arguments_fit types args takes
  arguments_fit types _ _ = false

  module _ (callables : List Callable) where
    abbrev pub may_call : Callable → Bool
    may_call wanted = list_any (is_callable wanted) callables

    -- whether this is a method of a name that a receiver of the type has
    abbrev pub answers : Ty → List ℕ → Callable → Bool
    answers receiver name (callable.Method class f) = has_name name (function_at program (Some f)) && fits program receiver (ty.Class (Own class))
    answers receiver name _ = false

    abbrev pub method_fits : List Ty → Option Ty → List ℕ → List ℕ → Bool
    method_fits types None name args = false
    method_fits types (Some receiver) name args =
        list_any (answers receiver name) callables && arguments_fit types args (method_signature program (method_of_type receiver name)).takes

    abbrev pub step_fits : List Ty → Step → Bool
    step_fits types (step.Prim p) = true
    step_fits types (step.ListOf parts) = list_all (λ k. nat_lt k (length types)) parts
    step_fits types (step.DictOf pairs) = list_all (λ pair. nat_lt pair.0 (length types) && nat_lt pair.1 (length types)) pairs
    step_fits types (step.Construct class args) = may_call (callable.Constructor class) && arguments_fit types args (constructor_signature program class).takes
    step_fits types (step.Method receiver name args) = method_fits types (slice_get types receiver) name args
    step_fits types (step.Function f args) = may_call (callable.Function f) && arguments_fit types args (function_signature program f).takes

    abbrev pub steps_fit : List Ty → List Step → Bool
    steps_fit types [] = true
    steps_fit types (step ∷ more) = step_fits types step && steps_fit (types ++ step_type types step ∷ []) more

abbrev pub is_well_formed : Module → Test → Bool
is_well_formed module' test = steps_fit (program_of module') (callables_of module') [] test.steps
