-- One test for each thing that a module lets a test call: values are supplied by steps of their own, and the call ends the test.
use Rattle.std.specs.Prelude.{ℕ, zero, suc, ◌-◌, pos, false, Bool, nat_le, if◌then◌else◌, List, [], ◌∷◌, ◌++◌, map, filter, length, Some, slice_get}
use Rattle.pyn_base.specs.declared.class.ClassId.TheVariants.{Own}
use Rattle.py_syntax.specs.declared.module.Module.{Module}
use Rattle.py_plain.specs.Classes.{method_named}
use Rattle.py_plain.specs.Names.{function_at}
use Rattle.py_plain.specs.Program.{Program, program_of}
use Rattle.suite_model.specs.declared.callable.Callable.{Callable}
use Rattle.suite_model.specs.declared.callable.Callable.TheVariants as callable
use Rattle.suite_model.specs.declared.test.Primitive.TheVariants as prim
use Rattle.suite_model.specs.declared.test.Step.{Step}
use Rattle.suite_model.specs.declared.test.Step.TheVariants as step
use Rattle.suite_model.specs.declared.test.Test.{Test}
use Rattle.suite_model.specs.declared.ty.Ty.{Ty, Ty-F, out-Ty}
use Rattle.suite_model.specs.declared.ty.Ty.TheVariants as ty
use Rattle.suite_model.specs.Callables.{callables_of, function_signature, method_signature, constructor_signature}
use Rattle.suite_model.specs.Statements.{function_name}
use Rattle.test_chromosome.specs.Calls.{is_made}

-- At this depth no instance is made any more.
abbrev pub deepest : ℕ
deepest = 3

-- A test of more steps is left out.
abbrev pub most_steps : ℕ
most_steps = 20

-- the steps so far, and the variable of each value that they supply
pub record Supplied : Type 0 where
  pub steps : List Step
  pub variables : List ℕ

abbrev pub last_variable : List Step → ℕ
last_variable steps = length steps - 1

abbrev pub then_call : (List ℕ → Step) → Supplied → List Step
then_call call supplied = supplied.steps ++ call supplied.variables ∷ []

-- a value for each type, in order, each by steps of its own
abbrev pub supply_each : (Ty → List Step → List Step) → List Ty → List Step → Supplied
supply_each supply [] steps = record { steps = steps; variables = [] }
supply_each supply (t ∷ ts) steps =
    let first = supply t steps in
    let rest = supply_each supply ts first in
    record { steps = rest.steps; variables = last_variable first ∷ rest.variables }

-- the value that one step makes; None for an instance
abbrev pub plain_value : Ty-F Ty → Step
plain_value Ty-F.Int = step.Prim (prim.Int (pos 0))
plain_value Ty-F.Any = step.Prim (prim.Int (pos 0))
plain_value Ty-F.Str = step.Prim (prim.Str [])
plain_value Ty-F.Bool = step.Prim (prim.Bool false)
plain_value Ty-F.NoneType = step.Prim prim.None
plain_value (Ty-F.OrNone t) = step.Prim prim.None
plain_value (Ty-F.List element) = step.ListOf []
plain_value (Ty-F.Dict key value) = step.DictOf []
plain_value (Ty-F.Class class) = step.Prim prim.None

module _ (program : Program) where
  -- an instance by its class's constructor, whose parameters are supplied so
  abbrev pub construct : (Ty → List Step → List Step) → ℕ → List Step → List Step
  construct supply class steps = then_call (step.Construct class) (supply_each supply (constructor_signature program class).takes steps)

  -- where an instance's own parameters are supplied so
  abbrev pub supply_by : (Ty → List Step → List Step) → Ty-F Ty → List Step → List Step
  supply_by supply (Ty-F.Class (Own class)) steps =
      if is_made (slice_get program.classes class) then construct supply class steps else steps ++ step.Prim prim.None ∷ []
  supply_by supply t steps = steps ++ plain_value t ∷ []

  -- a value of the type, where so many levels are left: the parameters of an instance are one level deeper
  abbrev pub supply : ℕ → Ty → List Step → List Step
  supply zero t steps = steps ++ plain_value (out-Ty t) ∷ []
  supply (suc levels) t steps = supply_by (supply levels) (out-Ty t) steps

  -- at depth 0
  abbrev pub supply_all : List Ty → List Step → Supplied
  supply_all = supply_each (supply deepest)

  -- The method that is called is the one that a receiver of the class finds by the name.
  abbrev pub method_steps : ℕ → List ℕ → List Step → List Step
  method_steps class name receiver =
      then_call (step.Method (last_variable receiver) name) (supply_all (method_signature program (method_named program (Own class) name)).takes receiver)

  -- the receiver, then each parameter, then the call
  abbrev pub call_steps : Callable → List Step
  call_steps (callable.Constructor class) = construct (supply deepest) class []
  call_steps (callable.Method class f) = method_steps class (function_name (function_at program (Some f))) (supply deepest (ty.Class (Own class)) [])
  call_steps (callable.Function f) = then_call (step.Function f) (supply_all (function_signature program f).takes [])

  abbrev pub test_calling : Callable → Test
  test_calling callable = record { steps = call_steps callable }

abbrev pub is_short : Test → Bool
is_short test = nat_le (length test.steps) most_steps

-- in the order of the callables
abbrev pub call_tests : Module → List Test
call_tests module' = filter is_short (map (test_calling (program_of module')) (callables_of module'))
