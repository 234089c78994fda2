-- Steps that are fit by what may be called, and by the functions and classes themselves.
use Rattle.std.proofs.Common.{◌≡◌, ℕ, List, [], ◌∷◌, ◌++◌, Option, Some, None, refl, ap, ap₂, ◌∙◌}
use Rattle.std.specs.Prelude.{◌&&◌, slice_get}
use Rattle.py_syntax.specs.declared.module.Module.{Module}
use Rattle.py_plain.specs.Program.{Program, program_of}
use Rattle.suite_model.specs.declared.test.Step.{Step}
use Rattle.suite_model.specs.declared.test.Step.TheVariants as step
use Rattle.suite_model.specs.declared.test.Test.{Test}
use Rattle.suite_model.specs.declared.ty.Ty.{Ty}
use Rattle.suite_model.specs.Callables.{callables_of, method_signature, constructor_signature, function_signature}
use Rattle.suite_model.specs.WellFormed.{arguments_fit, method_of_type, method_fits, step_type, step_fits, steps_fit, is_well_formed}
use Rattle.test_chromosome.specs.Calls.{method_is_fit, step_is_fit, steps_are_fit}
use Rattle.test_chromosome.proofs.Answered.{method_answered}
use Rattle.test_chromosome.proofs.Called.{class_called, function_called}

module _ (m : Module) where
  method_same : (types : List Ty) (receiver : Option Ty) (name : List ℕ) (args : List ℕ)
      → method_is_fit (program_of m) types receiver name args ≡ method_fits (program_of m) (callables_of m) types receiver name args
  method_same types None name args = refl
  method_same types (Some receiver) name args =
      ap (λ b. b && arguments_fit (program_of m) types args (method_signature (program_of m) (method_of_type (program_of m) receiver name)).takes) (method_answered m receiver name)

  step_same : (types : List Ty) (s : Step) → step_is_fit (program_of m) types s ≡ step_fits (program_of m) (callables_of m) types s
  step_same types (step.Prim p) = refl
  step_same types (step.ListOf parts) = refl
  step_same types (step.DictOf pairs) = refl
  step_same types (step.Construct class args) = ap (λ b. b && arguments_fit (program_of m) types args (constructor_signature (program_of m) class).takes) (class_called m class)
  step_same types (step.Method receiver name args) = method_same types (slice_get types receiver) name args
  step_same types (step.Function f args) = ap (λ b. b && arguments_fit (program_of m) types args (function_signature (program_of m) f).takes) (function_called m f)

  pub steps_same : (types : List Ty) (steps : List Step) → steps_are_fit (program_of m) types steps ≡ steps_fit (program_of m) (callables_of m) types steps
  steps_same types [] = refl
  steps_same types (s ∷ steps) = ap₂ (λ a b. a && b) (step_same types s) (steps_same (types ++ step_type (program_of m) types s ∷ []) steps)

pub well_formed : (m : Module) (program : Program) (test : Test) → program ≡ program_of m → steps_are_fit program [] test.steps ≡ is_well_formed m test
well_formed m program test is = ap (λ p. steps_are_fit p [] test.steps) is ∙ steps_same m [] test.steps
