-- Which suites are printed so that they can be read back.
use Rattle.std.specs.Prelude.{ℕ, ◌+◌, ◌-◌, suc, negsuc, min, max, Bool, true, false, ◌&&◌, nat_lt, nat_le, List, [], ◌∷◌, map, length, Option, Some, None, is_none, slice_get}
use Rattle.std.specs.List.{list_all}
use Rattle.pyn_base.specs.declared.class.ClassId.{ClassId}
use Rattle.pyn_base.specs.declared.class.ClassId.TheVariants.{Built, Own}
use Rattle.py_language.specs.declared.token.Token.TheVariants as t
use Rattle.py_plain.specs.Classes.{is_exception}
use Rattle.py_plain.specs.Names.{function_at}
use Rattle.py_plain.specs.Program.{Function, ClassInfo, Program}
use Rattle.py_spelling.specs.Spelling.{is_sound}
use Rattle.suite_model.specs.declared.suite.Assert.{Assert}
use Rattle.suite_model.specs.declared.suite.Shown.{Shown, Shown-F, fold-Shown}
use Rattle.suite_model.specs.declared.suite.Subject.{Subject}
use Rattle.suite_model.specs.declared.suite.Subject.TheVariants.{Whole, Attr}
use Rattle.suite_model.specs.declared.suite.Suite.{Suite}
use Rattle.suite_model.specs.declared.suite.TestCase.{TestCase}
use Rattle.suite_model.specs.declared.suite.Wants.{Wants}
use Rattle.suite_model.specs.declared.suite.Wants.TheVariants.{Is, Equals, Kind}
use Rattle.suite_model.specs.declared.test.Primitive.{Primitive}
use Rattle.suite_model.specs.declared.test.Primitive.TheVariants as prim
use Rattle.suite_model.specs.declared.test.Step.{Step}
use Rattle.suite_model.specs.declared.test.Step.TheVariants as step

-- a name that is no keyword (Language Reference 2.3)
abbrev pub is_identifier : List ℕ → Bool
is_identifier name = is_sound (t.Name name)

-- ---- how deep the tree of a display is (Language Reference 6.2): a negative integer is a sign and a literal

abbrev pub largest : List ℕ → ℕ
largest [] = 0
largest (n ∷ ns) = max n (largest ns)

abbrev pub literal_depth : Primitive → ℕ
literal_depth (prim.Int (negsuc n)) = 2
literal_depth _ = 1

abbrev pub depth_by : Shown-F ℕ → ℕ
depth_by (Shown-F.Prim p) = literal_depth p
depth_by (Shown-F.List parts) = suc (largest parts)
depth_by (Shown-F.Tuple parts) = suc (largest parts)
depth_by (Shown-F.Dict pairs) = suc (largest (map (λ pair. max pair.0 pair.1) pairs))

unfoldable pub display_depth : Shown → ℕ
display_depth = fold-Shown ℕ depth_by

-- The comparison round a display is one deeper, and no expression that is read is deeper than 50.
abbrev pub deepest_display : ℕ
deepest_display = 49

-- ---- what is named is there

abbrev pub are_bound : ℕ → List ℕ → Bool
are_bound bound variables = list_all (λ k. nat_lt k bound) variables

-- a class of the module
abbrev pub is_own_class : Option ClassInfo → Bool
is_own_class None = false
is_own_class (Some info) = is_identifier info.name

-- a function of the module, and no method
abbrev pub is_function : Option Function → Bool
is_function None = false
is_function (Some f) = is_none f.owner && is_identifier f.tree.name

-- `is` asks for None or a truth value
abbrev pub is_singleton : Primitive → Bool
is_singleton prim.None = true
is_singleton (prim.Bool b) = true
is_singleton _ = false

abbrev pub is_variable : Subject → Bool
is_variable (Whole k) = true
is_variable (Attr k name) = false

abbrev pub is_bound_subject : ℕ → Subject → Bool
is_bound_subject bound (Whole k) = nat_lt k bound
is_bound_subject bound (Attr k name) = nat_lt k bound && is_identifier name

-- Each assertion is after the one before it, or after the same step.
abbrev pub ascend : ℕ → List Assert → Bool
ascend least [] = true
ascend least (a ∷ more) = nat_le least a.after && ascend a.after more

-- What has to raise binds no variable.
abbrev pub binding_steps : Option (ℕ × ClassId) → List Step → ℕ
binding_steps None steps = length steps
binding_steps (Some raises) steps = length steps - 1

module _ (program : Program) where
  abbrev pub is_there : ClassId → Bool
  is_there (Built class) = true
  is_there (Own class) = is_own_class (slice_get program.classes class)

  -- where so many variables are bound
  abbrev pub is_printable_step : ℕ → Step → Bool
  is_printable_step bound (step.Prim p) = true
  is_printable_step bound (step.ListOf parts) = are_bound bound parts
  is_printable_step bound (step.DictOf pairs) = list_all (λ pair. nat_lt pair.0 bound && nat_lt pair.1 bound) pairs
  is_printable_step bound (step.Construct class args) = is_there (Own class) && are_bound bound args
  is_printable_step bound (step.Method receiver name args) = nat_lt receiver bound && (is_identifier name && are_bound bound args)
  is_printable_step bound (step.Function f args) = is_function (function_at program (Some f)) && are_bound bound args

  abbrev pub are_printable_steps : ℕ → List Step → Bool
  are_printable_steps bound [] = true
  are_printable_steps bound (step ∷ more) = is_printable_step bound step && are_printable_steps (bound + 1) more

  abbrev pub is_wanted : Subject → Wants → Bool
  is_wanted subject (Is p) = is_singleton p
  is_wanted subject (Equals shown) = nat_le (display_depth shown) deepest_display
  is_wanted subject (Kind class) = is_variable subject && is_there class

  -- where so many steps are there, of which so many bind a variable
  abbrev pub is_printable_assertion : ℕ → ℕ → Assert → Bool
  is_printable_assertion steps binding a = nat_lt a.after steps && (is_bound_subject (min (a.after + 1) binding) a.subject && is_wanted a.subject a.wants)

  abbrev pub is_raisable : Option (ℕ × ClassId) → Bool
  is_raisable None = true
  is_raisable (Some raises) = is_there raises.1 && is_exception program raises.1

  abbrev pub is_printable_case : TestCase → Bool
  is_printable_case case =
      nat_lt 0 (length case.test.steps) && (are_printable_steps 0 case.test.steps && (is_raisable case.raises
      && (ascend 0 case.asserts && list_all (is_printable_assertion (length case.test.steps) (binding_steps case.raises case.test.steps)) case.asserts)))

  abbrev pub is_printable : Suite → Bool
  is_printable suite = is_identifier suite.module && list_all is_printable_case suite.cases
