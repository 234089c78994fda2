-- Which tests of a list a suite is made of: first those that gain a goal which none before them gains; and of these, from the last to the
-- first, one is left out where the others gain all that it gains. A test that ends with an exception whose class a file can't name is never one of them.
use Rattle.std.specs.Prelude.{ℕ, ◌==◌, Bool, not, ◌&&◌, if◌then◌else◌, List, [], ◌∷◌, ◌++◌, length, take}
use Rattle.std.specs.List.{list_any, flat_map}
use Rattle.py_syntax.specs.declared.module.Module.{Module}
use Rattle.py_plain.specs.Program.{program_of}
use Rattle.suite_model.specs.declared.test.Test.{Test}
use Rattle.suite_model.specs.declared.test.TestEnd.{TestEnd}
use Rattle.suite_model.specs.Kept.{gains_of, kept_of}
use Rattle.case_laws.specs.Cases.{can_name, class_raised, kept_steps}
use Rattle.chosen_tests.specs.declared.chosen.Chosen.{Chosen}

-- ---- lists of numbers

abbrev pub holds : List ℕ → ℕ → Bool
holds numbers n = list_any (λ c. c == n) numbers

-- whether one of the numbers isn't covered
abbrev pub has_new : List ℕ → List ℕ → Bool
has_new covered numbers = list_any (λ n. not (holds covered n)) numbers

-- ---- things that gain numbers

module _ {A : Type 0} (gain : A → List ℕ) where
  -- of those that may be taken, each that gains a number which isn't covered, nor gained by one before it
  abbrev pub gaining : (A → Bool) → List ℕ → List A → List A
  gaining may covered [] = []
  gaining may covered (t ∷ ts) = if may t && has_new covered (gain t) then t ∷ gaining may (covered ++ gain t) ts else gaining may covered ts

  -- from the last to the first, one is left out where those before it, and those that stay after it, gain all that it gains;
  -- `before` is gained by those before all of these
  abbrev pub staying : List ℕ → List A → List A
  staying before [] = []
  staying before (t ∷ ts) = let later = staying (before ++ gain t) ts in if has_new (before ++ flat_map gain later) (gain t) then t ∷ later else later

  abbrev pub chosen_by : (A → Bool) → List A → List A
  chosen_by may ts = staying [] (gaining may [] ts)

-- what is kept of a test, as a suite takes it: by the steps that each kept statement took, by how the test ends, and by what it gains
abbrev pub chosen_from : Test → List ℕ → TestEnd → List ℕ → Chosen
chosen_from test used end gained = record { test = record { steps = take (length used) test.steps }; raises = class_raised end; gains = gained }

abbrev pub gains_kept : Chosen → List ℕ
gains_kept test = test.gains

-- ---- tests of a module, with so many steps for each statement

module _ (m : Module) (limit : ℕ) where
  -- the goals that what is kept of a test takes
  abbrev pub gains : Test → List ℕ
  gains test = gains_of m (kept_of m limit test)

  abbrev pub can_be_written : Test → Bool
  can_be_written test = can_name (program_of m) (class_raised (kept_of m limit test).end)

  abbrev pub chosen : List Test → List Test
  chosen tests = chosen_by gains can_be_written tests

  -- what is kept of a test, as a suite takes it
  abbrev pub chosen_as : Test → Chosen
  chosen_as test = record { test = record { steps = kept_steps m limit test }; raises = class_raised (kept_of m limit test).end; gains = gains test }
