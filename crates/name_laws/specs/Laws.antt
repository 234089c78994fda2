-- What holds of the names of functions and classes: in every module that reading gives, and in every one that is accepted.
use Rattle.std.specs.Prelude.{List, None, Some, slice_get, true, ℕ, ◌≡◌}
use Rattle.pyn_base.specs.declared.class.ClassId.TheVariants.{Own}
use Rattle.py_language.specs.declared.token.Token.TheVariants as t
use Rattle.py_syntax.specs.declared.module.Module.{Module}
use Rattle.py_plain.specs.Program.{ClassInfo, Function, Program, program_of}
use Rattle.py_scopes.specs.Refusals.{refusal}
use Rattle.py_spelling.specs.Spelling.{is_sound}
use Rattle.line_laws.specs.Laws.{IsReadFrom}
use Rattle.suite_file.specs.SuiteOf.{function_named, own_class_named}

-- Each name can be a token of a text: it is an identifier, and no keyword. Methods are functions too.
pub record HasIdentifiers (program : Program) : Type 0 where
  pub functions : (i : ℕ) (f : Function) → slice_get program.functions i ≡ Some f → is_sound (t.Name f.tree.name) ≡ true
  pub classes : (i : ℕ) (c : ClassInfo) → slice_get program.classes i ≡ Some c → is_sound (t.Name c.name) ≡ true

abbrev pub NamesAreIdentifiers : Type 0
NamesAreIdentifiers = (text : List ℕ) (m : Module) → IsReadFrom text m → HasIdentifiers (program_of m)

-- Each function that is no method, and each class, is found by its name; no name is that of both.
pub record NamesAreFound (program : Program) : Type 0 where
  pub functions : (i : ℕ) (f : Function) → slice_get program.functions i ≡ Some f → f.owner ≡ None → function_named program f.tree.name ≡ Some (record { 0 = i })
  pub classes : (i : ℕ) (c : ClassInfo) → slice_get program.classes i ≡ Some c → own_class_named program c.name ≡ Some (Own i)
  pub apart : (i : ℕ) (c : ClassInfo) → slice_get program.classes i ≡ Some c → function_named program c.name ≡ None

-- A module that is accepted binds no name twice at its level.
abbrev pub AcceptedNamesAreFound : Type 0
AcceptedNamesAreFound = (m : Module) → refusal m ≡ None → NamesAreFound (program_of m)
