-- The suite that a file is, or why it is refused (pytest's manual, "Assertions about expected exceptions").
use Rattle.std.specs.Prelude.{ℕ, ◌+◌, ◌-◌, ◌==◌, nat_lt, Bool, true, false, not, ◌&&◌, ◌||◌, if◌then◌else◌, List, [], ◌∷◌, ◌++◌, map, Option, Some, None, is_some, Result, Ok, Err, bytes_eq, codes, decimal}
use Rattle.std.specs.List.{list_all, filter_map}
use Rattle.std.specs.Option.{option_map}
use Rattle.pyn_base.specs.declared.class.ClassId.{ClassId}
use Rattle.pyn_base.specs.declared.class.ClassId.TheVariants.{Built, Own}
use Rattle.pyn_base.specs.declared.construct.Construct.{Construct}
use Rattle.pyn_base.specs.declared.construct.Construct.TheVariants as construct
use Rattle.pyn_base.specs.declared.ids.FuncId.{FuncId}
use Rattle.py_syntax.specs.declared.refusal.Refusal.{Refusal}
use Rattle.py_syntax.specs.declared.refusal.Refusal.TheVariants.{Refused}
use Rattle.py_meaning.specs.Methods.{Names, named as value_named}
use Rattle.py_plain.specs.BuiltNames.{built_classes}
use Rattle.py_plain.specs.Classes.{is_exception}
use Rattle.py_plain.specs.Program.{Function, Program, numbered}
use Rattle.suite_model.specs.declared.suite.Assert.{Assert}
use Rattle.suite_model.specs.declared.suite.Subject.{Subject}
use Rattle.suite_model.specs.declared.suite.Subject.TheVariants.{Whole, Attr}
use Rattle.suite_model.specs.declared.suite.Suite.{Suite}
use Rattle.suite_model.specs.declared.suite.TestCase.{TestCase}
use Rattle.suite_model.specs.declared.suite.Wants.{Wants}
use Rattle.suite_model.specs.declared.suite.Wants.TheVariants as wants
use Rattle.suite_model.specs.declared.test.Step.{Step}
use Rattle.suite_model.specs.declared.test.Step.TheVariants as step
use Rattle.suite_file.specs.declared.entry.At.{At}
use Rattle.suite_file.specs.declared.entry.Entry.{Entry}
use Rattle.suite_file.specs.declared.entry.Entry.TheVariants as entry
use Rattle.suite_file.specs.declared.file.FileStmt.{FileStmt}
use Rattle.suite_file.specs.declared.file.FileStmt.TheVariants.{Plain, Raises}
use Rattle.suite_file.specs.declared.file.FileTest.{FileTest}
use Rattle.suite_file.specs.declared.file.SuiteFile.{SuiteFile}
use Rattle.suite_file.specs.declared.spelled.Asked.{Asked}
use Rattle.suite_file.specs.declared.spelled.Asked.TheVariants as asked
use Rattle.suite_file.specs.declared.spelled.Named.{Named}
use Rattle.suite_file.specs.declared.spelled.Named.TheVariants as named
use Rattle.suite_file.specs.declared.spelled.Right.{Right}
use Rattle.suite_file.specs.declared.spelled.Right.TheVariants as right
use Rattle.suite_file.specs.declared.spelled.Spelled.{Spelled}
use Rattle.suite_file.specs.declared.spelled.Spelled.TheVariants as spelled
use Rattle.suite_file.specs.Spelled.{◌>>=◌, is_empty, class_in, alone_in, spelled_in}

-- ---- faults: the one with the least line is told, and on one line a test's name before a form, and that before an unknown name

abbrev pub Fault : Type 0
Fault = ℕ × Construct

abbrev pub rank : Construct → ℕ
rank construct.TestName = 0
rank construct.Form = 1
rank _ = 2

abbrev pub is_earlier : Fault → Fault → Bool
is_earlier a b = nat_lt a.0 b.0 || (a.0 == b.0 && nat_lt (rank a.1) (rank b.1))

-- the earlier of two, where they are there
abbrev pub earlier : Option Fault → Option Fault → Option Fault
earlier None b = b
earlier (Some a) None = Some a
earlier (Some a) (Some b) = if is_earlier b a then Some b else Some a

-- of these and one that was found before
abbrev pub earliest : Option Fault → List Fault → Option Fault
earliest found [] = found
earliest found (fault ∷ faults) = earliest (earlier found (Some fault)) faults

abbrev pub form_at : ℕ → Fault
form_at line = (line, construct.Form)

abbrev pub form_if : Bool → ℕ → Option Fault
form_if true line = Some (form_at line)
form_if false line = None

abbrev pub fault_at : {A : Type 0} → ℕ → Result A Construct → Option Fault
fault_at line (Ok a) = None
fault_at line (Err fault) = Some (line, fault)

-- ---- what is looked up, where so many variables are bound

abbrev pub are_bound : ℕ → List ℕ → Bool
are_bound bound variables = list_all (λ k. nat_lt k bound) variables

abbrev pub are_pairs_bound : ℕ → List (ℕ × ℕ) → Bool
are_pairs_bound bound pairs = list_all (λ pair. nat_lt pair.0 bound && nat_lt pair.1 bound) pairs

abbrev pub is_subject_bound : ℕ → Subject → Bool
is_subject_bound bound (Whole k) = nat_lt k bound
is_subject_bound bound (Attr k name) = nat_lt k bound

abbrev pub function_row : ℕ → Function → Names FuncId
function_row number f = if is_some f.owner then [] else (f.tree.name, record { 0 = number }) ∷ []

-- the functions that are no methods, from a number on
abbrev pub own_functions : ℕ → List Function → Names FuncId
own_functions number [] = []
own_functions number (f ∷ fs) = function_row number f ++ own_functions (number + 1) fs

abbrev pub constructed : List ℕ → Option ClassId → Option Step
constructed args (Some (Own class)) = Some (step.Construct class args)
constructed args _ = None

-- a function, or else a class
abbrev pub called_by : Option FuncId → Option ClassId → List ℕ → Option Step
called_by (Some f) class args = Some (step.Function f args)
called_by None class args = constructed args class

module _ (program : Program) where
  abbrev pub function_named : List ℕ → Option FuncId
  function_named name = value_named (own_functions 0 program.functions) name

  abbrev pub own_class_named : List ℕ → Option ClassId
  own_class_named name = value_named (numbered 0 program.classes) name

  abbrev pub class_named : Named → Option ClassId
  class_named (named.Bare name) = option_map Built (value_named built_classes name)
  class_named (named.OfModule name) = own_class_named name

  abbrev pub exception_named : Named → Option ClassId
  exception_named class = class_named class >>= λ found. if is_exception program found then Some found else None

  abbrev pub step_in : ℕ → Right → Option Step
  step_in bound (right.Prim p) = Some (step.Prim p)
  step_in bound (right.ListOf parts) = if are_bound bound parts then Some (step.ListOf parts) else None
  step_in bound (right.DictOf pairs) = if are_pairs_bound bound pairs then Some (step.DictOf pairs) else None
  step_in bound (right.OfModule name args) = if are_bound bound args then called_by (function_named name) (own_class_named name) args else None
  step_in bound (right.Method receiver name args) = if nat_lt receiver bound && are_bound bound args then Some (step.Method receiver name args) else None

  abbrev pub wanted : Asked → Option Wants
  wanted (asked.Is p) = Some (wants.Is p)
  wanted (asked.Equals shown) = Some (wants.Equals shown)
  wanted (asked.Kind class) = option_map wants.Kind (class_named class)

-- ---- statements, where a test has so many steps before them, so many variables are bound, and its block has come or not

abbrev pub start : At
start = record { steps = 0; bound = 0; closed = false }

-- What is assigned counts as a step, and so does a block, which binds nothing.
abbrev pub after_spelled : At → Option Spelled → At
after_spelled at (Some (spelled.Assigns k made)) = record at { steps = at.steps + 1; bound = at.bound + 1 }
after_spelled at _ = at

abbrev pub after : At → FileStmt → At
after at (Plain stmt) = after_spelled at (spelled_in stmt)
after at (Raises block class stmt more) = record at { steps = at.steps + 1; closed = true }

abbrev pub after_all : At → List FileStmt → At
after_all at [] = at
after_all at (stmt ∷ more) = after_all (after at stmt) more

-- what is found, or which construct is refused: a form before a name
abbrev pub or_unknown : {A : Type 0} → Option A → Result A Construct
or_unknown None = Err construct.UnknownName
or_unknown (Some a) = Ok a

abbrev pub looked_up : {A B : Type 0} → (A → Option B) → Option A → Result B Construct
looked_up find None = Err construct.Form
looked_up find (Some a) = or_unknown (find a)

-- ---- what a statement gives

abbrev pub step_of : Entry → Option Step
step_of (entry.Does line made) = Some made
step_of (entry.Raises block class line made) = Some made
step_of _ = None

abbrev pub line_of : Entry → Option ℕ
line_of (entry.Does line made) = Some line
line_of (entry.Raises block class line made) = Some line
line_of _ = None

abbrev pub raises_of : Entry → Option (ℕ × ClassId)
raises_of (entry.Raises block class line made) = Some (block, class)
raises_of _ = None

abbrev pub assert_of : Entry → Option Assert
assert_of (entry.Asserts a) = Some a
assert_of _ = None

abbrev pub fault_of : Entry → Option Fault
fault_of (entry.Faulty line fault) = Some (line, fault)
fault_of _ = None

abbrev pub first_of : {A : Type 0} → List A → Option A
first_of [] = None
first_of (a ∷ more) = Some a

abbrev pub does : ℕ → Option Step → Entry
does line None = entry.Faulty line construct.UnknownName
does line (Some made) = entry.Does line made

-- of the step before it
abbrev pub asserts : At → ℕ → Subject → Option Wants → Entry
asserts at line subject None = entry.Faulty line construct.UnknownName
asserts at line subject (Some what) =
    if is_subject_bound at.bound subject then entry.Asserts record { after = at.steps - 1; line = line; subject = subject; wants = what }
    else entry.Faulty line construct.UnknownName

-- a block: its line and class, and what its first statement does, with that one's line; or the earliest of its faults
abbrev pub raises_by : Option Fault → ℕ → ℕ → Result ClassId Construct → Result Step Construct → Entry
raises_by None block line (Ok class) (Ok made) = entry.Raises block class line made
raises_by None block line _ _ = entry.Faulty block construct.Form
raises_by (Some fault) block line _ _ = entry.Faulty fault.0 fault.1

-- No second block comes, and no second statement in one.
abbrev pub raises : At → ℕ → ℕ → Result ClassId Construct → Result Step Construct → Option ℕ → Entry
raises at block line class made more =
    raises_by (earlier (earlier (earlier (form_if at.closed block) (fault_at block class)) (fault_at line made)) (option_map form_at more)) block line class made

-- ---- headers

abbrev pub is_test_name : ℕ → List ℕ → Bool
is_test_name number name = bytes_eq name (codes "test_case_" ++ decimal number)

-- the name is that of its number, nothing else is in its header, and it has a step
abbrev pub header_fault : ℕ → FileTest → Option Fault
header_fault number test =
    if not (is_test_name number test.name) then Some (test.line, construct.TestName)
    else form_if (not test.is_bare || (after_all start test.body).steps == 0) test.line

module _ (program : Program) where
  -- A step has the next number, and none comes after a block.
  abbrev pub plain_entry : At → ℕ → Option Spelled → Entry
  plain_entry at line None = entry.Faulty line construct.Form
  plain_entry at line (Some (spelled.Assigns k made)) =
      if not at.closed && k == at.steps then does line (step_in program at.bound made) else entry.Faulty line construct.Form
  plain_entry at line (Some (spelled.Asserts subject what)) = asserts at line subject (wanted program what)

  abbrev pub entry_of : At → FileStmt → Entry
  entry_of at (Plain stmt) = plain_entry at stmt.line (spelled_in stmt)
  entry_of at (Raises block class stmt more) =
      raises at block stmt.line (looked_up (exception_named program) (class_in class)) (looked_up (step_in program at.bound) (alone_in stmt)) more

  abbrev pub entries_from : At → List FileStmt → List Entry
  entries_from at [] = []
  entries_from at (stmt ∷ more) = entry_of at stmt ∷ entries_from (after at stmt) more

  -- ---- tests

  abbrev pub entries_of : FileTest → List Entry
  entries_of test = entries_from start test.body

  abbrev pub case_by : ℕ → List Entry → TestCase
  case_by line entries = record {
    line = line;
    test = record { steps = filter_map step_of entries };
    lines = filter_map line_of entries;
    raises = first_of (filter_map raises_of entries);
    asserts = filter_map assert_of entries;
  }

  abbrev pub case_of : FileTest → TestCase
  case_of test = case_by test.line (entries_of test)

  -- ---- files

  abbrev pub fault_in_test : Option Fault → ℕ → FileTest → Option Fault
  fault_in_test found number test = earlier (earliest found (filter_map fault_of (entries_of test))) (header_fault number test)

  abbrev pub fault_in_tests : Option Fault → ℕ → List FileTest → Option Fault
  fault_in_tests found number [] = found
  fault_in_tests found number (test ∷ tests) = fault_in_tests (fault_in_test found number test) (number + 1) tests

  abbrev pub fault_in : SuiteFile → Option Fault
  fault_in file = fault_in_tests (earliest None (map form_at file.strays)) 0 file.tests

  abbrev pub unless_fault : Option Fault → SuiteFile → Result Suite Refusal
  unless_fault None file = Ok record { «module» = file.module; cases = map case_of file.tests }
  unless_fault (Some fault) file = Err (Refused fault.0 fault.1)

  -- A file without its two imports is refused at its first line, whatever else it has.
  abbrev pub suite_of : SuiteFile → Result Suite Refusal
  suite_of file = if is_empty file.module then Err (Refused 1 construct.Header) else unless_fault (fault_in file) file
