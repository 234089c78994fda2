-- Reading a suite file: what its lines are, in order, and its tree (Language Reference, chapters 7 and 8).
use Rattle.std.specs.Prelude.{ℕ, Bool, true, false, ◌&&◌, ◌==◌, if◌then◌else◌, List, [], ◌∷◌, ◌++◌, map, Option, Some, None, is_none, Result, Ok, Err}
use Rattle.std.specs.List.{list_any, filter_map}
use Rattle.std.specs.Option.{option_map}
use Rattle.py_language.specs.declared.token.Logical.{Logical}
use Rattle.py_language.specs.Tokens.{tokens_of}
use Rattle.py_syntax.specs.declared.expr.Expr.{Expr}
use Rattle.py_syntax.specs.declared.module.Item.{Item}
use Rattle.py_syntax.specs.declared.module.Item.TheVariants as item
use Rattle.py_syntax.specs.declared.module.Param.{Param}
use Rattle.py_syntax.specs.declared.refusal.Refusal.{Refusal}
use Rattle.py_syntax.specs.declared.stmt.Annotation.{Annotation}
use Rattle.py_syntax.specs.declared.stmt.Stmt.{Stmt}
use Rattle.py_grammar.specs.declared.form.Form.{Form}
use Rattle.py_grammar.specs.declared.form.Form.TheVariants.{Compound}
use Rattle.py_grammar.specs.declared.form.Header.TheVariants.{Def}
use Rattle.py_grammar.specs.declared.place.Place.{Place}
use Rattle.py_grammar.specs.declared.place.Place.TheVariants.{Module, Block}
use Rattle.py_grammar.specs.Blocks.{◌>>=◌, Group, Behind, behind, groups, column_of, unless_deeper}
use Rattle.py_grammar.specs.Compounds.{unless_continued, block, statement, statements, deepest}
use Rattle.py_grammar.specs.Modules.{fault_in, module_item}
use Rattle.py_grammar.specs.Refusals.{refused, misplaced}
use Rattle.py_plain.specs.Program.{Program}
use Rattle.suite_model.specs.declared.suite.Suite.{Suite}
use Rattle.suite_file.specs.declared.file.FileStmt.{FileStmt}
use Rattle.suite_file.specs.declared.file.FileStmt.TheVariants.{Plain, Raises}
use Rattle.suite_file.specs.declared.file.FileTest.{FileTest}
use Rattle.suite_file.specs.declared.file.SuiteFile.{SuiteFile}
use Rattle.suite_file.specs.Spelled.{is_empty}
use Rattle.suite_file.specs.SuiteOf.{suite_of}
use Rattle.suite_grammar.specs.declared.form.TestForm.{TestForm}
use Rattle.suite_grammar.specs.declared.form.TestForm.TheVariants as test
use Rattle.suite_grammar.specs.declared.form.TopForm.{TopForm}
use Rattle.suite_grammar.specs.declared.form.TopForm.TheVariants as top
use Rattle.suite_grammar.specs.declared.form.TopItem.{TopItem}
use Rattle.suite_grammar.specs.declared.form.TopItem.TheVariants as on_top
use Rattle.suite_grammar.specs.Forms.{top_form, test_form}

-- ---- the statements of a block in order, up to the first that is refused, by a form of its lines

module _ {A F : Type 0} (place : Place) (room : ℕ) (form : Logical → Option F) (statement : Behind → Group → F → Result (List A) Refusal) where
  abbrev pub formed : Behind → Group → Option F → Result (List A) Refusal
  formed end g None = refused place room g.0.0
  formed end g (Some found) = statement end g found

  abbrev pub in_column : ℕ → Behind → Group → Result (List A) Refusal
  in_column column end g = if g.0.0.column == column then formed end g (form g.0.0) else misplaced g.0.0

  abbrev pub in_order : ℕ → Behind → List Group → Result (List A) Refusal
  in_order column end [] = Ok []
  in_order column end (g ∷ gs) = do
    first ← in_column column (behind gs end) g
    others ← in_order column end gs
    Ok (first ++ others)

  abbrev pub lines_by : ℕ → Behind → List Logical → Result (List A) Refusal
  lines_by column end lines = in_order column end (groups column lines)

-- ---- tests

-- how many blocks may be inside one another in a test
abbrev pub deepest_in_test : ℕ
deepest_in_test = 19

-- a `with` on a line, by its class and the statements of its block
abbrev pub raising : ℕ → Expr → List Stmt → List FileStmt
raising line class [] = []
raising line class (stmt ∷ []) = Raises line class stmt None ∷ []
raising line class (stmt ∷ (next ∷ more)) = Raises line class stmt (Some next.line) ∷ []

unfoldable pub test_statement : Behind → Group → TestForm → Result (List FileStmt) Refusal
test_statement end g (test.Raises class small) = do
  body ← block Block deepest_in_test (statements deepest_in_test) (behind g.1 end) g.0 small
  unless_continued Block deepest_in_test g.1 (Ok (raising g.0.0.line class body))
test_statement end g (test.Usual form) = do
  all ← statement Block deepest_in_test (statements deepest_in_test) end g form
  Ok (map Plain all)

-- what is in a test
unfoldable pub test_statements : Behind → List Logical → Result (List FileStmt) Refusal
test_statements end lines = lines_by Block deepest_in_test test_form test_statement (column_of lines) end lines

abbrev pub on_line : Option (List Stmt) → Option (List FileStmt)
on_line small = option_map (map Plain) small

abbrev pub test_of : Behind → Group → List ℕ → List Param → Option Annotation → Option (List Stmt) → Result FileTest Refusal
test_of end g name params returns small = do
  body ← block Module deepest test_statements (behind g.1 end) g.0 (on_line small)
  unless_continued Module deepest g.1 (Ok (record { name = name; line = g.0.0.line; is_bare = is_empty params && is_none returns; body = body }))

-- ---- the top of a file

abbrev pub import_line : Group → TopItem → Result (List TopItem) Refusal
import_line g found = unless_deeper g.0.1 (unless_continued Module deepest g.1 (Ok (found ∷ [])))

-- what is read as in a module, and is no function
abbrev pub usual_item : Item → TopItem
usual_item (item.Func f) = on_top.Stray f.line
usual_item (item.Class c) = on_top.Stray c.line
usual_item (item.Import line names) = on_top.Import
usual_item (item.Other stmt) = on_top.Stray stmt.line

abbrev pub usual_items : Behind → Group → Form → Result (List TopItem) Refusal
usual_items end g (Compound (Def name params returns) small) = do
  made ← test_of end g name params returns small
  Ok (on_top.Test made ∷ [])
usual_items end g form = do
  all ← module_item end g form
  Ok (map usual_item all)

unfoldable pub top_item : Behind → Group → TopForm → Result (List TopItem) Refusal
top_item end g top.Pytest = import_line g on_top.Pytest
top_item end g (top.Tested name) = import_line g (on_top.Tested name)
top_item end g (top.Usual form) = usual_items end g form

unfoldable pub top_items : Behind → List Logical → Result (List TopItem) Refusal
top_items end lines = lines_by Module deepest top_form top_item 0 end lines

-- ---- files

abbrev pub is_import : TopItem → Bool
is_import on_top.Pytest = true
is_import (on_top.Tested name) = true
is_import on_top.Import = true
is_import _ = false

-- The module under test, where the two imports come first, in order, and no further one is there.
abbrev pub tested : List TopItem → List ℕ
tested (on_top.Pytest ∷ on_top.Tested name ∷ more) = if list_any is_import more then [] else name
tested _ = []

abbrev pub test_in : TopItem → Option FileTest
test_in (on_top.Test found) = Some found
test_in _ = None

abbrev pub stray_in : TopItem → Option ℕ
stray_in (on_top.Stray line) = Some line
stray_in _ = None

abbrev pub file_of : List TopItem → SuiteFile
file_of items = record { «module» = tested items; tests = filter_map test_in items; strays = filter_map stray_in items }

-- what was read before a lexical fault is refused there
abbrev pub unless_fault : Behind → List TopItem → Result SuiteFile Refusal
unless_fault None items = Ok (file_of items)
unless_fault (Some fault) items = Err fault

-- a text's logical lines, as a suite file
abbrev pub read_lines : Behind → List Logical → Result SuiteFile Refusal
read_lines end lines = top_items end lines >>= unless_fault end

-- the file that a text is read as, or why it is refused
unfoldable pub file_in : List ℕ → Result SuiteFile Refusal
file_in text = read_lines (fault_in (tokens_of text).fault) (tokens_of text).lines

-- the suite that a text is, of the module of a program, or why it is refused
abbrev pub suite_in : Program → List ℕ → Result Suite Refusal
suite_in program text = file_in text >>= suite_of program
