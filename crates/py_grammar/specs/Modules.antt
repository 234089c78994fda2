-- Modules: what is at a module's level and in a class (Language Reference 7.11, 8.7, 8.8 and 9.2), and reading a text.
use Rattle.std.specs.Prelude.{ℕ, Bool, true, false, List, [], ◌∷◌, map, Option, Some, None, Result, Ok, Err}
use Rattle.std.specs.List.{list_any}
use Rattle.pyn_base.specs.declared.construct.Construct.{Construct}
use Rattle.py_language.specs.declared.token.Logical.{Logical}
use Rattle.py_language.specs.Tokens.{tokens_of}
use Rattle.py_syntax.specs.declared.module.Func.{Func}
use Rattle.py_syntax.specs.declared.module.Item.{Item}
use Rattle.py_syntax.specs.declared.module.Item.TheVariants as item
use Rattle.py_syntax.specs.declared.module.Member.TheVariants as member
use Rattle.py_syntax.specs.declared.module.Member.{Member as Method}
use Rattle.py_syntax.specs.declared.module.Module.{Module}
use Rattle.py_syntax.specs.declared.module.Param.{Param}
use Rattle.py_syntax.specs.declared.refusal.Refusal.{Refusal}
use Rattle.py_syntax.specs.declared.refusal.Refusal.TheVariants.{Refused}
use Rattle.py_syntax.specs.declared.stmt.Annotation.{Annotation}
use Rattle.py_syntax.specs.declared.stmt.Stmt.{Stmt}
use Rattle.py_grammar.specs.declared.form.Form.{Form}
use Rattle.py_grammar.specs.declared.form.Form.TheVariants.{Compound, Future, Typing}
use Rattle.py_grammar.specs.declared.form.Header.TheVariants.{Def, Class}
use Rattle.py_grammar.specs.declared.place.Place.{Place}
use Rattle.py_grammar.specs.declared.place.Place.TheVariants as place
use Rattle.py_grammar.specs.Blocks.{◌>>=◌, Group, Behind, behind, unless_deeper, column_of, lines_at}
use Rattle.py_grammar.specs.Compounds.{unless_continued, block, statement, statements, deepest}

-- how many blocks may be inside one another in a class
abbrev pub deepest_in_class : ℕ
deepest_in_class = 19

-- ---- functions (8.7), at a place with so much room

module _ (place : Place) (room : ℕ) where
  abbrev pub function : Behind → Group → List ℕ → List Param → Option Annotation → Option (List Stmt) → Result Func Refusal
  function end g name params returns small = do
    body ← block place room (statements room) (behind g.1 end) g.0 small
    unless_continued place room g.1 (Ok (record { node = record { 0 = 0 }; name = name; line = g.0.0.line; params = params; returns = returns; body = body }))

-- ---- classes (8.8)

unfoldable pub method : Behind → Group → Form → Result (List Method) Refusal
method end g (Compound (Def name params returns) small) = do
  made ← function place.Class deepest_in_class end g name params returns small
  Ok (member.Func made ∷ [])
method end g form = do
  all ← statement place.Class deepest_in_class (statements deepest_in_class) end g form
  Ok (map member.Other all)

unfoldable pub methods : Behind → List Logical → Result (List Method) Refusal
methods end lines = lines_at place.Class deepest_in_class method (column_of lines) end lines

abbrev pub on_line : Option (List Stmt) → Option (List Method)
on_line None = None
on_line (Some small) = Some (map member.Other small)

abbrev pub class_statement : Behind → Group → List ℕ → Option (List ℕ) → Option (List Stmt) → Result (List Item) Refusal
class_statement end g name base small = do
  found ← block place.Module deepest methods (behind g.1 end) g.0 (on_line small)
  unless_continued place.Module deepest g.1 (Ok (item.Class (record { name = name; base = base; line = g.0.0.line; members = found }) ∷ []))

-- ---- modules

-- an import line (7.11)
abbrev pub import_line : Group → List (List ℕ) → Result (List Item) Refusal
import_line g names = unless_deeper g.0.1 (unless_continued place.Module deepest g.1 (Ok (item.Import g.0.0.line names ∷ [])))

unfoldable pub module_item : Behind → Group → Form → Result (List Item) Refusal
module_item end g (Compound (Def name params returns) small) = do
  made ← function place.Module deepest end g name params returns small
  Ok (item.Func made ∷ [])
module_item end g (Compound (Class name base) small) = class_statement end g name base small
module_item end g Future = import_line g []
module_item end g (Typing names) = import_line g names
module_item end g form = do
  all ← statement place.Module deepest (statements deepest) end g form
  Ok (map item.Other all)

unfoldable pub module_items : Behind → List Logical → Result (List Item) Refusal
module_items end lines = lines_at place.Module deepest module_item 0 end lines

-- the future line, which has no names
abbrev pub is_future : Item → Bool
is_future (item.Import line []) = true
is_future _ = false

abbrev pub has_future : List Item → Bool
has_future items = list_any is_future items

-- the module before its nodes are numbered
abbrev pub module_of : List Item → Module
module_of items = record { items = items; future = has_future items; nodes = 0 }

-- ---- texts

abbrev pub fault_in : Option (ℕ × Construct) → Behind
fault_in None = None
fault_in (Some f) = Some (Refused f.0 f.1)

-- what was read before a lexical fault is refused there
abbrev pub unless_fault : Behind → List Item → Result Module Refusal
unless_fault None items = Ok (module_of items)
unless_fault (Some fault) items = Err fault

-- a text's logical lines, as a module
abbrev pub read_lines : Behind → List Logical → Result Module Refusal
read_lines end lines = module_items end lines >>= unless_fault end

unfoldable pub unnumbered : List ℕ → Result Module Refusal
unnumbered text = read_lines (fault_in (tokens_of text).fault) (tokens_of text).lines
