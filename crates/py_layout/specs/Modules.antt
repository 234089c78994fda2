-- The lines of a module, and that it is read back from them (Language Reference 7.11, 8.7 and 8.8).
use Rattle.std.specs.Prelude.{◌≡◌, ℕ, ◌+◌, List, [], ◌∷◌, map, None, Ok, codes}
use Rattle.std.specs.List.{flat_map}
use Rattle.py_language.specs.declared.token.Logical.{Logical}
use Rattle.py_language.specs.declared.token.Token.{Token}
use Rattle.py_language.specs.declared.token.Token.TheVariants as t
use Rattle.py_language.specs.declared.token.Keyword.TheVariants as k
use Rattle.py_syntax.specs.declared.module.Class.{Class}
use Rattle.py_syntax.specs.declared.module.Func.{Func}
use Rattle.py_syntax.specs.declared.module.Item.{Item}
use Rattle.py_syntax.specs.declared.module.Item.TheVariants as item
use Rattle.py_syntax.specs.declared.module.Member.{Member}
use Rattle.py_syntax.specs.declared.module.Member.TheVariants as member
use Rattle.py_syntax.specs.declared.module.Module.{Module}
use Rattle.py_syntax.specs.declared.stmt.Annotation.{Annotation}
use Rattle.py_grammar.specs.Blocks.{Behind}
use Rattle.py_grammar.specs.Modules.{read_lines}
use Rattle.py_grammar.specs.declared.form.Header.TheVariants as h
use Rattle.py_layout.specs.Blocks.{shown}
use Rattle.py_layout.specs.Erased.{erased}
use Rattle.py_layout.specs.Headers.{header_tokens, fresh_param, lone}
use Rattle.py_layout.specs.Rows.{Rows, row, rows_of, block_rows, indent}
use Rattle.py_layout.specs.Small.{joined, ReadsBack}

-- the future line has no names
abbrev pub import_tokens : List (List ℕ) → List Token
import_tokens [] = t.Keyword k.From ∷ t.Name (codes "__future__") ∷ t.Keyword k.Import ∷ lone (codes "annotations")
import_tokens (name ∷ names) = t.Keyword k.From ∷ t.Name (codes "typing") ∷ t.Keyword k.Import ∷ joined (map lone (name ∷ names))

-- by the tokens of annotations
module _ (annotated : Annotation → List Token) where
  abbrev pub func_rows : ℕ → Func → Rows
  func_rows column f = row column (header_tokens annotated (h.Def f.name f.params f.returns)) ∷ block_rows annotated (column + indent) f.body

  abbrev pub member_rows : ℕ → Member → Rows
  member_rows column (member.Func f) = func_rows column f
  member_rows column (member.Other stmt) = rows_of annotated stmt column

  abbrev pub class_rows : ℕ → Class → Rows
  class_rows column c = row column (header_tokens annotated (h.Class c.name c.base)) ∷ flat_map (member_rows (column + indent)) c.members

  abbrev pub item_rows : ℕ → Item → Rows
  item_rows column (item.Func f) = func_rows column f
  item_rows column (item.Class c) = class_rows column c
  item_rows column (item.Import line names) = row column (import_tokens names) ∷ []
  item_rows column (item.Other stmt) = rows_of annotated stmt column

  abbrev pub module_rows : Module → Rows
  module_rows m = flat_map (item_rows 0) m.items

-- ---- modules without lines and node numbers

abbrev pub erased_func : Func → Func
erased_func f = record { node = record { 0 = 0 }; name = f.name; line = 0; params = map (fresh_param 0) f.params; returns = f.returns; body = map erased f.body }

abbrev pub erased_member : Member → Member
erased_member (member.Func f) = member.Func (erased_func f)
erased_member (member.Other stmt) = member.Other (erased stmt)

abbrev pub erased_item : Item → Item
erased_item (item.Func f) = item.Func (erased_func f)
erased_item (item.Class c) = item.Class (record { name = c.name; base = c.base; line = 0; members = map erased_member c.members })
erased_item (item.Import line names) = item.Import 0 names
erased_item (item.Other stmt) = item.Other (erased stmt)

abbrev pub erased_module : Module → Module
erased_module m = record { items = map erased_item m.items; future = m.future; nodes = 0 }

-- What lines are read as a module is read from its own lines, wherever they are in a text.
abbrev pub ModulesReadBack : Type 0
ModulesReadBack = (annotated : Annotation → List Token) → ReadsBack annotated → (end : Behind) (lines : List Logical) (m : Module) → read_lines end lines ≡ Ok m
    → (own : List Logical) → map shown own ≡ module_rows annotated m → (made : Module) × ((read_lines None own ≡ Ok made) × (erased_module made ≡ erased_module m))
