-- The lines of a module, with the empty lines that PEP 8 wants before and after functions and classes.
use Rattle.std.specs.Prelude.{◌≡◌, ℕ, List, [], ◌∷◌, ◌++◌, map, Option, Some, None}
use Rattle.py_syntax.specs.declared.module.Class.{Class}
use Rattle.py_syntax.specs.declared.module.Item.{Item}
use Rattle.py_syntax.specs.declared.module.Item.TheVariants as item
use Rattle.py_syntax.specs.declared.module.Member.{Member}
use Rattle.py_syntax.specs.declared.module.Member.TheVariants as member
use Rattle.py_syntax.specs.declared.module.Module.{Module}
use Rattle.py_grammar.specs.declared.form.Header.TheVariants as h
use Rattle.py_layout.specs.Headers.{header_tokens}
use Rattle.py_layout.specs.Modules.{item_rows, member_rows, module_rows}
use Rattle.py_layout.specs.Rows.{Row, Rows, row, indent}
use Rattle.py_printer.specs.Lines.{Line, lines_text}
use Rattle.py_annotation_layout.specs.Annotations.{annotation_tokens}
use Rattle.module_printer.specs.declared.gaps.Part.{Part}
use Rattle.module_printer.specs.declared.gaps.Part.TheVariants as part

-- rows as lines, of which the first has empty lines before it
abbrev pub lines_of : ℕ → Rows → List Line
lines_of blanks [] = []
lines_of blanks (r ∷ rs) = record { blanks = blanks; column = r.column; tokens = r.tokens } ∷ lines_of 0 rs

abbrev pub item_part : Item → Part
item_part (item.Func f) = part.Definition
item_part (item.Class c) = part.Definition
item_part (item.Import line names) = part.Plain
item_part (item.Other stmt) = part.Plain

abbrev pub member_part : Member → Part
member_part (member.Func f) = part.Definition
member_part (member.Other stmt) = part.Plain

-- how many empty lines come before a part after another, where so many are before and after definitions
abbrev pub gap : ℕ → Option Part → Part → ℕ
gap wide None this = 0
gap wide (Some part.Plain) part.Plain = 0
gap wide (Some part.Plain) part.Definition = wide
gap wide (Some part.Definition) this = wide

-- the lines of parts, which are given by the number of empty lines before each
abbrev pub spaced : {X : Type 0} → ℕ → (X → Part) → (ℕ → X → List Line) → Option Part → List X → List Line
spaced wide part_of lines last [] = []
spaced wide part_of lines last (x ∷ xs) = lines (gap wide last (part_of x)) x ++ spaced wide part_of lines (Some (part_of x)) xs

abbrev pub member_lines : ℕ → Member → List Line
member_lines blanks x = lines_of blanks (member_rows annotation_tokens indent x)

abbrev pub members_lines : List Member → List Line
members_lines members = spaced 1 member_part member_lines None members

abbrev pub class_row : Class → Row
class_row c = row 0 (header_tokens annotation_tokens (h.Class c.name c.base))

abbrev pub class_lines : ℕ → Class → List Line
class_lines blanks c = lines_of blanks (class_row c ∷ []) ++ members_lines c.members

abbrev pub item_lines : ℕ → Item → List Line
item_lines blanks (item.Class c) = class_lines blanks c
item_lines blanks x = lines_of blanks (item_rows annotation_tokens 0 x)

abbrev pub items_lines : List Item → List Line
items_lines items = spaced 2 item_part item_lines None items

abbrev pub module_lines : Module → List Line
module_lines m = items_lines m.items

abbrev pub module_text : Module → List ℕ
module_text m = lines_text (module_lines m)

-- ---- the law

abbrev pub row_of : Line → Row
row_of l = row l.column l.tokens

-- without empty lines they are the rows of the module
abbrev pub LinesAreRows : Type 0
LinesAreRows = (m : Module) → map row_of (module_lines m) ≡ module_rows annotation_tokens m
