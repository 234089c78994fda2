-- The rows of a module's lines are the module's rows.
use Rattle.std.proofs.Common.{◌≡◌, ◌∙◌, ap, ap₂, refl, ℕ, List, [], ◌∷◌, ◌++◌, Option, Some}
use Rattle.std.specs.Prelude.{map}
use Rattle.std.specs.List.{flat_map}
use Rattle.py_syntax.specs.declared.module.Item.{Item}
use Rattle.py_syntax.specs.declared.module.Item.TheVariants as item
use Rattle.py_layout.specs.Modules.{item_rows, member_rows}
use Rattle.py_layout.specs.Rows.{Rows, indent}
use Rattle.py_printer.specs.Lines.{Line}
use Rattle.py_annotation_layout.specs.Annotations.{annotation_tokens}
use Rattle.module_printer.specs.declared.gaps.Part.{Part}
use Rattle.module_printer.specs.Modules.{lines_of, gap, spaced, class_row, item_part, member_part, member_lines, item_lines, row_of, LinesAreRows}

rows_append : (xs ys : List Line) → map row_of (xs ++ ys) ≡ map row_of xs ++ map row_of ys
rows_append [] ys = refl
rows_append (x ∷ xs) ys = ap (λ z. row_of x ∷ z) (rows_append xs ys)

rows_back : (blanks : ℕ) (rows : Rows) → map row_of (lines_of blanks rows) ≡ rows
rows_back blanks [] = refl
rows_back blanks (r ∷ rs) = ap (λ z. r ∷ z) (rows_back 0 rs)

module _ {X : Type 0} (wide : ℕ) (part_of : X → Part) (lines : ℕ → X → List Line) (rows : X → Rows) (each : (blanks : ℕ) (x : X) → map row_of (lines blanks x) ≡ rows x) where
  spaced_back : (last : Option Part) (xs : List X) → map row_of (spaced wide part_of lines last xs) ≡ flat_map rows xs
  spaced_back last [] = refl
  spaced_back last (x ∷ xs) =
      rows_append (lines (gap wide last (part_of x)) x) (spaced wide part_of lines (Some (part_of x)) xs) ∙ ap₂ (λ z w. z ++ w) (each (gap wide last (part_of x)) x) (spaced_back (Some (part_of x)) xs)

item_back : (blanks : ℕ) (x : Item) → map row_of (item_lines blanks x) ≡ item_rows annotation_tokens 0 x
item_back blanks (item.Func f) = rows_back blanks (item_rows annotation_tokens 0 (item.Func f))
item_back blanks (item.Class c) =
    ap (λ z. class_row c ∷ z) (spaced_back 1 member_part member_lines (member_rows annotation_tokens indent) (λ n x. rows_back n (member_rows annotation_tokens indent x)) _ c.members)
item_back blanks (item.Import line names) = refl
item_back blanks (item.Other stmt) = rows_back blanks (item_rows annotation_tokens 0 (item.Other stmt))

pub lines_are_rows : LinesAreRows
lines_are_rows m = spaced_back 2 item_part item_lines (item_rows annotation_tokens 0) item_back _ m.items
