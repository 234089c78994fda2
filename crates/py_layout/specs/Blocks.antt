-- A block is read back from its lines: the same statements, up to lines and node numbers.
use Rattle.std.specs.Prelude.{◌≡◌, ℕ, List, ◌∷◌, map, None, Ok}
use Rattle.py_language.specs.declared.token.Logical.{Logical}
use Rattle.py_language.specs.declared.token.Token.{Token}
use Rattle.py_syntax.specs.declared.stmt.Annotation.{Annotation}
use Rattle.py_syntax.specs.declared.stmt.Stmt.{Stmt}
use Rattle.py_grammar.specs.Blocks.{Behind}
use Rattle.py_grammar.specs.Compounds.{statements}
use Rattle.py_layout.specs.Erased.{erased}
use Rattle.py_layout.specs.Rows.{Row, row, block_rows}
use Rattle.py_layout.specs.Small.{ReadsBack}

-- a logical line without its number
abbrev pub shown : Logical → Row
shown l = row l.column l.tokens

-- What lines are read as a block, inside which so many may be, is read from its own lines, at any column and wherever they are in a text.
abbrev pub BlocksReadBack : Type 0
BlocksReadBack = (annotated : Annotation → List Token) → ReadsBack annotated → (room : ℕ) (end : Behind) (l : Logical) (ls : List Logical) (body : List Stmt) → statements room end (l ∷ ls) ≡ Ok body
    → (column : ℕ) (own : List Logical) → map shown own ≡ block_rows annotated column body → (made : List Stmt) × ((statements room None own ≡ Ok made) × (map erased made ≡ map erased body))
