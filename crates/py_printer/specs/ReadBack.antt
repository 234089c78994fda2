-- A printed expression is read back.
use Rattle.std.specs.Prelude.{◌≡◌, ℕ, true, List, [], ◌∷◌, ◌++◌, Some, None, encode_utf8_all}
use Rattle.std.specs.List.{list_all}
use Rattle.py_language.specs.declared.token.Token.{Token}
use Rattle.py_language.specs.TreesPlaces.{Level, Conditional}
use Rattle.py_language.specs.Tokens.{tokens_of}
use Rattle.py_language.specs.Trees.{tree_at}
use Rattle.py_syntax.specs.declared.expr.Expr.{Expr}
use Rattle.py_spelling.specs.Spelling.{is_sound}
use Rattle.py_printing.specs.Expressions.{unnumbered, expr_tokens}
use Rattle.py_printer.specs.Style.{text_of}

-- the characters of an expression's text
abbrev pub expr_text : Expr → List ℕ
expr_text x = text_of (expr_tokens Conditional x)

-- the text, as a line of UTF-8, is one logical line without a fault, and its tokens have the tree, up to lines and node numbers
abbrev pub IsReadBack : Level → Expr → Type 0
IsReadBack l x =
    (tokens_of (encode_utf8_all (text_of (expr_tokens l x)) ++ 10 ∷ []) ≡ record { lines = record { line = 1; column = 0; tokens = expr_tokens l x } ∷ []; fault = None })
    × ((y : Expr) × ((tree_at l (expr_tokens l x) ≡ Some y) × (unnumbered y ≡ unnumbered x)))

-- the tree of any tokens of a text is read back
abbrev pub StyledReadBack : Type 0
StyledReadBack = (l : Level) (ts : List Token) (x : Expr) → list_all is_sound ts ≡ true → tree_at l ts ≡ Some x → IsReadBack l x

-- where the expression is the tree of any tokens of a text, it is read back
abbrev pub PrintsBack : Expr → Type 0
PrintsBack x = (ts : List Token) → list_all is_sound ts ≡ true → tree_at Conditional ts ≡ Some x → IsReadBack Conditional x
