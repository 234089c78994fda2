-- The text of an expression on a line of its own, with any style of spaces.
use Rattle.std.specs.Prelude.{◌≡◌, ℕ, Bool, true, not, ◌&&◌, List, [], ◌∷◌, ◌++◌, Some, None}
use Rattle.std.specs.List.{list_all}
use Rattle.py_language.specs.declared.token.Token.{Token}
use Rattle.py_language.specs.declared.shape.Shape.{Shape}
use Rattle.py_language.specs.TreesPlaces.{Level}
use Rattle.py_language.specs.TreesSymbols.{symbols}
use Rattle.py_language.specs.Trees.{shape, deepest}
use Rattle.py_language.specs.Tokens.{tokens_of}
use Rattle.py_spelling.specs.Spelling.{Spaced, may_touch, is_sound, spelled, spaced_text}
use Rattle.py_printing.specs.Printing.{At, print}
use Rattle.py_printing.specs.SymbolTokens.{tokens}

-- A style says where no space is wanted between two tokens. Where they may not touch there is one all the same.
abbrev pub spaced : (Token → Token → Bool) → Token → List Token → List Spaced
spaced tight x [] = []
spaced tight x (y ∷ ys) = (not (tight x y && may_touch x y), y) ∷ spaced tight y ys

-- the text of tokens on a line
abbrev pub line_text : (Token → Token → Bool) → List Token → List ℕ
line_text tight [] = 10 ∷ []
line_text tight (x ∷ xs) = spelled x ++ (spaced_text (spaced tight x xs) ++ 10 ∷ [])

-- the tokens that a shape is printed as, at a level
abbrev pub shape_tokens : Level → Shape → List Token
shape_tokens l x = tokens (print (At l) x)

-- whatever any tokens are read as is read again from its text, in any style of spaces, where its names, integers and strings
-- are those of a text
abbrev pub TextsReadBack : Type 0
TextsReadBack = (tight : Token → Token → Bool) (l : Level) (ts : List Token) (x : Shape) → shape deepest l (symbols ts) ≡ Some x → list_all is_sound (shape_tokens l x) ≡ true
    → (tokens_of (line_text tight (shape_tokens l x)) ≡ record { lines = record { line = 1; column = 0; tokens = shape_tokens l x } ∷ []; fault = None })
    × (shape deepest l (symbols (shape_tokens l x)) ≡ Some x)
