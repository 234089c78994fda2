-- The laws of printing, over every shape, level and depth.
use Rattle.std.specs.Prelude.{◌≡◌, ℕ, List, Some}
use Rattle.py_language.specs.declared.token.Token.{Token}
use Rattle.py_language.specs.declared.shape.Shape.{Shape}
use Rattle.py_language.specs.TreesPlaces.{Level}
use Rattle.py_language.specs.TreesSymbols.{symbols}
use Rattle.py_language.specs.Trees.{shape}
use Rattle.py_printing.specs.Printing.{At, print, Fits}
use Rattle.py_printing.specs.SymbolTokens.{tokens}

-- what fits is read from the tokens of its text
abbrev pub FittingAreRead : Type 0
FittingAreRead = (d : ℕ) (l : Level) (x : Shape) → Fits d (At l) x → shape d l (symbols (tokens (print (At l) x))) ≡ Some x

-- what is read from any tokens fits
abbrev pub OnlyFittingAreRead : Type 0
OnlyFittingAreRead = (d : ℕ) (l : Level) (ts : List Token) (x : Shape) → shape d l (symbols ts) ≡ Some x → Fits d (At l) x

-- what any tokens are read as is read from its own tokens, no deeper
abbrev pub ReadFromOwnTokens : Type 0
ReadFromOwnTokens = (d : ℕ) (l : Level) (ts : List Token) (x : Shape) → shape d l (symbols ts) ≡ Some x → shape d l (symbols (tokens (print (At l) x))) ≡ Some x
