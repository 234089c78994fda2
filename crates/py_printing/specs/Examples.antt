-- Words for the worked examples.
use Rattle.std.specs.Prelude.{ℕ, Bool, true, false, List, codes}
use Rattle.py_language.specs.declared.token.Token.{Token}
use Rattle.py_language.specs.declared.token.Token.TheVariants as t
use Rattle.py_language.specs.declared.token.Mark.TheVariants as m
use Rattle.py_language.specs.declared.shape.Atom.TheVariants as a
use Rattle.py_language.specs.declared.shape.Shape.{Shape}
use Rattle.py_language.specs.declared.shape.Shape.TheVariants as e
use Rattle.py_language.specs.TreesPlaces.{Conditional}
use Rattle.py_printing.specs.Texts.{line_text, shape_tokens}
use Prim.Native.String.{String}

abbrev pub name : String → Shape
name text = e.Atom (a.Name (codes text))

-- no space inside brackets, before brackets and dots, or after a sign
abbrev pub tight : Token → Token → Bool
tight (t.Mark m.LeftParen) y = true
tight (t.Mark m.Minus) y = true
tight (t.Mark m.Dot) y = true
tight (t.Mark m.RightParen) (t.Mark m.LeftParen) = true
tight x (t.Mark m.RightParen) = true
tight x (t.Mark m.Comma) = true
tight x (t.Mark m.Dot) = true
tight x y = false

-- the line of an expression
abbrev pub line_of : Shape → List ℕ
line_of x = line_text tight (shape_tokens Conditional x)
