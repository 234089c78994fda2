-- Short names for the tokens and shapes of the worked examples.
use Rattle.std.specs.Prelude.{ℕ, zero, suc, pos, List, [], ◌∷◌, ◌++◌, Option}
use Rattle.py_language.specs.declared.token.Token.{Token}
use Rattle.py_language.specs.declared.token.Token.TheVariants.{Name, Int, Mark}
use Rattle.py_language.specs.declared.token.Mark.TheVariants as mark
use Rattle.py_language.specs.declared.shape.Atom.TheVariants as atom
use Rattle.py_language.specs.declared.shape.Shape.{Shape}
use Rattle.py_language.specs.declared.shape.Shape.TheVariants as shape
use Rattle.py_language.specs.Trees.{shape as shape_at, deepest}
use Rattle.py_language.specs.TreesPlaces.{Conditional}
use Rattle.py_language.specs.TreesSymbols.{symbols}
use Rattle.py_syntax.specs.declared.expr.Expr.{Expr}
use Rattle.py_syntax.specs.declared.expr.ExprKind.{ExprKind}

-- the shape that tokens have as one expression
abbrev pub read : List Token → Option Shape
read xs = shape_at deepest Conditional (symbols xs)

-- names of one letter
abbrev pub a : Token
a = Name (97 ∷ [])

abbrev pub b : Token
b = Name (98 ∷ [])

abbrev pub c : Token
c = Name (99 ∷ [])

abbrev pub f : Token
f = Name (102 ∷ [])

abbrev pub super : Token
super = Name (115 ∷ 117 ∷ 112 ∷ 101 ∷ 114 ∷ [])

abbrev pub int : ℕ → Token
int n = Int (pos n)

-- the same as operands
abbrev pub A : Shape
A = shape.Atom (atom.Name (97 ∷ []))

abbrev pub B : Shape
B = shape.Atom (atom.Name (98 ∷ []))

abbrev pub C : Shape
C = shape.Atom (atom.Name (99 ∷ []))

abbrev pub F : Shape
F = shape.Atom (atom.Name (102 ∷ []))

abbrev pub number : ℕ → Shape
number n = shape.Atom (atom.IntLit (pos n))

-- so many pairs of brackets round the tokens
abbrev pub bracketed : ℕ → List Token → List Token
bracketed zero xs = xs
bracketed (suc n) xs = Mark mark.LeftParen ∷ (bracketed n xs ++ Mark mark.RightParen ∷ [])

-- a token, and so many times these behind it
abbrev pub repeated : ℕ → Token → List Token → List Token
repeated zero x xs = x ∷ []
repeated (suc n) x xs = repeated n x xs ++ xs

-- a node with its number
abbrev pub node : ℕ → ExprKind → Expr
node n k = record { node = record { 0 = n }; line = 1; kind = k }
