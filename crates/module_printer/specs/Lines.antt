-- The parts of lines that functions of the printer write.
use Rattle.std.specs.Prelude.{ℕ, Bool, true, false, ◌&&◌, ◌==◌, if◌then◌else◌, List, [], ◌∷◌, ◌++◌, map, Option, Some, None}
use Rattle.py_language.specs.declared.token.Token.{Token}
use Rattle.py_language.specs.declared.token.Token.TheVariants as t
use Rattle.py_language.specs.declared.token.Mark.TheVariants as m
use Rattle.py_language.specs.TreesPlaces.{Conditional}
use Rattle.py_syntax.specs.declared.expr.Expr.{Expr}
use Rattle.py_syntax.specs.declared.stmt.Annotation.{Annotation}
use Rattle.py_printing.specs.Expressions.{expr_tokens}
use Rattle.py_layout.specs.Headers.{as_tokens, classes_tokens, lone}
use Rattle.py_annotation_layout.specs.Annotations.{annotation_tokens}

-- a comma, but before the first of a list
abbrev pub comma : Bool → List Token
comma true = []
comma false = t.Mark m.Comma ∷ []

-- parts with commas between them, after others or as the first
abbrev pub commas : Bool → List (List Token) → List Token
commas first [] = []
commas first (xs ∷ more) = comma first ++ (xs ++ commas false more)

-- the parts of an annotation, in brackets if there are any
abbrev pub parts_tokens : List Annotation → List Token
parts_tokens [] = []
parts_tokens (x ∷ xs) = t.Mark m.LeftBracket ∷ (commas true (map annotation_tokens (x ∷ xs)) ++ t.Mark m.RightBracket ∷ [])

-- the comma after the only part of a tuple
abbrev pub tuple_end : Bool → ℕ → List Token
tuple_end is_tuple count = if is_tuple && (count == 1) then t.Mark m.Comma ∷ [] else []

-- the default of a parameter
abbrev pub default_tokens : Option Expr → List Token
default_tokens None = []
default_tokens (Some x) = t.Mark m.Equal ∷ expr_tokens Conditional x

-- the classes of an `except` clause, of which one alone needs no brackets
abbrev pub classes_by : Bool → List (List ℕ) → List Token
classes_by true names = commas true (map lone names)
classes_by false names = t.Mark m.LeftParen ∷ (commas true (map lone names) ++ t.Mark m.RightParen ∷ [])

-- what is after `except`
abbrev pub handled_tokens : Option (List (List ℕ)) → Option (List ℕ) → List Token
handled_tokens None name = []
handled_tokens (Some classes) name = classes_tokens classes ++ as_tokens name
