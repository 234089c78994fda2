-- The first token of an expression (Language Reference, chapter 6): no statement that begins with a keyword begins so.
use Rattle.std.specs.Prelude.{◌≡◌, Bool, true, false, List, ◌∷◌, Some}
use Rattle.py_language.specs.declared.token.Token.{Token}
use Rattle.py_language.specs.declared.token.Token.TheVariants as t
use Rattle.py_language.specs.declared.token.Keyword.TheVariants as k
use Rattle.py_language.specs.declared.token.Mark.TheVariants as m
use Rattle.py_language.specs.TreesPlaces.{Level}
use Rattle.py_language.specs.Trees.{tree_at}
use Rattle.py_syntax.specs.declared.expr.Expr.{Expr}
use Rattle.py_printing.specs.Expressions.{expr_tokens}

-- the tokens that an expression may begin with
abbrev pub is_start : Token → Bool
is_start (t.Name n) = true
is_start (t.Int n) = true
is_start (t.Str text) = true
is_start (t.Keyword k.NoneLit) = true
is_start (t.Keyword k.TrueLit) = true
is_start (t.Keyword k.FalseLit) = true
is_start (t.Keyword k.Not) = true
is_start (t.Mark m.Plus) = true
is_start (t.Mark m.Minus) = true
is_start (t.Mark m.LeftParen) = true
is_start (t.Mark m.LeftBracket) = true
is_start (t.Mark m.LeftBrace) = true
is_start _ = false

pub record Begins (ts : List Token) : Type 0 where
  pub first : Token
  pub rest : List Token
  pub whole : ts ≡ first ∷ rest
  pub starts : is_start first ≡ true

-- an expression that any tokens are read as begins so
abbrev pub ExpressionsBegin : Type 0
ExpressionsBegin = (l : Level) (ts : List Token) (x : Expr) → tree_at l ts ≡ Some x → Begins (expr_tokens l x)
