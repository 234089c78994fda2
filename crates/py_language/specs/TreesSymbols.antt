-- What the tokens of an expression are for its grammar (Language Reference 2.3 to 2.6 and chapter 6). Adjacent strings
-- are one string, `not in` and `is not` one comparison, `.name` one group, and `super().name` before a bracket one name.
use Rattle.std.specs.Prelude.{ℕ, Bool, true, false, List, [], ◌∷◌, ◌++◌, bytes_eq, if◌then◌else◌}
use Rattle.py_language.specs.declared.token.Token.{Token}
use Rattle.py_language.specs.declared.token.Token.TheVariants as token
use Rattle.py_language.specs.declared.token.Keyword.{Keyword}
use Rattle.py_language.specs.declared.token.Keyword.TheVariants as keyword
use Rattle.py_language.specs.declared.token.Mark.{Mark}
use Rattle.py_language.specs.declared.token.Mark.TheVariants as mark
use Rattle.py_language.specs.declared.shape.Atom.TheVariants.{NoneLit, BoolLit, IntLit, StrLit, Name}
use Rattle.py_language.specs.declared.shape.Bracket.TheVariants.{Round, Square, Brace}
use Rattle.py_language.specs.declared.shape.Symbol.{Symbol}
use Rattle.py_language.specs.declared.shape.Symbol.TheVariants.{Atom, Super, Method, Attribute, Sign, Factor, Compare, Or, And, Not, If, Else, Comma, Colon, Equal, Open, Close, Other}
use Rattle.py_syntax.specs.declared.operator.BinOp.TheVariants.{Mul, FloorDiv, Mod}
use Rattle.py_syntax.specs.declared.operator.CmpOp.TheVariants.{Lt, Gt, Eq, Ge, Le, Ne, Contained, NotContained, Same, NotSame}
use Rattle.py_syntax.specs.declared.operator.Sign.TheVariants.{Minus, Plus}

abbrev pub keyword_symbol : Keyword → Symbol
keyword_symbol keyword.NoneLit = Atom NoneLit
keyword_symbol keyword.TrueLit = Atom (BoolLit true)
keyword_symbol keyword.FalseLit = Atom (BoolLit false)
keyword_symbol keyword.Or = Or
keyword_symbol keyword.And = And
keyword_symbol keyword.Not = Not
keyword_symbol keyword.If = If
keyword_symbol keyword.Else = Else
keyword_symbol keyword.In = Compare Contained
keyword_symbol keyword.Is = Compare Same
keyword_symbol _ = Other

abbrev pub mark_symbol : Mark → Symbol
mark_symbol mark.Plus = Sign Plus
mark_symbol mark.Minus = Sign Minus
mark_symbol mark.Star = Factor Mul
mark_symbol mark.DoubleSlash = Factor FloorDiv
mark_symbol mark.Percent = Factor Mod
mark_symbol mark.Less = Compare Lt
mark_symbol mark.Greater = Compare Gt
mark_symbol mark.EqualEqual = Compare Eq
mark_symbol mark.GreaterEqual = Compare Ge
mark_symbol mark.LessEqual = Compare Le
mark_symbol mark.NotEqual = Compare Ne
mark_symbol mark.LeftParen = Open Round
mark_symbol mark.LeftBracket = Open Square
mark_symbol mark.LeftBrace = Open Brace
mark_symbol mark.RightParen = Close Round
mark_symbol mark.RightBracket = Close Square
mark_symbol mark.RightBrace = Close Brace
mark_symbol mark.Comma = Comma
mark_symbol mark.Colon = Colon
mark_symbol mark.Equal = Equal
mark_symbol _ = Other

-- a token that stands alone
abbrev pub symbol : Token → Symbol
symbol (token.Name n) = Atom (Name n)
symbol (token.Int n) = Atom (IntLit n)
symbol (token.Str s) = Atom (StrLit s)
symbol (token.Keyword k) = keyword_symbol k
symbol (token.Mark m) = mark_symbol m

abbrev pub is_super : List ℕ → Bool
is_super n = bytes_eq n (115 ∷ 117 ∷ 112 ∷ 101 ∷ 114 ∷ [])

-- a name, before these symbols
abbrev pub named : List ℕ → List Symbol → List Symbol
named n (Open Round ∷ Close Round ∷ Method m ∷ xs) = if is_super n then Super m ∷ xs else Atom (Name n) ∷ Open Round ∷ Close Round ∷ Method m ∷ xs
named n xs = Atom (Name n) ∷ xs

-- `.name`, before these symbols
abbrev pub attribute : List ℕ → List Symbol → List Symbol
attribute n (Open Round ∷ xs) = Method n ∷ Open Round ∷ xs
attribute n xs = Attribute n ∷ xs

-- a symbol before others, joined with the first of them where the two are one
abbrev pub join : Symbol → List Symbol → List Symbol
join Not (Compare Contained ∷ xs) = Compare NotContained ∷ xs
join (Compare Same) (Not ∷ xs) = Compare NotSame ∷ xs
join (Atom (StrLit s)) (Atom (StrLit t) ∷ xs) = Atom (StrLit (s ++ t)) ∷ xs
join (Atom (Name n)) xs = named n xs
join x xs = x ∷ xs

abbrev pub symbols : List Token → List Symbol
symbols [] = []
symbols (token.Mark mark.Dot ∷ token.Name n ∷ xs) = attribute n (symbols xs)
symbols (x ∷ xs) = join (symbol x) (symbols xs)
