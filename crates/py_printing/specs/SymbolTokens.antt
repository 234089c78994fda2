-- The tokens of symbols, and which symbols may be neighbours so that their tokens make them again (Language Reference 2.3 to 2.6).
use Rattle.std.specs.Prelude.{ℕ, Bool, true, false, not, ◌&&◌, List, [], ◌∷◌, ◌++◌}
use Rattle.py_language.specs.declared.token.Token.{Token}
use Rattle.py_language.specs.declared.token.Token.TheVariants as t
use Rattle.py_language.specs.declared.token.Keyword.TheVariants as k
use Rattle.py_language.specs.declared.token.Mark.TheVariants as m
use Rattle.py_language.specs.declared.shape.Atom.{Atom}
use Rattle.py_language.specs.declared.shape.Atom.TheVariants as a
use Rattle.py_language.specs.declared.shape.Bracket.{Bracket}
use Rattle.py_language.specs.declared.shape.Bracket.TheVariants.{Round, Square, Brace}
use Rattle.py_language.specs.declared.shape.Symbol.{Symbol}
use Rattle.py_language.specs.declared.shape.Symbol.TheVariants as s
use Rattle.py_language.specs.TreesSymbols.{is_super}
use Rattle.py_syntax.specs.declared.operator.BinOp.{BinOp}
use Rattle.py_syntax.specs.declared.operator.BinOp.TheVariants.{Add, Sub, Mul, FloorDiv, Mod}
use Rattle.py_syntax.specs.declared.operator.CmpOp.{CmpOp}
use Rattle.py_syntax.specs.declared.operator.CmpOp.TheVariants.{Lt, Gt, Eq, Ge, Le, Ne, Contained, NotContained, Same, NotSame}
use Rattle.py_syntax.specs.declared.operator.Sign.{Sign}
use Rattle.py_syntax.specs.declared.operator.Sign.TheVariants.{Minus, Plus}
use Rattle.py_printing.specs.Printing.{is_factor}

abbrev pub truth : Bool → Token
truth true = t.Keyword k.TrueLit
truth false = t.Keyword k.FalseLit

abbrev pub atom_token : Atom → Token
atom_token a.NoneLit = t.Keyword k.NoneLit
atom_token (a.BoolLit b) = truth b
atom_token (a.IntLit n) = t.Int n
atom_token (a.StrLit x) = t.Str x
atom_token (a.Name n) = t.Name n

abbrev pub sign_token : Sign → Token
sign_token Minus = t.Mark m.Minus
sign_token Plus = t.Mark m.Plus

abbrev pub factor_token : BinOp → Token
factor_token Mul = t.Mark m.Star
factor_token FloorDiv = t.Mark m.DoubleSlash
factor_token Mod = t.Mark m.Percent
factor_token Add = t.Mark m.Plus
factor_token Sub = t.Mark m.Minus

abbrev pub compare_tokens : CmpOp → List Token
compare_tokens Lt = t.Mark m.Less ∷ []
compare_tokens Gt = t.Mark m.Greater ∷ []
compare_tokens Eq = t.Mark m.EqualEqual ∷ []
compare_tokens Ge = t.Mark m.GreaterEqual ∷ []
compare_tokens Le = t.Mark m.LessEqual ∷ []
compare_tokens Ne = t.Mark m.NotEqual ∷ []
compare_tokens Contained = t.Keyword k.In ∷ []
compare_tokens NotContained = t.Keyword k.Not ∷ t.Keyword k.In ∷ []
compare_tokens Same = t.Keyword k.Is ∷ []
compare_tokens NotSame = t.Keyword k.Is ∷ t.Keyword k.Not ∷ []

abbrev pub open_token : Bracket → Token
open_token Round = t.Mark m.LeftParen
open_token Square = t.Mark m.LeftBracket
open_token Brace = t.Mark m.LeftBrace

abbrev pub close_token : Bracket → Token
close_token Round = t.Mark m.RightParen
close_token Square = t.Mark m.RightBracket
close_token Brace = t.Mark m.RightBrace

abbrev pub super_name : List ℕ
super_name = 115 ∷ 117 ∷ 112 ∷ 101 ∷ 114 ∷ []

abbrev pub tokens_in : Symbol → List Token
tokens_in (s.Atom x) = atom_token x ∷ []
tokens_in (s.Super n) = t.Name super_name ∷ t.Mark m.LeftParen ∷ t.Mark m.RightParen ∷ t.Mark m.Dot ∷ t.Name n ∷ []
tokens_in (s.Method n) = t.Mark m.Dot ∷ t.Name n ∷ []
tokens_in (s.Attribute n) = t.Mark m.Dot ∷ t.Name n ∷ []
tokens_in (s.Sign g) = sign_token g ∷ []
tokens_in (s.Factor op) = factor_token op ∷ []
tokens_in (s.Compare op) = compare_tokens op
tokens_in s.Or = t.Keyword k.Or ∷ []
tokens_in s.And = t.Keyword k.And ∷ []
tokens_in s.Not = t.Keyword k.Not ∷ []
tokens_in s.If = t.Keyword k.If ∷ []
tokens_in s.Else = t.Keyword k.Else ∷ []
tokens_in s.Comma = t.Mark m.Comma ∷ []
tokens_in s.Colon = t.Mark m.Colon ∷ []
tokens_in s.Equal = t.Mark m.Equal ∷ []
tokens_in (s.Open b) = open_token b ∷ []
tokens_in (s.Close b) = close_token b ∷ []
tokens_in s.Other = []

abbrev pub tokens : List Symbol → List Token
tokens [] = []
tokens (x ∷ xs) = tokens_in x ++ tokens xs

-- ---- neighbours

abbrev pub first_is : (Symbol → Bool) → List Symbol → Bool
first_is p [] = false
first_is p (x ∷ xs) = p x

abbrev pub is_round : Symbol → Bool
is_round (s.Open Round) = true
is_round _ = false

abbrev pub is_string : Symbol → Bool
is_string (s.Atom (a.StrLit x)) = true
is_string _ = false

abbrev pub is_in : Symbol → Bool
is_in (s.Compare Contained) = true
is_in _ = false

abbrev pub is_not : Symbol → Bool
is_not s.Not = true
is_not _ = false

abbrev pub is_method : Symbol → Bool
is_method (s.Method n) = true
is_method _ = false

abbrev pub is_close : Symbol → Bool
is_close (s.Close Round) = true
is_close _ = false

abbrev pub second_is : (List Symbol → Bool) → List Symbol → Bool
second_is p [] = false
second_is p (x ∷ xs) = p xs

-- `()` before a method
abbrev pub is_called : List Symbol → Bool
is_called xs = first_is is_round xs && second_is (λ ys. first_is is_close ys && second_is (first_is is_method) ys) xs

-- whether a symbol is not joined with those after it, and is made again
abbrev pub is_apart_from : Symbol → List Symbol → Bool
is_apart_from (s.Atom (a.StrLit x)) rest = not (first_is is_string rest)
is_apart_from (s.Atom (a.Name n)) rest = not (is_super n && is_called rest)
is_apart_from (s.Attribute n) rest = not (first_is is_round rest)
is_apart_from (s.Method n) rest = first_is is_round rest
is_apart_from (s.Super n) rest = first_is is_round rest
is_apart_from s.Not rest = not (first_is is_in rest)
is_apart_from (s.Compare Same) rest = not (first_is is_not rest)
is_apart_from (s.Compare NotSame) rest = not (first_is is_in rest)
is_apart_from (s.Factor op) rest = is_factor op
is_apart_from s.Other rest = false
is_apart_from _ rest = true

abbrev pub are_apart : List Symbol → Bool
are_apart [] = true
are_apart (x ∷ xs) = is_apart_from x xs && are_apart xs
