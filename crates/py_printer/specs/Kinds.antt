-- What a token is to its neighbours on a line.
use Rattle.py_language.specs.declared.token.Keyword.{Keyword}
use Rattle.py_language.specs.declared.token.Keyword.TheVariants as k
use Rattle.py_language.specs.declared.token.Mark.{Mark}
use Rattle.py_language.specs.declared.token.Mark.TheVariants as m
use Rattle.py_language.specs.declared.token.Token.{Token}
use Rattle.py_language.specs.declared.token.Token.TheVariants as t
use Rattle.py_printer.specs.declared.kinds.Kind.{Kind}
use Rattle.py_printer.specs.declared.kinds.Kind.TheVariants as is
use Rattle.py_printer.specs.declared.kinds.Last.{Last}
use Rattle.py_printer.specs.declared.kinds.Last.TheVariants as last
use Rattle.py_printer.specs.declared.kinds.Opened.TheVariants as o

abbrev pub mark_kind : Mark → Kind
mark_kind m.LeftParen = is.Opening o.Round
mark_kind m.LeftBracket = is.Opening o.Square
mark_kind m.LeftBrace = is.Opening o.Brace
mark_kind m.RightParen = is.Closing
mark_kind m.RightBracket = is.Closing
mark_kind m.RightBrace = is.Closing
mark_kind m.Comma = is.Comma
mark_kind m.Colon = is.Colon
mark_kind m.Dot = is.Dot
mark_kind m.Equal = is.Equal
mark_kind m.Plus = is.Sign
mark_kind m.Minus = is.Sign
mark_kind _ = is.Operator

-- the keywords that are values end an operand
abbrev pub keyword_kind : Keyword → Kind
keyword_kind k.NoneLit = is.Operand
keyword_kind k.TrueLit = is.Operand
keyword_kind k.FalseLit = is.Operand
keyword_kind _ = is.Operator

abbrev pub kind_of : Token → Kind
kind_of (t.Name n) = is.Operand
kind_of (t.Keyword k) = keyword_kind k
kind_of (t.Int n) = is.Operand
kind_of (t.Str s) = is.Operand
kind_of (t.Mark m) = mark_kind m

abbrev pub mark_last : Kind → Last
mark_last is.Dot = last.Dot
mark_last _ = last.Mark

-- what a text ends in after a token
abbrev pub last_of : Token → Last
last_of (t.Name n) = last.Word
last_of (t.Keyword k) = last.Word
last_of (t.Int n) = last.Number
last_of (t.Str s) = last.Quoted
last_of (t.Mark m) = mark_last (mark_kind m)
