-- Words for the worked examples.
use Rattle.std.specs.Prelude.{ℕ, true, false, List, pos, codes}
use Rattle.py_language.specs.declared.token.Token.{Token}
use Rattle.py_language.specs.declared.token.Token.TheVariants as t
use Rattle.py_language.specs.declared.token.Mark.{Mark}
use Rattle.py_spelling.specs.Spelling.{Spaced, Row}
use Prim.Native.String.{String}

abbrev pub name : String → Token
name text = t.Name (codes text)

abbrev pub string : String → Token
string text = t.Str (codes text)

abbrev pub integer : ℕ → Token
integer n = t.Int (pos n)

abbrev pub mark : Mark → Token
mark m = t.Mark m

abbrev pub spaced : Token → Spaced
spaced x = (true, x)

abbrev pub touching : Token → Spaced
touching x = (false, x)

abbrev pub row : ℕ → Token → List Spaced → Row
row column first others = record { column = column; first = first; others = others }
