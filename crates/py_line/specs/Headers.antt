-- The header that a keyword begins.
use Rattle.std.specs.Prelude.{ℕ, List, Option, None}
use Rattle.py_language.specs.declared.token.Token.{Token}
use Rattle.py_language.specs.declared.token.Keyword.{Keyword}
use Rattle.py_language.specs.declared.token.Keyword.TheVariants as keyword
use Rattle.py_grammar.specs.declared.form.Header.{Header}
use Rattle.py_grammar.specs.declared.form.Header.TheVariants as h
use Rattle.py_grammar.specs.Statements.{alone}
use Rattle.py_grammar.specs.Forms.{tested, for, except, def, class}

abbrev pub header : ℕ → Keyword → List Token → Option Header
header line keyword.If xs = tested line h.If xs
header line keyword.Elif xs = tested line h.Elif xs
header line keyword.Else xs = alone h.Else xs
header line keyword.While xs = tested line h.While xs
header line keyword.For xs = for line xs
header line keyword.Try xs = alone h.Try xs
header line keyword.Except xs = except xs
header line keyword.Finally xs = alone h.Finally xs
header line keyword.Def xs = def line xs
header line keyword.Class xs = class xs
header line _ xs = None
