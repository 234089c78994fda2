-- Words for the worked examples of tokens.
use Rattle.std.specs.Prelude.{ℕ, List, [], ◌∷◌, Some, None, pos, codes}
use Rattle.pyn_base.specs.declared.construct.Construct.{Construct}
use Rattle.py_language.specs.declared.token.Token.{Token}
use Rattle.py_language.specs.declared.token.Token.TheVariants as t
use Rattle.py_language.specs.declared.token.Logical.{Logical}
use Rattle.py_language.specs.declared.token.Tokens.{Tokens}
use Prim.Native.String.{String}

abbrev pub name : String → Token
name text = t.Name (codes text)

abbrev pub string : String → Token
string text = t.Str (codes text)

abbrev pub integer : ℕ → Token
integer n = t.Int (pos n)

abbrev pub logical : ℕ → ℕ → List Token → Logical
logical line column tokens = record { line = line; column = column; tokens = tokens }

abbrev pub sound : List Logical → Tokens
sound lines = record { lines = lines; fault = None }

-- a text of one logical line
abbrev pub in_line : List Token → Tokens
in_line tokens = sound (logical 1 0 tokens ∷ [])

-- a text with a fault and no logical line before it
abbrev pub faulty : ℕ → Construct → Tokens
faulty line construct = record { lines = []; fault = Some (line, construct) }
