-- Words for the worked examples of refusals.
use Rattle.std.specs.Prelude.{ℕ, List, [], ◌∷◌, Result, Err}
use Rattle.pyn_base.specs.declared.construct.Construct.{Construct}
use Rattle.py_language.specs.declared.token.Logical.{Logical}
use Rattle.py_language.specs.declared.token.Token.{Token}
use Rattle.py_language.specs.declared.token.Token.TheVariants as t
use Rattle.py_language.specs.declared.token.Keyword.{Keyword}
use Rattle.py_language.specs.declared.token.Keyword.TheVariants as k
use Rattle.py_language.specs.declared.token.Mark.TheVariants as m
use Rattle.py_syntax.specs.declared.refusal.Refusal.{Refusal}
use Rattle.py_syntax.specs.declared.refusal.Refusal.TheVariants.{Refused}

abbrev pub a : Token
a = t.Name (97 ∷ [])

abbrev pub at : ℕ → ℕ → List Token → Logical
at line column tokens = record { line = line; column = column; tokens = tokens }

abbrev pub pass : List Token
pass = t.Keyword k.Pass ∷ []

-- a keyword and a colon
abbrev pub header : Keyword → List Token
header word = t.Keyword word ∷ t.Mark m.Colon ∷ []

-- with its block on the line
abbrev pub headed : Keyword → List Token
headed word = t.Keyword word ∷ t.Mark m.Colon ∷ pass

abbrev pub def : List Token
def = t.Keyword k.Def ∷ a ∷ t.Mark m.LeftParen ∷ t.Mark m.RightParen ∷ t.Mark m.Colon ∷ []

abbrev pub class : List Token
class = t.Keyword k.Class ∷ a ∷ t.Mark m.Colon ∷ []

abbrev pub refused : {A : Type 0} → ℕ → Construct → Result A Refusal
refused line construct = Err (Refused line construct)
