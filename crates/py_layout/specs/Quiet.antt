-- Tokens that a line isn't cut in: their brackets close, and none of the separators stands in them outside brackets.
use Rattle.std.specs.Prelude.{◌≡◌, ℕ, Bool, true, false, ◌||◌, nat_lt, List, Some}
use Rattle.py_cut.specs.Cut.{scan, Passes}
use Rattle.py_language.specs.declared.token.Token.{Token}
use Rattle.py_language.specs.TreesPlaces.{Level}
use Rattle.py_language.specs.Trees.{tree_at}
use Rattle.py_syntax.specs.declared.expr.Expr.{Expr}
use Rattle.py_grammar.specs.declared.separator.Separator.{Separator}
use Rattle.py_grammar.specs.declared.separator.Separator.TheVariants.{Part, In}
use Rattle.py_grammar.specs.Separators.{opened, outside}
use Rattle.py_printing.specs.Expressions.{expr_tokens}

-- the separators that no expression has outside brackets: `in`, a dot and a square bracket may stand there
abbrev pub is_strict : Separator → Bool
is_strict Part = false
is_strict In = false
is_strict _ = true

-- a separator that doesn't stand in an expression where so many brackets are open
abbrev pub is_absent : Separator → ℕ → Bool
is_absent p depth = is_strict p || nat_lt 0 depth

pub record QuietAt (depth : ℕ) (ts : List Token) : Type 0 where
  pub closes : scan opened depth ts ≡ depth
  pub passes : (p : Separator) → is_absent p depth ≡ true → Passes opened (outside p) depth ts

abbrev pub Quiet : List Token → Type 0
Quiet ts = (depth : ℕ) → QuietAt depth ts

-- an expression that any tokens are read as is quiet
abbrev pub ExpressionsAreQuiet : Type 0
ExpressionsAreQuiet = (l : Level) (ts : List Token) (x : Expr) → tree_at l ts ≡ Some x → Quiet (expr_tokens l x)
