-- Where a list of symbols may be cut: at its marks outside brackets, level by level of the grammar.
use Rattle.std.specs.Prelude.{ℕ, suc, pred, Bool, true, false, ◌&&◌, ◌==◌, nat_lt, List, [], ◌∷◌, Option, map}
use Rattle.py_cut.specs.Cut as cut
use Rattle.py_language.specs.declared.shape.Bracket.{Bracket}
use Rattle.py_language.specs.declared.shape.Bracket.TheVariants.{Round, Square, Brace}
use Rattle.py_language.specs.declared.shape.Symbol.{Symbol}
use Rattle.py_language.specs.declared.shape.Symbol.TheVariants.{Atom, Method, Attribute, Sign, Factor, Compare, Or, And, If, Else, Comma, Colon, Open, Close}

-- The levels of the grammar, from the loosest (Language Reference 6.17).
pub data Level : Type 0 where
  -- expressions with commas between them
  Listed : Level
  Conditional : Level
  Disjunction : Level
  Conjunction : Level
  Negation : Level
  Comparison : Level
  Sum : Level
  Product : Level
  Signed : Level
  Postfix : Level

abbrev pub number : Level → ℕ
number Listed = 1
number Conditional = 2
number Disjunction = 3
number Conjunction = 4
number Negation = 5
number Comparison = 6
number Sum = 7
number Product = 8
number Signed = 9
number Postfix = 10

-- Behind some symbols: how many brackets are open, and whether an operand has just ended.
pub record Place : Type 0 where
  pub depth : ℕ
  pub after : Bool

abbrev pub start : Place
start = record { depth = 0; after = false }

abbrev pub opened : ℕ → Symbol → ℕ
opened k (Open b) = suc k
opened k (Close b) = pred k
opened k _ = k

abbrev pub ends : Symbol → Bool
ends (Atom a) = true
ends (Attribute n) = true
ends (Close b) = true
ends _ = false

abbrev pub next : Place → Symbol → Place
next s x = record { depth = opened s.depth x; after = ends x }

-- The level that a symbol is a mark of; 0 for one that ends every expression, and 12 for one that is no mark. A sign,
-- a bracket and a name behind a dot are marks behind an operand alone.
abbrev pub rank : Bool → Symbol → ℕ
rank after (Close b) = 0
rank after Colon = 0
rank after Comma = 1
rank after If = 2
rank after Else = 2
rank after Or = 3
rank after And = 4
rank after (Compare op) = 6
rank true (Sign s) = 7
rank after (Factor op) = 8
rank true (Attribute n) = 10
rank true (Method n) = 10
rank true (Open Round) = 10
rank true (Open Square) = 10
rank _ _ = 12

-- a mark of the level, outside brackets
unfoldable pub at : Level → Place → Symbol → Bool
at l s x = (s.depth == 0) && (rank s.after x == number l)

-- a mark of a looser level, outside brackets
unfoldable pub below : Level → Place → Symbol → Bool
below l s x = (s.depth == 0) && nat_lt (rank s.after x) (number l)

-- the bracket that closes what was opened before the start
unfoldable pub closing : Place → Symbol → Bool
closing s (Close b) = s.depth == 0
closing s _ = false

unfoldable pub colon : Place → Symbol → Bool
colon s Colon = s.depth == 0
colon s _ = false

abbrev pub front : (Place → Symbol → Bool) → List Symbol → List Symbol
front p xs = cut.front next p start xs

abbrev pub back : (Place → Symbol → Bool) → List Symbol → List Symbol
back p xs = cut.back next p start xs

abbrev pub pieces : (Place → Symbol → Bool) → List Symbol → List (Symbol × List Symbol)
pieces p xs = cut.pieces next p start xs

abbrev pub last_cut : (Place → Symbol → Bool) → List Symbol → Option (List Symbol × Symbol × List Symbol)
last_cut p xs = cut.last_cut next p start xs

-- the parts between the marks of a level
abbrev pub split : Level → List Symbol → List (List Symbol)
split l xs = front (at l) xs ∷ map (λ p. p.1) (pieces (at l) xs)

-- without an empty part behind the last mark
abbrev pub trimmed : List (List Symbol) → List (List Symbol)
trimmed [] = []
trimmed ([] ∷ []) = []
trimmed (x ∷ xs) = x ∷ trimmed xs

abbrev pub is_same : Bracket → Bracket → Bool
is_same Round Round = true
is_same Square Square = true
is_same Brace Brace = true
is_same _ _ = false
