-- Where symbols are cut: each separator is a test of the grammar's definition.
use Rattle.std.specs.Prelude.{◌≡◌, ◌≢◌, ℕ, Bool, true, false, List, [], ◌∷◌, Option, Some, None}
use Rattle.std.specs.Borrow.{Bor}
use Rattle.py_language.specs.declared.shape.Symbol.{Symbol}
use Rattle.py_cut.specs.Cut as cut
use Rattle.py_language.specs.declared.shape.Symbol.TheVariants as symbol
use Rattle.py_syntax.specs.declared.operator.Sign.{Sign}
use Rattle.py_language.specs.TreesPlaces.{Listed, Disjunction, Conjunction, Comparison, Sum, Product, Postfix, Place, next, at, below, closing, colon, front, back, pieces, last_cut}
use Rattle.py_expr_shape.specs.declared.cut.Separator.{Separator}
use Rattle.py_expr_shape.specs.declared.cut.Separator.TheVariants as separator

abbrev pub place : ℕ → Bool → Place
place depth after = record { depth = depth; after = after }

abbrev pub separates : Separator → Place → Symbol → Bool
separates separator.Closing = closing
separates separator.Colon = colon
separates separator.Comma = at Listed
separates separator.Conditional = below Disjunction
separates separator.Or = at Disjunction
separates separator.And = at Conjunction
separates separator.Comparison = at Comparison
separates separator.Sign = at Sum
separates separator.Factor = at Product
separates separator.Operator = below Postfix
separates separator.Group = at Postfix

abbrev pub IsLastCut : Separator → List Symbol → Option (Bor (List Symbol) × Bor Symbol × Bor (List Symbol)) → Type 0
IsLastCut p xs (Some r) = last_cut (separates p) xs ≡ Some (r.0.now, r.1.now, r.2.now)
IsLastCut p xs None = last_cut (separates p) xs ≡ None

-- after it an operand begins
abbrev pub begins_anew : Separator → Bool
begins_anew separator.Comma = true
begins_anew separator.Or = true
begins_anew separator.And = true
begins_anew separator.Comparison = true
begins_anew _ = false

-- the first symbol is no separator at the place, or nothing comes before one
abbrev pub IsNextBefore : Separator → Place → List Symbol → Option (Bor Symbol × Bor (List Symbol)) → Type 0
IsNextBefore p s xs (Some r) = (xs ≡ r.0.now ∷ r.1.now) × (separates p s r.0.now ≡ false)
IsNextBefore p s xs None = cut.Stops next (separates p) s xs

-- the symbol is not in front
abbrev pub NotAhead : Symbol → List Symbol → Type 0
NotAhead x [] = Unit {0}
NotAhead x (y ∷ ys) = y ≢ x

-- the symbol is in front, and these are after it
abbrev pub Eats : Symbol → List Symbol → Option (Bor (List Symbol)) → Type 0
Eats x xs (Some r) = xs ≡ x ∷ r.now
Eats x xs None = NotAhead x xs

-- the parts after separators, the first of which is in front
abbrev pub pieces_from : Separator → List Symbol → List (Symbol × List Symbol)
pieces_from p [] = []
pieces_from p (y ∷ ys) = (y, front (separates p) ys) ∷ pieces (separates p) ys

-- what is after the first symbol
abbrev pub tail : List Symbol → List Symbol
tail [] = []
tail (y ∷ ys) = ys

-- no sign is in front
abbrev pub NoSign : List Symbol → Type 0
NoSign [] = Unit {0}
NoSign (y ∷ ys) = (g : Sign) → y ≢ symbol.Sign g

-- a sign is in front, and these are after it
abbrev pub EatsSign : List Symbol → Option (Sign × Bor (List Symbol)) → Type 0
EatsSign xs (Some r) = xs ≡ symbol.Sign r.0 ∷ r.1.now
EatsSign xs None = NoSign xs

abbrev pub IsColonCut : List Symbol → Option (Bor (List Symbol) × Bor (List Symbol)) → Type 0
IsColonCut xs (Some r) = (front colon xs ≡ r.0.now) × (back colon xs ≡ symbol.Colon ∷ r.1.now)
IsColonCut xs None = back colon xs ≡ []

-- no operator is outside brackets
pub record IsPrimary (xs : List Symbol) : Type 0 where
  pub no_operator : back (below Postfix) xs ≡ []
  pub no_sign : NoSign xs
  pub no_not : NotAhead symbol.Not xs
