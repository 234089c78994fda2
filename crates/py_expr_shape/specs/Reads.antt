-- What a function that reads gives: exactly what the definition has, unless memory runs out.
use Rattle.std.specs.Prelude.{◌≡◌, ℕ, Bool, true, false, List, [], ◌∷◌, ◌++◌, Option, Some, None, Result, Ok, Err}
use Rattle.std.specs.Borrow.{Bor}
use Rattle.py_language.specs.declared.shape.Shape.{Shape}
use Rattle.py_language.specs.declared.shape.Symbol.{Symbol}
use Rattle.py_language.specs.declared.shape.Atom.TheVariants.{Name}
use Rattle.py_syntax.specs.declared.operator.CmpOp.{CmpOp}
use Rattle.py_language.specs.declared.shape.Bracket.{Bracket}
use Rattle.py_language.specs.declared.shape.Bracket.TheVariants.{Round, Square, Brace}
use Rattle.py_language.specs.declared.shape.Shape.TheVariants as e
use Rattle.py_language.specs.declared.shape.Symbol.TheVariants as symbol
use Rattle.py_language.specs.Trees.{◌>>=◌, shape, deepest, inside, arguments, entry, each, comma_list, comparator, rounded}
use Rattle.py_language.specs.TreesPlaces.{Level, Conditional, Sum}
use Rattle.py_expr_shape.specs.declared.fault.ExprFault.{ExprFault}
use Rattle.py_expr_shape.specs.declared.fault.ExprFault.TheVariants.{Refused, Memory}

abbrev pub Gives : {A : Type 0} → Result A ExprFault → Option A → Type 0
Gives (Ok x) read = read ≡ Some x
Gives (Err Refused) read = read ≡ None
Gives (Err Memory) read = Unit {0}

abbrev pub GivesSlice : Result (Bor (List Symbol)) ExprFault → Option (List Symbol) → Type 0
GivesSlice (Ok r) read = read ≡ Some r.now
GivesSlice (Err Refused) read = read ≡ None
GivesSlice (Err Memory) read = Unit {0}

-- the shape of all the symbols at a level
unfoldable pub whole : Level → List Symbol → Option Shape
whole l xs = shape deepest l xs

-- a function that is called gives what f has
abbrev pub Answers : {T : Type 0} → (List Symbol → Option T) → (Bor (List Symbol) → Result T ExprFault → Type 0) → Type 0
Answers f post = (xs : Bor (List Symbol)) (r : Result _ ExprFault) → post xs r → Gives r (f xs.now)

abbrev pub AnswersEach : {T : Type 0} → (Symbol × List Symbol → Option T) → (Bor Symbol → Bor (List Symbol) → Result T ExprFault → Type 0) → Type 0
AnswersEach f post = (x : Bor Symbol) (xs : Bor (List Symbol)) (r : Result _ ExprFault) → post x xs r → Gives r (f (x.now, xs.now))

abbrev pub has : {A : Type 0} → List A → Bool
has [] = false
has (x ∷ xs) = true

-- a name and `=` in front, with what is after them
abbrev pub named_of : List Symbol → Option (List ℕ × List Symbol)
named_of (symbol.Atom (Name n) ∷ symbol.Equal ∷ xs) = Some (n, xs)
named_of _ = None

abbrev pub IsNamed : List Symbol → Option (Bor (List ℕ) × Bor (List Symbol)) → Type 0
IsNamed xs (Some r) = named_of xs ≡ Some (r.0.now, r.1.now)
IsNamed xs None = named_of xs ≡ None

-- what a group makes of the object before it
abbrev pub on : Shape → Option (Shape → Shape) → Option Shape
on x made = made >>= λ m. Some (m x)

-- a list with these before it
abbrev pub prepend : {T : Type 0} → List T → Option (List T) → Option (List T)
prepend begun rest = rest >>= λ all. Some (begun ++ all)

module _ (part : Level → List Symbol → Option Shape) where
  -- the arguments up to the bracket that closes them
  abbrev pub arguments_in : List Symbol → Option (List (Option (List ℕ) × Shape))
  arguments_in xs = inside Round xs >>= arguments part

  -- a bracket that opens, and arguments
  abbrev pub called : List Symbol → Option (List (Option (List ℕ) × Shape))
  called (symbol.Open Round ∷ xs) = arguments_in xs
  called _ = None

  -- what brackets make of the symbols in them
  abbrev pub display : Bracket → List Symbol → Option Shape
  display Round xs = rounded part xs
  display Square xs = comma_list (part Conditional) xs >>= λ all. Some (e.ListLit all)
  display Brace xs = comma_list (entry part) xs >>= λ all. Some (e.DictLit all)

  -- a comparison, with the operand after it
  abbrev pub comparand : Symbol × List Symbol → Option (CmpOp × Shape)
  comparand p = part Sum p.1 >>= λ x. Some (comparator p.0, x)

  -- the first of several operands, and the others with what is before them
  abbrev pub operands : Level → List Symbol → List (Symbol × List Symbol) → Option (List Shape)
  operands l first pieces = part l first >>= λ x. each (λ p. part l p.1) pieces >>= λ others. Some (x ∷ others)
