-- What the functions that cut and read tokens give.
use Rattle.std.specs.Prelude.{◌≡◌, ℕ, Bool, true, false, List, [], ◌∷◌, Option, Some, None, Result, Ok, Err}
use Rattle.std.specs.Borrow.{Bor}
use Rattle.py_cut.specs.Cut as cut
use Rattle.py_expr_shape.specs.declared.fault.ExprFault.{ExprFault}
use Rattle.py_expr_shape.specs.declared.fault.ExprFault.TheVariants.{Refused, Memory}
use Rattle.py_expr_shape.specs.Reads.{Gives}
use Rattle.py_language.specs.declared.token.Token.{Token}
use Rattle.py_grammar.specs.declared.separator.Separator.{Separator}
use Rattle.py_grammar.specs.declared.separator.Separator.TheVariants.{Semicolon, Comma}
use Rattle.py_grammar.specs.Separators.{opened, outside, last_cut, split}

-- the first token is no separator where so many brackets are open, or nothing comes before one
abbrev pub IsNextBefore : Separator → ℕ → List Token → Option (Bor Token × Bor (List Token)) → Type 0
IsNextBefore p depth xs (Some r) = (xs ≡ r.0.now ∷ r.1.now) × (outside p depth r.0.now ≡ false)
IsNextBefore p depth xs None = cut.Stops opened (outside p) depth xs

abbrev pub IsLastCut : Separator → List Token → Option (Bor (List Token) × Bor Token × Bor (List Token)) → Type 0
IsLastCut p xs (Some r) = last_cut p xs ≡ Some (r.0.now, r.1.now, r.2.now)
IsLastCut p xs None = last_cut p xs ≡ None

abbrev pub GivesSlice : Result (Bor (List Token)) ExprFault → Option (List Token) → Type 0
GivesSlice (Ok r) read = read ≡ Some r.now
GivesSlice (Err Refused) read = read ≡ None
GivesSlice (Err Memory) read = Unit {0}

-- the name, if there is one
abbrev pub Named : Option (List ℕ) → Option (Bor (List ℕ)) → Type 0
Named name (Some r) = name ≡ Some r.now
Named name None = name ≡ None

-- a separator between the parts of a list
abbrev pub is_list_separator : Separator → Bool
is_list_separator Semicolon = true
is_list_separator Comma = true
is_list_separator _ = false

-- a function that is called gives what f has
abbrev pub Answers : {T : Type 0} → (List Token → Option T) → (Bor (List Token) → Result T ExprFault → Type 0) → Type 0
Answers f post = (xs : Bor (List Token)) (r : Result _ ExprFault) → post xs r → Gives r (f xs.now)

-- what is after the first token
abbrev pub tail : List Token → List Token
tail [] = []
tail (x ∷ xs) = xs

-- the parts after separators, the first of which is in front
abbrev pub behind : Separator → List Token → List (List Token)
behind p [] = []
behind p (x ∷ xs) = split p xs
