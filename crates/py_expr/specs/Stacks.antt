-- Words on the front of a list of symbols, and the end of a list of tokens.
use Rattle.std.specs.Prelude.{◌≡◌, ◌⊎◌, ℕ, Bool, true, false, List, [], ◌∷◌, ◌++◌, Option, Some, None}
use Rattle.std.specs.Borrow.{Bor}
use Rattle.py_language.specs.declared.shape.Atom.TheVariants.{StrLit}
use Rattle.py_language.specs.declared.shape.Bracket.TheVariants.{Round}
use Rattle.py_language.specs.declared.shape.Symbol.{Symbol}
use Rattle.py_language.specs.declared.shape.Symbol.TheVariants.{Atom, Super, Not, Compare, Open, Close, Method}
use Rattle.py_language.specs.declared.token.Mark.TheVariants.{Dot}
use Rattle.py_language.specs.declared.token.Token.{Token}
use Rattle.py_language.specs.declared.token.Token.TheVariants as token
use Rattle.py_language.specs.TreesSymbols.{symbol, join, attribute}
use Rattle.py_syntax.specs.declared.operator.CmpOp.TheVariants.{Contained}

pub record Begins (x : Symbol) (xs : List Symbol) : Type 0 where
  pub rest : List Symbol
  pub is : xs ≡ x ∷ rest

abbrev pub begins_in : List Symbol → Bool
begins_in (Compare Contained ∷ xs) = true
begins_in _ = false

abbrev pub begins_not : List Symbol → Bool
begins_not (Not ∷ xs) = true
begins_not _ = false

abbrev pub begins_opened : List Symbol → Bool
begins_opened (Open Round ∷ xs) = true
begins_opened _ = false

-- brackets with nothing in them, and a method's name
abbrev pub begins_called : List Symbol → Bool
begins_called (Open Round ∷ Close Round ∷ Method m ∷ xs) = true
begins_called _ = false

-- two symbols and a method's name are made one
abbrev pub SuperOf : List Symbol → List Symbol → Type 0
SuperOf old new = (a : Symbol) × (b : Symbol) × (n : List ℕ) × (xs : List Symbol) × (old ≡ a ∷ b ∷ Method n ∷ xs) × (new ≡ Super n ∷ xs)

-- a string is taken from the front, or none is there
abbrev pub Strings : List Symbol → List Symbol → Option (List ℕ) → Type 0
Strings old new (Some s) = old ≡ Atom (StrLit s) ∷ new
Strings old new None = (old ≡ new) × ((s : List ℕ) (xs : List Symbol) → old ≡ Atom (StrLit s) ∷ xs → ⊥)

-- the tokens end with a dot, and these are before it
abbrev pub Undots : List Token → Option (Bor (List Token)) → Type 0
Undots xs (Some r) = xs ≡ r.now ++ token.Mark Dot ∷ []
Undots xs None = (ys : List Token) → xs ≡ ys ++ token.Mark Dot ∷ [] → ⊥

-- the tokens end with a string, and these are before it
abbrev pub Unquotes : List Token → Option (Bor (List Token)) → Type 0
Unquotes xs (Some r) = (s : List ℕ) × (xs ≡ r.now ++ token.Str s ∷ [])
Unquotes xs None = Unit {0}

abbrev pub AreStrings : List Token → Type 0
AreStrings [] = Unit {0}
AreStrings (token.Str s ∷ xs) = AreStrings xs
AreStrings (_ ∷ xs) = ⊥

abbrev pub text_of : Token → List ℕ
text_of (token.Str s) = s
text_of _ = []

-- the texts of strings, one after another, and then a last one
abbrev pub glued : List Token → List ℕ → List ℕ
glued [] last = last
glued (x ∷ xs) last = text_of x ++ glued xs last

-- the symbols after one more token, and what is before it
abbrev pub PushedAlone : List Token → Token → List Symbol → List Symbol → List Token → Type 0
PushedAlone before x old new rest = (rest ≡ before) × (new ≡ join (symbol x) old) × ((n : List ℕ) → x ≡ token.Name n → (ys : List Token) → before ≡ ys ++ token.Mark Dot ∷ [] → ⊥)

-- a name, with the dot before it
abbrev pub PushedDotted : List Token → Token → List Symbol → List Symbol → List Token → Type 0
PushedDotted before x old new rest = (n : List ℕ) × (x ≡ token.Name n) × (before ≡ rest ++ token.Mark Dot ∷ []) × (new ≡ attribute n old)

-- a string, with strings before it
abbrev pub PushedStrings : List Token → Token → List Symbol → List Symbol → List Token → Type 0
PushedStrings before x old new rest = (s : List ℕ) × (strings : List Token) × (x ≡ token.Str s) × (before ≡ rest ++ strings) × AreStrings strings × (new ≡ join (Atom (StrLit (glued strings s))) old)

abbrev pub Pushed : List Token → Token → List Symbol → List Symbol → List Token → Type 0
Pushed before x old new rest = PushedAlone before x old new rest ⊎ PushedDotted before x old new rest ⊎ PushedStrings before x old new rest
