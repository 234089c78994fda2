-- What holds of every text, in words of its own: how it is cut, and how its logical lines are numbered.
use Rattle.std.specs.Prelude.{◌≡◌, ℕ, ◌+◌, ◌<◌, ◌≤◌, ◌⊎◌, Bool, true, false, List, [], ◌∷◌, length, take, drop, Option, Some, None}
use Rattle.py_language.specs.declared.token.Logical.{Logical}
use Rattle.py_language.specs.TokensCharacters.{is_quote}
use Rattle.py_language.specs.TokensStrings.{string_len}
use Rattle.py_language.specs.TokensPieces.{spells}

-- a front of a text that spells something, and no longer front does
pub record SpellsLongest (piece text : List ℕ) : Type 0 where
  pub front : piece ≡ take (length piece) text
  pub within : length piece ≤ length text
  pub some : 0 < length piece
  pub spelt : spells piece ≡ true
  pub longest : (n : ℕ) → length piece < n → n ≤ length text → spells (take n text) ≡ false

-- the first character of a text of which no front spells something
pub record StandsAlone (piece text : List ℕ) : Type 0 where
  pub front : piece ≡ take 1 text
  pub nothing : (n : ℕ) → 0 < n → n ≤ length text → spells (take n text) ≡ false

-- a string up to its first closing quotes, or else its first quote
abbrev pub EndsAt : List ℕ → List ℕ → Option ℕ → Type 0
EndsAt piece text None = piece ≡ take 1 text
EndsAt piece text (Some n) = piece ≡ take n text

abbrev pub IsPieceBy : Bool → List ℕ → ℕ → List ℕ → Type 0
IsPieceBy true piece c cs = EndsAt piece (c ∷ cs) (string_len c cs)
IsPieceBy false piece c cs = SpellsLongest piece (c ∷ cs) ⊎ StandsAlone piece (c ∷ cs)

-- the piece at the front of a text, whose first character is c
abbrev pub IsPiece : List ℕ → ℕ → List ℕ → Type 0
IsPiece piece c cs = IsPieceBy (is_quote c) piece c cs

-- a text is cut into these pieces
abbrev pub IsCut : List (List ℕ) → List ℕ → Type 0
IsCut [] text = text ≡ []
IsCut (piece ∷ pieces) [] = ⊥
IsCut (piece ∷ pieces) (c ∷ cs) = IsPiece piece c cs × IsCut pieces (drop (length piece) (c ∷ cs))

-- the numbers of logical lines ascend, from one on and below another
abbrev pub InOrder : ℕ → ℕ → List Logical → Type 0
InOrder low high [] = low ≤ high
InOrder low high (l ∷ ls) = (low ≤ l.line) × InOrder (l.line + 1) high ls
