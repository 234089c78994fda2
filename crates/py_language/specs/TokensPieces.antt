-- How a text is cut into pieces: tokens, runs of blanks, comments and line ends (Language Reference 2.1 and 2.2).
use Rattle.std.specs.Prelude.{ℕ, zero, suc, ◌-◌, Bool, false, not, ◌&&◌, ◌||◌, if◌then◌else◌, ◌==◌, List, [], ◌∷◌, length, take, Option, Some, None, bytes_eq}
use Rattle.std.specs.List.{list_all}
use Rattle.py_language.specs.TokensCharacters.{is_blank, is_quote}
use Rattle.py_language.specs.TokensNames.{is_name}
use Rattle.py_language.specs.TokensNumbers.{is_integer}
use Rattle.py_language.specs.TokensStrings.{string_len}
use Rattle.py_language.specs.TokensMarks.{is_mark}

-- spaces and tabs
abbrev pub are_blanks : List ℕ → Bool
are_blanks [] = false
are_blanks (c ∷ cs) = is_blank c && list_all is_blank cs

-- a comment runs from `#` to the line's end
abbrev pub is_comment : List ℕ → Bool
is_comment [] = false
is_comment (c ∷ cs) = c == 35 && list_all (λ d. not (d == 10)) cs

abbrev pub is_line_end : List ℕ → Bool
is_line_end text = bytes_eq text (10 ∷ [])

-- what all of a text spells: a name, a number, a mark, blanks, a comment or a line end
unfoldable pub spells : List ℕ → Bool
spells text = is_name text || (is_integer text || (is_mark text || (are_blanks text || (is_comment text || is_line_end text))))

-- the length of the longest front of at most n characters that spells something, or 0
abbrev pub longest_within : ℕ → List ℕ → ℕ
longest_within zero text = 0
longest_within (suc n) text = if spells (take (suc n) text) then suc n else longest_within n text

unfoldable pub longest : List ℕ → ℕ
longest text = longest_within (length text) text

-- a character at which nothing begins is a piece by itself
abbrev pub at_least_one : ℕ → ℕ
at_least_one zero = 1
at_least_one (suc n) = suc n

abbrev pub or_one : Option ℕ → ℕ
or_one None = 1
or_one (Some n) = n

-- The length of the piece at the front of a text, whose first character is c: a string ends at its first closing quotes, and
-- nothing else could be longer. An opening quote whose string is not closed is a piece by itself.
unfoldable pub piece_len : ℕ → List ℕ → ℕ
piece_len c cs = if is_quote c then or_one (string_len c cs) else at_least_one (longest (c ∷ cs))

-- the pieces of a text, whose first n characters belong to the piece before
abbrev pub pieces_behind : ℕ → List ℕ → List (List ℕ)
pieces_behind n [] = []
pieces_behind (suc n) (c ∷ cs) = pieces_behind n cs
pieces_behind zero (c ∷ cs) = take (piece_len c cs) (c ∷ cs) ∷ pieces_behind (piece_len c cs - 1) cs

unfoldable pub pieces_of : List ℕ → List (List ℕ)
pieces_of text = pieces_behind 0 text
