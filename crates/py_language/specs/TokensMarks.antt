-- Operators and delimiters (Language Reference 2.5 and 2.6), and `...`.
use Rattle.std.specs.Prelude.{ℕ, Bool, ◌&&◌, ◌||◌, ◌==◌, List, [], ◌∷◌, Option, codes, is_some}
use Rattle.py_language.specs.declared.token.Mark.{Mark}
use Rattle.py_language.specs.declared.token.Mark.TheVariants as m
use Rattle.py_language.specs.TokensNames.{listed}

unfoldable pub marks : List (List ℕ × Mark)
marks =
    (codes "+", m.Plus) ∷ (codes "-", m.Minus) ∷ (codes "*", m.Star) ∷ (codes "**", m.DoubleStar) ∷ (codes "/", m.Slash) ∷ (codes "//", m.DoubleSlash)
    ∷ (codes "%", m.Percent) ∷ (codes "@", m.At) ∷ (codes "<<", m.LeftShift) ∷ (codes ">>", m.RightShift) ∷ (codes "&", m.Ampersand)
    ∷ (codes "|", m.Pipe) ∷ (codes "^", m.Caret) ∷ (codes "~", m.Tilde) ∷ (codes ":=", m.Walrus) ∷ (codes "<", m.Less) ∷ (codes ">", m.Greater)
    ∷ (codes "<=", m.LessEqual) ∷ (codes ">=", m.GreaterEqual) ∷ (codes "==", m.EqualEqual) ∷ (codes "!=", m.NotEqual)
    ∷ (codes "(", m.LeftParen) ∷ (codes ")", m.RightParen) ∷ (codes "[", m.LeftBracket) ∷ (codes "]", m.RightBracket)
    ∷ (codes "{", m.LeftBrace) ∷ (codes "}", m.RightBrace) ∷ (codes ",", m.Comma) ∷ (codes ":", m.Colon) ∷ (codes ".", m.Dot)
    ∷ (codes ";", m.Semicolon) ∷ (codes "=", m.Equal) ∷ (codes "->", m.Arrow) ∷ (codes "...", m.Ellipsis) ∷ (codes "+=", m.PlusEqual)
    ∷ (codes "-=", m.MinusEqual) ∷ (codes "*=", m.StarEqual) ∷ (codes "/=", m.SlashEqual) ∷ (codes "//=", m.DoubleSlashEqual)
    ∷ (codes "%=", m.PercentEqual) ∷ (codes "@=", m.AtEqual) ∷ (codes "&=", m.AmpersandEqual) ∷ (codes "|=", m.PipeEqual)
    ∷ (codes "^=", m.CaretEqual) ∷ (codes ">>=", m.RightShiftEqual) ∷ (codes "<<=", m.LeftShiftEqual) ∷ (codes "**=", m.DoubleStarEqual) ∷ []

-- the mark that a text is
unfoldable pub mark_of : List ℕ → Option Mark
mark_of text = listed marks text

abbrev pub is_mark : List ℕ → Bool
is_mark text = is_some (mark_of text)

-- ---- brackets, by their characters

abbrev pub is_opening : ℕ → Bool
is_opening c = c == 40 || (c == 91 || c == 123)

abbrev pub is_closing : ℕ → Bool
is_closing c = c == 41 || (c == 93 || c == 125)

-- whether the closing bracket c matches the opening bracket o
abbrev pub closes : ℕ → ℕ → Bool
closes c o = (o == 40 && c == 41) || ((o == 91 && c == 93) || (o == 123 && c == 125))
