-- The texts of keywords and marks are ASCII, so that their characters are their bytes.
use Rattle.std.proofs.Common.{◌≡◌, refl, ℕ, zero, suc, ◌<◌, Bool, true, false, ◌&&◌, List, [], ◌∷◌, chars, arith}
use Rattle.std.specs.List.{list_all}
use Rattle.std.specs.Char.{is_ascii}
use Rattle.std.specs.Str.{IsAscii}
use Rattle.std.proofs.lemmas.Bool.{false≢true}
use Rattle.std.proofs.lemmas.Bool.Decides.{nat_tests}
use Rattle.std.proofs.lemmas.Str.{chars-IsAscii}
use Rattle.py_language.specs.declared.token.Keyword.{Keyword}
use Rattle.py_language.specs.declared.token.Keyword.TheVariants as k
use Rattle.py_language.specs.declared.token.Mark.{Mark}
use Rattle.py_language.specs.declared.token.Mark.TheVariants as m
use Rattle.py_spelling.specs.Spelling.{keyword_text, mark_text}

and_both : (v w : Bool) → (v && w) ≡ true → (v ≡ true) × (w ≡ true)
and_both true w e = (refl, e)
and_both false w e = absurd (false≢true e)

below : (b : ℕ) → is_ascii b ≡ true → b < 128
below b e = grind (arith, nat_tests, e)

pub IsAscii-list_all : (bs : List ℕ) → list_all is_ascii bs ≡ true → IsAscii bs
IsAscii-list_all [] e i = omega arith
IsAscii-list_all (b ∷ bs) e zero = below b (and_both (is_ascii b) (list_all is_ascii bs) e).0
IsAscii-list_all (b ∷ bs) e (suc i) = IsAscii-list_all bs (and_both (is_ascii b) (list_all is_ascii bs) e).1 i

pub chars_of_ascii : (bs : List ℕ) → list_all is_ascii bs ≡ true → chars bs ≡ bs
chars_of_ascii bs e = chars-IsAscii bs (IsAscii-list_all bs e)

pub keyword_ascii : (k : Keyword) → list_all is_ascii (keyword_text k) ≡ true
keyword_ascii k.As = refl
keyword_ascii k.If = refl
keyword_ascii k.In = refl
keyword_ascii k.Is = refl
keyword_ascii k.Or = refl
keyword_ascii k.And = refl
keyword_ascii k.Def = refl
keyword_ascii k.Del = refl
keyword_ascii k.For = refl
keyword_ascii k.Not = refl
keyword_ascii k.Try = refl
keyword_ascii k.NoneLit = refl
keyword_ascii k.TrueLit = refl
keyword_ascii k.Elif = refl
keyword_ascii k.Else = refl
keyword_ascii k.From = refl
keyword_ascii k.Pass = refl
keyword_ascii k.With = refl
keyword_ascii k.FalseLit = refl
keyword_ascii k.Async = refl
keyword_ascii k.Await = refl
keyword_ascii k.Break = refl
keyword_ascii k.Class = refl
keyword_ascii k.Raise = refl
keyword_ascii k.While = refl
keyword_ascii k.Yield = refl
keyword_ascii k.Assert = refl
keyword_ascii k.Except = refl
keyword_ascii k.Global = refl
keyword_ascii k.Import = refl
keyword_ascii k.Lambda = refl
keyword_ascii k.Return = refl
keyword_ascii k.Finally = refl
keyword_ascii k.Continue = refl
keyword_ascii k.Nonlocal = refl

pub mark_ascii : (m : Mark) → list_all is_ascii (mark_text m) ≡ true
mark_ascii m.Plus = refl
mark_ascii m.Minus = refl
mark_ascii m.Star = refl
mark_ascii m.DoubleStar = refl
mark_ascii m.Slash = refl
mark_ascii m.DoubleSlash = refl
mark_ascii m.Percent = refl
mark_ascii m.At = refl
mark_ascii m.LeftShift = refl
mark_ascii m.RightShift = refl
mark_ascii m.Ampersand = refl
mark_ascii m.Pipe = refl
mark_ascii m.Caret = refl
mark_ascii m.Tilde = refl
mark_ascii m.Walrus = refl
mark_ascii m.Less = refl
mark_ascii m.Greater = refl
mark_ascii m.LessEqual = refl
mark_ascii m.GreaterEqual = refl
mark_ascii m.EqualEqual = refl
mark_ascii m.NotEqual = refl
mark_ascii m.LeftParen = refl
mark_ascii m.RightParen = refl
mark_ascii m.LeftBracket = refl
mark_ascii m.RightBracket = refl
mark_ascii m.LeftBrace = refl
mark_ascii m.RightBrace = refl
mark_ascii m.Comma = refl
mark_ascii m.Colon = refl
mark_ascii m.Dot = refl
mark_ascii m.Semicolon = refl
mark_ascii m.Equal = refl
mark_ascii m.Arrow = refl
mark_ascii m.Ellipsis = refl
mark_ascii m.PlusEqual = refl
mark_ascii m.MinusEqual = refl
mark_ascii m.StarEqual = refl
mark_ascii m.SlashEqual = refl
mark_ascii m.DoubleSlashEqual = refl
mark_ascii m.PercentEqual = refl
mark_ascii m.AtEqual = refl
mark_ascii m.AmpersandEqual = refl
mark_ascii m.PipeEqual = refl
mark_ascii m.CaretEqual = refl
mark_ascii m.RightShiftEqual = refl
mark_ascii m.LeftShiftEqual = refl
mark_ascii m.DoubleStarEqual = refl

pub keyword_chars : (k : Keyword) → chars (keyword_text k) ≡ keyword_text k
keyword_chars k = chars_of_ascii (keyword_text k) (keyword_ascii k)

pub mark_chars : (m : Mark) → chars (mark_text m) ≡ mark_text m
mark_chars m = chars_of_ascii (mark_text m) (mark_ascii m)
