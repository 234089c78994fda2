-- Only brackets open and close.
use Rattle.std.proofs.Common.{◌≡◌, ◌∙◌, ap, refl, ℕ, ◌^◌, ◌<◌, true, false, List, [], ◌∷◌, arith}
use Rattle.std.specs.Prelude.{ℤ, pos, negsuc}
use Rattle.std.specs.List.{list_all}
use Rattle.std.proofs.lemmas.Bool.Decides.{nat_tests}
use Rattle.py_language.specs.declared.token.Token.TheVariants as t
use Rattle.py_language.specs.declared.token.Keyword.{Keyword}
use Rattle.py_language.specs.declared.token.Keyword.TheVariants as k
use Rattle.py_language.specs.declared.token.Mark.{Mark}
use Rattle.py_language.specs.declared.token.Mark.TheVariants as m
use Rattle.py_language.specs.TokensCharacters.{is_letter, is_digit, is_word}
use Rattle.py_language.specs.TokensMarks.{is_opening, is_closing}
use Rattle.py_language.specs.TokensNames.{is_name}
use Rattle.py_spelling.specs.Spelling.{spelled, quoted, is_small, fits_text, open_text, keyword_text, mark_text, is_bracket, OpensNone, OnlyBracketsOpen}
use Rattle.py_spelling.proofs.Longest.{exclusive}
use Rattle.py_spelling.proofs.WordSpelling.{and_both, letter_low, digit_low}
use Rattle.py_spelling.proofs.IntegerSpelling.{numeral}

first_by : (c : ℕ) (cs text : List ℕ) → text ≡ c ∷ cs → is_opening c ≡ false → is_closing c ≡ false → OpensNone text
first_by c cs text e o k = record { fits = λ os. ap (fits_text os) e ∙ rw (o, k) refl; same = λ os. ap (open_text os) e ∙ rw (o, k) refl }

name_plain : (n : List ℕ) → is_name n ≡ true → OpensNone n
name_plain [] e = absurd (cc)
name_plain (c ∷ cs) e =
    let two = and_both (is_letter c) (list_all is_word cs) e in
    first_by c cs (c ∷ cs) refl (exclusive is_letter is_opening refl c (letter_low c two.0) two.0) (exclusive is_letter is_closing refl c (letter_low c two.0) two.0)

integer_plain : (n : ℤ) → is_small n ≡ true → OpensNone (spelled (t.Int n))
integer_plain (pos n) e =
    let lt : n < 2 ^ 127 = grind (arith, nat_tests) in
    let w = numeral n (omega arith) in
    let two = and_both (is_digit w.c) (list_all is_digit w.cs) w.digits in
    first_by w.c w.cs (spelled (t.Int (pos n))) w.are (exclusive is_digit is_opening refl w.c (digit_low w.c two.0) two.0) (exclusive is_digit is_closing refl w.c (digit_low w.c two.0) two.0)
integer_plain (negsuc n) e = absurd (cc)

string_plain : (x : List ℕ) → OpensNone (quoted x)
unfolding quoted
string_plain x = record { fits = λ os. refl; same = λ os. refl }

keyword_plain : (x : Keyword) → OpensNone (keyword_text x)
keyword_plain k.As = record { fits = λ os. refl; same = λ os. refl }
keyword_plain k.If = record { fits = λ os. refl; same = λ os. refl }
keyword_plain k.In = record { fits = λ os. refl; same = λ os. refl }
keyword_plain k.Is = record { fits = λ os. refl; same = λ os. refl }
keyword_plain k.Or = record { fits = λ os. refl; same = λ os. refl }
keyword_plain k.And = record { fits = λ os. refl; same = λ os. refl }
keyword_plain k.Def = record { fits = λ os. refl; same = λ os. refl }
keyword_plain k.Del = record { fits = λ os. refl; same = λ os. refl }
keyword_plain k.For = record { fits = λ os. refl; same = λ os. refl }
keyword_plain k.Not = record { fits = λ os. refl; same = λ os. refl }
keyword_plain k.Try = record { fits = λ os. refl; same = λ os. refl }
keyword_plain k.NoneLit = record { fits = λ os. refl; same = λ os. refl }
keyword_plain k.TrueLit = record { fits = λ os. refl; same = λ os. refl }
keyword_plain k.Elif = record { fits = λ os. refl; same = λ os. refl }
keyword_plain k.Else = record { fits = λ os. refl; same = λ os. refl }
keyword_plain k.From = record { fits = λ os. refl; same = λ os. refl }
keyword_plain k.Pass = record { fits = λ os. refl; same = λ os. refl }
keyword_plain k.With = record { fits = λ os. refl; same = λ os. refl }
keyword_plain k.FalseLit = record { fits = λ os. refl; same = λ os. refl }
keyword_plain k.Async = record { fits = λ os. refl; same = λ os. refl }
keyword_plain k.Await = record { fits = λ os. refl; same = λ os. refl }
keyword_plain k.Break = record { fits = λ os. refl; same = λ os. refl }
keyword_plain k.Class = record { fits = λ os. refl; same = λ os. refl }
keyword_plain k.Raise = record { fits = λ os. refl; same = λ os. refl }
keyword_plain k.While = record { fits = λ os. refl; same = λ os. refl }
keyword_plain k.Yield = record { fits = λ os. refl; same = λ os. refl }
keyword_plain k.Assert = record { fits = λ os. refl; same = λ os. refl }
keyword_plain k.Except = record { fits = λ os. refl; same = λ os. refl }
keyword_plain k.Global = record { fits = λ os. refl; same = λ os. refl }
keyword_plain k.Import = record { fits = λ os. refl; same = λ os. refl }
keyword_plain k.Lambda = record { fits = λ os. refl; same = λ os. refl }
keyword_plain k.Return = record { fits = λ os. refl; same = λ os. refl }
keyword_plain k.Finally = record { fits = λ os. refl; same = λ os. refl }
keyword_plain k.Continue = record { fits = λ os. refl; same = λ os. refl }
keyword_plain k.Nonlocal = record { fits = λ os. refl; same = λ os. refl }

mark_plain : (x : Mark) → is_bracket (t.Mark x) ≡ false → OpensNone (mark_text x)
mark_plain m.Plus e = record { fits = λ os. refl; same = λ os. refl }
mark_plain m.Minus e = record { fits = λ os. refl; same = λ os. refl }
mark_plain m.Star e = record { fits = λ os. refl; same = λ os. refl }
mark_plain m.DoubleStar e = record { fits = λ os. refl; same = λ os. refl }
mark_plain m.Slash e = record { fits = λ os. refl; same = λ os. refl }
mark_plain m.DoubleSlash e = record { fits = λ os. refl; same = λ os. refl }
mark_plain m.Percent e = record { fits = λ os. refl; same = λ os. refl }
mark_plain m.At e = record { fits = λ os. refl; same = λ os. refl }
mark_plain m.LeftShift e = record { fits = λ os. refl; same = λ os. refl }
mark_plain m.RightShift e = record { fits = λ os. refl; same = λ os. refl }
mark_plain m.Ampersand e = record { fits = λ os. refl; same = λ os. refl }
mark_plain m.Pipe e = record { fits = λ os. refl; same = λ os. refl }
mark_plain m.Caret e = record { fits = λ os. refl; same = λ os. refl }
mark_plain m.Tilde e = record { fits = λ os. refl; same = λ os. refl }
mark_plain m.Walrus e = record { fits = λ os. refl; same = λ os. refl }
mark_plain m.Less e = record { fits = λ os. refl; same = λ os. refl }
mark_plain m.Greater e = record { fits = λ os. refl; same = λ os. refl }
mark_plain m.LessEqual e = record { fits = λ os. refl; same = λ os. refl }
mark_plain m.GreaterEqual e = record { fits = λ os. refl; same = λ os. refl }
mark_plain m.EqualEqual e = record { fits = λ os. refl; same = λ os. refl }
mark_plain m.NotEqual e = record { fits = λ os. refl; same = λ os. refl }
mark_plain m.LeftParen e = absurd (cc)
mark_plain m.RightParen e = absurd (cc)
mark_plain m.LeftBracket e = absurd (cc)
mark_plain m.RightBracket e = absurd (cc)
mark_plain m.LeftBrace e = absurd (cc)
mark_plain m.RightBrace e = absurd (cc)
mark_plain m.Comma e = record { fits = λ os. refl; same = λ os. refl }
mark_plain m.Colon e = record { fits = λ os. refl; same = λ os. refl }
mark_plain m.Dot e = record { fits = λ os. refl; same = λ os. refl }
mark_plain m.Semicolon e = record { fits = λ os. refl; same = λ os. refl }
mark_plain m.Equal e = record { fits = λ os. refl; same = λ os. refl }
mark_plain m.Arrow e = record { fits = λ os. refl; same = λ os. refl }
mark_plain m.Ellipsis e = record { fits = λ os. refl; same = λ os. refl }
mark_plain m.PlusEqual e = record { fits = λ os. refl; same = λ os. refl }
mark_plain m.MinusEqual e = record { fits = λ os. refl; same = λ os. refl }
mark_plain m.StarEqual e = record { fits = λ os. refl; same = λ os. refl }
mark_plain m.SlashEqual e = record { fits = λ os. refl; same = λ os. refl }
mark_plain m.DoubleSlashEqual e = record { fits = λ os. refl; same = λ os. refl }
mark_plain m.PercentEqual e = record { fits = λ os. refl; same = λ os. refl }
mark_plain m.AtEqual e = record { fits = λ os. refl; same = λ os. refl }
mark_plain m.AmpersandEqual e = record { fits = λ os. refl; same = λ os. refl }
mark_plain m.PipeEqual e = record { fits = λ os. refl; same = λ os. refl }
mark_plain m.CaretEqual e = record { fits = λ os. refl; same = λ os. refl }
mark_plain m.RightShiftEqual e = record { fits = λ os. refl; same = λ os. refl }
mark_plain m.LeftShiftEqual e = record { fits = λ os. refl; same = λ os. refl }
mark_plain m.DoubleStarEqual e = record { fits = λ os. refl; same = λ os. refl }

pub opens_none : OnlyBracketsOpen
opens_none (t.Name n) e b = name_plain n (and_both (is_name n) _ e).0
opens_none (t.Int n) e b = integer_plain n e
opens_none (t.Str x) e b = string_plain x
opens_none (t.Keyword x) e b = keyword_plain x
opens_none (t.Mark x) e b = mark_plain x b
