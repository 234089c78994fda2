-- Neighbours that the pen puts side by side may touch.
use Rattle.std.proofs.Common.{◌≡◌, ◌∙◌, refl, sym, ap, ℕ, Bool, true, false, ◌||◌, not, List, [], ◌∷◌, nat_eq}
use Rattle.py_language.specs.declared.token.Token.{Token}
use Rattle.py_language.specs.declared.token.Token.TheVariants as t
use Rattle.py_language.specs.declared.token.Mark.{Mark}
use Rattle.py_language.specs.declared.token.Mark.TheVariants as m
use Rattle.py_language.specs.TokensCharacters.{begins, is_digit}
use Rattle.py_language.specs.TokensMarks.{marks}
use Rattle.py_spelling.specs.Spelling.{spelled, quoted, ends_before, may_touch}
use Rattle.py_printer.specs.Kinds.{last_of}
use Rattle.py_printer.specs.Spaces.{goes_on, is_joined, needs_space}
use Rattle.py_printer.specs.Style.{letters}

or_both : (v w : Bool) → (v || w) ≡ false → (v ≡ false) × (w ≡ false)
or_both true w e = absurd (cc)
or_both false w e = (refl, e)

-- a character that no mark but the dot goes on with
record Fresh (c : ℕ) : Type 0 where
  equal : nat_eq c 61 ≡ false
  more : nat_eq c 62 ≡ false
  less : nat_eq c 60 ≡ false
  star : nat_eq c 42 ≡ false
  slash : nat_eq c 47 ≡ false

fresh : (c : ℕ) → is_joined c ≡ false → Fresh c
fresh c h =
    let a = or_both (nat_eq c 61) _ h in
    let b = or_both (nat_eq c 62) _ a.1 in
    let d = or_both (nat_eq c 60) _ b.1 in
    let e = or_both (nat_eq c 42) (nat_eq c 47) d.1 in
    record { equal = a.0; more = b.0; less = d.0; star = e.0; slash = e.1 }

mark_ends : (m : Mark) (c : ℕ) → goes_on (last_of (t.Mark m)) c ≡ false → ends_before (t.Mark m) c ≡ true
unfolding marks
mark_ends m.Plus c h = let f = fresh c h in rw (f.equal) refl
mark_ends m.Minus c h = let f = fresh c h in rw (f.equal, f.more) refl
mark_ends m.Star c h = let f = fresh c h in rw (f.equal, f.star) refl
mark_ends m.DoubleStar c h = let f = fresh c h in rw (f.equal) refl
mark_ends m.Slash c h = let f = fresh c h in rw (f.equal, f.slash) refl
mark_ends m.DoubleSlash c h = let f = fresh c h in rw (f.equal) refl
mark_ends m.Percent c h = let f = fresh c h in rw (f.equal) refl
mark_ends m.At c h = let f = fresh c h in rw (f.equal) refl
mark_ends m.LeftShift c h = let f = fresh c h in rw (f.equal) refl
mark_ends m.RightShift c h = let f = fresh c h in rw (f.equal) refl
mark_ends m.Ampersand c h = let f = fresh c h in rw (f.equal) refl
mark_ends m.Pipe c h = let f = fresh c h in rw (f.equal) refl
mark_ends m.Caret c h = let f = fresh c h in rw (f.equal) refl
mark_ends m.Tilde c h = refl
mark_ends m.Walrus c h = refl
mark_ends m.Less c h = let f = fresh c h in rw (f.equal, f.less) refl
mark_ends m.Greater c h = let f = fresh c h in rw (f.equal, f.more) refl
mark_ends m.LessEqual c h = refl
mark_ends m.GreaterEqual c h = refl
mark_ends m.EqualEqual c h = refl
mark_ends m.NotEqual c h = refl
mark_ends m.LeftParen c h = refl
mark_ends m.RightParen c h = refl
mark_ends m.LeftBracket c h = refl
mark_ends m.RightBracket c h = refl
mark_ends m.LeftBrace c h = refl
mark_ends m.RightBrace c h = refl
mark_ends m.Comma c h = refl
mark_ends m.Colon c h = let f = fresh c h in rw (f.equal) refl
mark_ends m.Dot c h = let two = or_both (nat_eq c 46) (is_digit c) h in rw (two.0, two.1) refl
mark_ends m.Semicolon c h = refl
mark_ends m.Equal c h = let f = fresh c h in rw (f.equal) refl
mark_ends m.Arrow c h = refl
mark_ends m.Ellipsis c h = refl
mark_ends m.PlusEqual c h = refl
mark_ends m.MinusEqual c h = refl
mark_ends m.StarEqual c h = refl
mark_ends m.SlashEqual c h = refl
mark_ends m.DoubleSlashEqual c h = refl
mark_ends m.PercentEqual c h = refl
mark_ends m.AtEqual c h = refl
mark_ends m.AmpersandEqual c h = refl
mark_ends m.PipeEqual c h = refl
mark_ends m.CaretEqual c h = refl
mark_ends m.RightShiftEqual c h = refl
mark_ends m.LeftShiftEqual c h = refl
mark_ends m.DoubleStarEqual c h = refl

token_ends : (a : Token) (c : ℕ) → goes_on (last_of a) c ≡ false → ends_before a c ≡ true
token_ends (t.Name n) c h = ap not h
token_ends (t.Keyword k) c h = ap not h
token_ends (t.Int n) c h = ap not h
token_ends (t.Str s) c h = ap not h
token_ends (t.Mark m) c h = mark_ends m c h

mark_not_nothing : (m : Mark) → needs_space (last_of (t.Mark m)) [] ≡ true
mark_not_nothing m.Plus = refl
mark_not_nothing m.Minus = refl
mark_not_nothing m.Star = refl
mark_not_nothing m.DoubleStar = refl
mark_not_nothing m.Slash = refl
mark_not_nothing m.DoubleSlash = refl
mark_not_nothing m.Percent = refl
mark_not_nothing m.At = refl
mark_not_nothing m.LeftShift = refl
mark_not_nothing m.RightShift = refl
mark_not_nothing m.Ampersand = refl
mark_not_nothing m.Pipe = refl
mark_not_nothing m.Caret = refl
mark_not_nothing m.Tilde = refl
mark_not_nothing m.Walrus = refl
mark_not_nothing m.Less = refl
mark_not_nothing m.Greater = refl
mark_not_nothing m.LessEqual = refl
mark_not_nothing m.GreaterEqual = refl
mark_not_nothing m.EqualEqual = refl
mark_not_nothing m.NotEqual = refl
mark_not_nothing m.LeftParen = refl
mark_not_nothing m.RightParen = refl
mark_not_nothing m.LeftBracket = refl
mark_not_nothing m.RightBracket = refl
mark_not_nothing m.LeftBrace = refl
mark_not_nothing m.RightBrace = refl
mark_not_nothing m.Comma = refl
mark_not_nothing m.Colon = refl
mark_not_nothing m.Dot = refl
mark_not_nothing m.Semicolon = refl
mark_not_nothing m.Equal = refl
mark_not_nothing m.Arrow = refl
mark_not_nothing m.Ellipsis = refl
mark_not_nothing m.PlusEqual = refl
mark_not_nothing m.MinusEqual = refl
mark_not_nothing m.StarEqual = refl
mark_not_nothing m.SlashEqual = refl
mark_not_nothing m.DoubleSlashEqual = refl
mark_not_nothing m.PercentEqual = refl
mark_not_nothing m.AtEqual = refl
mark_not_nothing m.AmpersandEqual = refl
mark_not_nothing m.PipeEqual = refl
mark_not_nothing m.CaretEqual = refl
mark_not_nothing m.RightShiftEqual = refl
mark_not_nothing m.LeftShiftEqual = refl
mark_not_nothing m.DoubleStarEqual = refl

not_nothing : (a : Token) → needs_space (last_of a) [] ≡ true
not_nothing (t.Name n) = refl
not_nothing (t.Keyword k) = refl
not_nothing (t.Int n) = refl
not_nothing (t.Str s) = refl
not_nothing (t.Mark m) = mark_not_nothing m

text_ends : (a : Token) (text : List ℕ) → needs_space (last_of a) text ≡ false → begins (ends_before a) text ≡ true
text_ends a [] h = absurd (clash (not_nothing a) h)
  where
    clash : {v : Bool} → v ≡ true → v ≡ false → ⊥
    clash e f = cc
text_ends a (c ∷ cs) h = token_ends a c h

-- the characters of a token begin as its text does
same_front : (p : ℕ → Bool) (y : Token) → begins p (letters y) ≡ begins p (spelled y)
unfolding quoted
same_front p (t.Name n) = refl
same_front p (t.Keyword k) = refl
same_front p (t.Int n) = refl
same_front p (t.Str s) = refl
same_front p (t.Mark m) = refl

pub touch : (a y : Token) → needs_space (last_of a) (letters y) ≡ false → may_touch a y ≡ true
touch a y h = sym (same_front (ends_before a) y) ∙ text_ends a (letters y) h
