-- The text of the tokens of a line.
use Rattle.std.specs.Prelude.{ℕ, Bool, ◌||◌, List, [], ◌∷◌, ◌++◌}
use Rattle.py_language.specs.declared.token.Token.{Token}
use Rattle.py_language.specs.declared.token.Token.TheVariants as t
use Rattle.py_spelling.specs.Spelling.{spelled, glyphs, space}
use Rattle.py_printer.specs.declared.kinds.Kind.{Kind}
use Rattle.py_printer.specs.declared.kinds.Last.{Last}
use Rattle.py_printer.specs.declared.kinds.Last.TheVariants as last
use Rattle.py_printer.specs.declared.kinds.Place.TheVariants as place
use Rattle.py_printer.specs.declared.pen.Pen.{Pen}
use Rattle.py_printer.specs.Kinds.{kind_of, last_of}
use Rattle.py_printer.specs.Spaces.{wants_space, needs_space, place_after, opened_after}

-- the characters of a token
abbrev pub letters : Token → List ℕ
letters (t.Name n) = n
letters (t.Keyword k) = spelled (t.Keyword k)
letters (t.Int n) = spelled (t.Int n)
letters (t.Str s) = 34 ∷ (glyphs s ++ 34 ∷ [])
letters (t.Mark m) = spelled (t.Mark m)

-- at the start of a line
abbrev pub fresh : List ℕ → Pen
fresh text = record { text = text; last = last.Nothing; place = place.Start; opened = [] }

-- whether a space is before a text of this kind
abbrev pub has_gap : Pen → Kind → List ℕ → Bool
has_gap p kind text = wants_space p.place p.opened kind || needs_space p.last text

abbrev pub ink : Pen → Kind → Last → List ℕ → Pen
ink p kind end text = record {
  text = p.text ++ (space (has_gap p kind text) ++ text);
  last = end;
  place = place_after p.place p.opened kind;
  opened = opened_after p.opened kind;
}

unfoldable pub put : Pen → Token → Pen
put p x = ink p (kind_of x) (last_of x) (letters x)

abbrev pub write : Pen → List Token → Pen
write p [] = p
write p (x ∷ xs) = write (put p x) xs

-- the text of the tokens of a line
abbrev pub text_of : List Token → List ℕ
text_of xs = (write (fresh []) xs).text
