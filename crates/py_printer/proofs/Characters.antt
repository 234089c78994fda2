-- The text of a line is characters of Unicode.
use Rattle.std.proofs.Common.{◌≡◌, ◌∙◌, refl, ap, ℕ, suc, ◌<◌, zero, Bool, true, false, List, [], ◌∷◌, ◌++◌, arith}
use Rattle.std.specs.Prelude.{decimal, nat_abs}
use Rattle.std.specs.List.{list_all}
use Rattle.std.specs.Char.{is_ascii}
use Rattle.std.specs.Str.{IsAscii, all_scalars}
use lib.Utf8.{scalar, low_scalar}
use Rattle.py_language.specs.declared.token.Token.{Token}
use Rattle.py_language.specs.declared.token.Token.TheVariants as t
use Rattle.py_language.specs.TokensNames.{is_name}
use Rattle.py_spelling.specs.Spelling.{keyword_text, mark_text, glyphs, space, is_sound, GlyphsAreCharacters}
use Rattle.py_printer.specs.declared.pen.Pen.{Pen}
use Rattle.py_printer.specs.Lines.{TextsAreCharacters}
use Rattle.py_printer.specs.Style.{letters, fresh, put, write}
use Rattle.py_printer.proofs.Ascii.{IsAscii-list_all, keyword_ascii, mark_ascii}
use Rattle.py_printer.proofs.ReadBack.{and_both, name_ascii, number_ascii, gap, put_text}

append : (xs ys : List ℕ) → all_scalars xs ≡ true → all_scalars ys ≡ true → all_scalars (xs ++ ys) ≡ true
append [] ys e f = f
append (x ∷ xs) ys e f = let two = and_both (scalar x) (all_scalars xs) e in rw two.0 (append xs ys two.1 f)

of_ascii : (bs : List ℕ) → IsAscii bs → all_scalars bs ≡ true
of_ascii [] h = refl
of_ascii (b ∷ bs) h =
    let low : b < 128 = h zero in
    rw (low_scalar b (omega arith)) (of_ascii bs (λ i. h (suc i)))

all_ascii : (bs : List ℕ) → list_all is_ascii bs ≡ true → all_scalars bs ≡ true
all_ascii bs e = of_ascii bs (IsAscii-list_all bs e)

module _ (strings : GlyphsAreCharacters) where
  token_scalars : (y : Token) → is_sound y ≡ true → all_scalars (letters y) ≡ true
  token_scalars (t.Name n) e = all_ascii n (name_ascii n (and_both (is_name n) _ e).0)
  token_scalars (t.Keyword k) e = all_ascii (keyword_text k) (keyword_ascii k)
  token_scalars (t.Int n) e = of_ascii (decimal (nat_abs n)) (number_ascii n e)
  token_scalars (t.Str s) e = append (glyphs s) (34 ∷ []) (strings s e) refl
  token_scalars (t.Mark m) e = all_ascii (mark_text m) (mark_ascii m)

  space_scalars : (v : Bool) → all_scalars (space v) ≡ true
  space_scalars true = refl
  space_scalars false = refl

  line_scalars : (p : Pen) (ts : List Token) → list_all is_sound ts ≡ true → all_scalars p.text ≡ true → all_scalars (write p ts).text ≡ true
  line_scalars p [] s e = e
  line_scalars p (y ∷ ys) s e =
      let two = and_both (is_sound y) (list_all is_sound ys) s in
      line_scalars (put p y) ys two.1
      (ap all_scalars (put_text p y) ∙ append p.text (space (gap p y) ++ letters y) e (append (space (gap p y)) (letters y) (space_scalars (gap p y)) (token_scalars y two.0)))

  pub texts_are_characters : TextsAreCharacters
  texts_are_characters ts s = line_scalars (fresh []) ts s refl
