-- How the text of each token of an annotation begins and ends.
use Rattle.std.proofs.Common.{◌≡◌, ap, refl, ℕ, true, false, ◌||◌, List, [], ◌∷◌, ◌++◌, arith}
use Rattle.std.specs.Prelude.{◌==◌}
use Rattle.std.specs.List.{list_all}
use Rattle.std.specs.Char.{is_ascii}
use Rattle.std.proofs.lemmas.Bool.Decides.{nat_tests}
use Rattle.py_language.specs.declared.token.Token.TheVariants as t
use Rattle.py_language.specs.declared.token.Keyword.TheVariants as k
use Rattle.py_language.specs.declared.token.Mark.TheVariants as m
use Rattle.py_language.specs.TokensCharacters.{is_letter, is_digit, is_word}
use Rattle.py_language.specs.TokensNames.{is_name}
use Rattle.py_spelling.specs.Spelling.{glyphs, is_sound}
use Rattle.py_printer.specs.Style.{letters}
use Rattle.py_layout.proofs.Good.{and_both}
use Rattle.py_annotation_layout.proofs.Endless.{Starts, Ends}

word_low : (c : ℕ) → is_word c ≡ true → is_ascii c ≡ true
word_low c e = grind (arith, nat_tests, e)

word_inline : (c : ℕ) → is_word c ≡ true → (c == 10) ≡ false
word_inline c e = grind (arith, nat_tests, e)

letter_word : (c : ℕ) → is_letter c ≡ true → is_word c ≡ true
letter_word c e = ap (λ v. v || is_digit c) e

words_end : (c : ℕ) (cs : List ℕ) → is_word c ≡ true → list_all is_word cs ≡ true → Ends (c ∷ cs)
words_end c [] e f = record { front = []; c = c; are = refl; low = word_low c e; inline = word_inline c e }
words_end c (d ∷ ds) e f =
    let two = and_both (is_word d) (list_all is_word ds) f in
    let r = words_end d ds two.0 two.1 in
    record { front = c ∷ r.front; c = r.c; are = ap (λ z. c ∷ z) r.are; low = r.low; inline = r.inline }

name_parts : (n : List ℕ) → is_name n ≡ true → Starts n × Ends n
name_parts [] e = absurd (cc)
name_parts (c ∷ cs) e =
    let two = and_both (is_letter c) (list_all is_word cs) e in
    let w = letter_word c two.0 in
    (record { c = c; more = cs; are = refl; low = word_low c w }, words_end c cs w two.1)

pub name_edges : (n : List ℕ) → is_sound (t.Name n) ≡ true → Starts (letters (t.Name n)) × Ends (letters (t.Name n))
name_edges n e = name_parts n (and_both (is_name n) _ e).0

pub none_starts : Starts (letters (t.Keyword k.NoneLit))
none_starts = record { c = 78; more = 111 ∷ 110 ∷ 101 ∷ []; are = refl; low = refl }

pub none_ends : Ends (letters (t.Keyword k.NoneLit))
none_ends = record { front = 78 ∷ 111 ∷ 110 ∷ []; c = 101; are = refl; low = refl; inline = refl }

pub bracket_ends : Ends (letters (t.Mark m.RightBracket))
bracket_ends = record { front = []; c = 93; are = refl; low = refl; inline = refl }

pub string_starts : (s : List ℕ) → Starts (letters (t.Str s))
string_starts s = record { c = 34; more = glyphs s ++ 34 ∷ []; are = refl; low = refl }

pub string_ends : (s : List ℕ) → Ends (letters (t.Str s))
string_ends s = record { front = 34 ∷ glyphs s; c = 34; are = refl; low = refl; inline = refl }
