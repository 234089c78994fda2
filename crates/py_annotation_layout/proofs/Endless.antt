-- The text of a line's tokens is read as the line too where it has no line end.
use Rattle.std.proofs.Common.{◌≡◌, ◌∙◌, sym, ap, refl, subst, ℕ, Bool, true, false, List, [], ◌∷◌, ◌++◌, Some, append-nil, append_assoc, encode_utf8_all, arith}
use Rattle.std.specs.Prelude.{◌==◌, nat_lt, if◌then◌else◌}
use lib.Utf8.{encode}
use Rattle.std.specs.List.{list_all}
use Rattle.std.specs.Char.{is_ascii}
use Rattle.std.proofs.lemmas.Bool.Decides.{nat_tests}
use Rattle.std.proofs.lemmas.Str.{encodes-append}
use Rattle.py_language.specs.declared.token.Token.{Token}
use Rattle.py_language.specs.declared.token.Tokens.{Tokens}
use Rattle.py_language.specs.Tokens.{tokens_of, tokens_behind}
use Rattle.py_language.specs.TokensCharacters.{has_order_mark, missing_end, with_line_feeds, lines_of}
use Rattle.py_language.specs.TokensPieces.{pieces_of}
use Rattle.py_grammar.specs.Annotations.{lone, line_in}
use Rattle.py_spelling.specs.Spelling.{is_sound, is_balanced, space}
use Rattle.py_printer.specs.declared.kinds.Kind.TheVariants as is
use Rattle.py_printer.specs.declared.pen.Pen.{Pen}
use Rattle.py_printer.specs.Kinds.{kind_of}
use Rattle.py_printer.specs.Lines.{Line, has_tokens, is_line, LinesReadBack}
use Rattle.py_printer.specs.Style.{letters, fresh, has_gap, put, write, text_of}

-- characters that begin with an ASCII one, and that end with one that is no line feed
pub record Starts (cs : List ℕ) : Type 0 where
  pub c : ℕ
  pub more : List ℕ
  pub are : cs ≡ c ∷ more
  pub low : is_ascii c ≡ true

pub record Ends (cs : List ℕ) : Type 0 where
  pub front : List ℕ
  pub c : ℕ
  pub are : cs ≡ front ++ c ∷ []
  pub low : is_ascii c ≡ true
  pub inline : (c == 10) ≡ false

-- the first and the last of a line's tokens
pub record Edges (ts : List Token) : Type 0 where
  pub first : Token
  pub more : List Token
  pub begins : ts ≡ first ∷ more
  pub kind : kind_of first ≡ is.Operand
  pub starts : Starts (letters first)
  pub front : List Token
  pub last : Token
  pub whole : ts ≡ front ++ last ∷ []
  pub ends : Ends (letters last)

-- ---- the text of a line

put_text : (p : Pen) (y : Token) → (put p y).text ≡ p.text ++ (space (has_gap p (kind_of y) (letters y)) ++ letters y)
unfolding put
put_text p y = refl

grows : (p : Pen) (ts : List Token) → (w : List ℕ) × ((write p ts).text ≡ p.text ++ w)
grows p [] = ([], sym (append-nil p.text))
grows p (y ∷ ys) =
    let r = grows (put p y) ys in
    let own = space (has_gap p (kind_of y) (letters y)) ++ letters y in
    (own ++ r.0, r.1 ∙ ap (λ z. z ++ r.0) (put_text p y) ∙ append_assoc p.text own r.0)

write_append : (p : Pen) (xs : List Token) (y : Token) → write p (xs ++ y ∷ []) ≡ put (write p xs) y
write_append p [] y = refl
write_append p (x ∷ xs) y = write_append (put p x) xs y

no_gap : (cs : List ℕ) → Starts cs → has_gap (fresh []) is.Operand cs ≡ false
no_gap cs s = subst (λ z. has_gap (fresh []) is.Operand z ≡ false) (sym s.are) refl

text_starts : (ts : List Token) → Edges ts → Starts (text_of ts)
text_starts ts e =
    let r = grows (put (fresh []) e.first) e.more in
    let one : (put (fresh []) e.first).text ≡ letters e.first =
    put_text (fresh []) e.first ∙ ap (λ k. space (has_gap (fresh []) k (letters e.first)) ++ letters e.first) e.kind ∙ ap (λ v. space v ++ letters e.first) (no_gap (letters e.first) e.starts) in
    record {
      c = e.starts.c;
      more = e.starts.more ++ r.0;
      are = ap text_of e.begins ∙ r.1 ∙ ap (λ z. z ++ r.0) (one ∙ e.starts.are);
      low = e.starts.low;
    }

text_ends : (ts : List Token) → Edges ts → Ends (text_of ts)
text_ends ts e =
    let p = write (fresh []) e.front in
    let sp = space (has_gap p (kind_of e.last) (letters e.last)) in
    record {
      front = p.text ++ (sp ++ e.ends.front);
      c = e.ends.c;
      are = ap text_of e.whole ∙ ap (λ (q : Pen). q.text) (write_append (fresh []) e.front e.last) ∙ put_text p e.last
          ∙ ap (λ z. p.text ++ (sp ++ z)) e.ends.are
          ∙ ap (λ z. p.text ++ z) (sym (append_assoc sp e.ends.front (e.ends.c ∷ [])))
          ∙ sym (append_assoc p.text (sp ++ e.ends.front) (e.ends.c ∷ []));
      low = e.ends.low;
      inline = e.ends.inline;
    }

-- ---- its bytes

one_byte : (c : ℕ) → is_ascii c ≡ true → encode_utf8_all (c ∷ []) ≡ c ∷ []
unfolding encode
one_byte c e = let lt : nat_lt c 128 ≡ true = grind (arith, nat_tests, e) in rw lt refl

bytes_start : (cs : List ℕ) → Starts cs → Starts (encode_utf8_all cs)
bytes_start cs s =
    record {
      c = s.c;
      more = encode_utf8_all s.more;
      are = ap encode_utf8_all s.are ∙ encodes-append (s.c ∷ []) s.more ∙ ap (λ z. z ++ encode_utf8_all s.more) (one_byte s.c s.low);
      low = s.low;
    }

bytes_end : (cs : List ℕ) → Ends cs → Ends (encode_utf8_all cs)
bytes_end cs s =
    record {
      front = encode_utf8_all s.front;
      c = s.c;
      are = ap encode_utf8_all s.are ∙ encodes-append s.front (s.c ∷ []) ∙ ap (λ z. encode_utf8_all s.front ++ z) (one_byte s.c s.low);
      low = s.low;
      inline = s.inline;
    }

not_mark : (c : ℕ) → is_ascii c ≡ true → (0xEF == c) ≡ false
not_mark c e = grind (arith, nat_tests, e)

no_order_mark : (c : ℕ) (cs : List ℕ) → is_ascii c ≡ true → has_order_mark (c ∷ cs) ≡ false
no_order_mark c cs e = rw (not_mark c e) refl

unmarked : (bs : List ℕ) → Starts bs → has_order_mark bs ≡ false
unmarked bs s = ap has_order_mark s.are ∙ no_order_mark s.c s.more s.low

missing_last : (xs : List ℕ) (c : ℕ) → missing_end (xs ++ c ∷ []) ≡ (if c == 10 then [] else 10 ∷ [])
missing_last [] c = refl
missing_last (x ∷ []) c = refl
missing_last (x ∷ y ∷ ys) c = missing_last (y ∷ ys) c

abbrev read : Bool → List ℕ → Tokens
read marked text = tokens_behind marked [] (pieces_of (with_line_feeds text))

tokens_are : (bs end : List ℕ) → has_order_mark bs ≡ false → missing_end bs ≡ end → tokens_of bs ≡ read false (bs ++ end)
unfolding tokens_of lines_of
tokens_are bs end e m = rw (e, m) refl

-- a last line end adds nothing
pub without_end : (bs : List ℕ) → Starts bs → Ends bs → tokens_of bs ≡ tokens_of (bs ++ 10 ∷ [])
without_end bs s f =
    let whole = bs ++ 10 ∷ [] in
    let starts : Starts whole = record { c = s.c; more = s.more ++ 10 ∷ []; are = ap (λ z. z ++ 10 ∷ []) s.are; low = s.low } in
    let missing : missing_end bs ≡ 10 ∷ [] = ap missing_end f.are ∙ missing_last f.front f.c ∙ rw f.inline refl in
    let none : missing_end whole ≡ [] = missing_last bs 10 in
    tokens_are bs (10 ∷ []) (unmarked bs s) missing ∙ sym (tokens_are whole [] (unmarked whole starts) none ∙ ap (read false) (append-nil whole))

-- ---- the line

abbrev line_of : List Token → Line
line_of ts = record { blanks = 0; column = 0; tokens = ts }

pub line_read : LinesReadBack → (ts : List Token) → Edges ts → list_all is_sound ts ≡ true → is_balanced [] ts ≡ true → line_in (encode_utf8_all (text_of ts)) ≡ Some ts
line_read lines ts e s b =
    let text = text_of ts in
    let starts = text_starts ts e in
    let ends = text_ends ts e in
    let some : has_tokens ts ≡ true = subst (λ z. has_tokens z ≡ true) (sym e.begins) refl in
    let fits : is_line (line_of ts) ≡ true = rw (some, s, b) refl in
    let all : list_all is_line (line_of ts ∷ []) ≡ true = rw fits refl in
    let back = lines (line_of ts ∷ []) all in
    let bytes : encode_utf8_all (text ++ 10 ∷ []) ≡ encode_utf8_all text ++ 10 ∷ [] = encodes-append text (10 ∷ []) ∙ ap (λ z. encode_utf8_all text ++ z) (one_byte 10 refl) in
    let same : tokens_of (encode_utf8_all text) ≡ tokens_of (encode_utf8_all ((text ++ 10 ∷ []) ++ [])) =
    without_end (encode_utf8_all text) (bytes_start text starts) (bytes_end text ends) ∙ ap tokens_of (sym bytes ∙ ap encode_utf8_all (sym (append-nil (text ++ 10 ∷ [])))) in
    ap (λ (r : Tokens). lone r.lines r.fault) (same ∙ back)
