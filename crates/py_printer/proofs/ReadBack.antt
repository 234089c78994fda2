-- A printed expression is read back.
use Rattle.std.proofs.Common.{◌≡◌, ◌∙◌, refl, sym, ap, ap₂, ℕ, Bool, true, false, ◌&&◌, ◌||◌, List, [], ◌∷◌, ◌++◌, map, append_assoc, append-nil, encode_utf8_all, arith}
use Rattle.std.specs.Prelude.{Some, None, ℤ, pos, negsuc, decimal, nat_abs}
use Rattle.std.specs.List.{list_all}
use Rattle.std.specs.Char.{is_ascii}
use Rattle.std.specs.Str.{IsAscii}
use Rattle.std.proofs.lemmas.Str.{encodes-IsAscii, encodes-append}
use Rattle.std.proofs.lemmas.Fmt.{IsAscii-decimal_wide}
use Rattle.std.proofs.lemmas.Bool.Decides.{nat_tests}
use Rattle.py_language.specs.declared.token.Token.{Token}
use Rattle.py_language.specs.declared.token.Token.TheVariants as t
use Rattle.py_language.specs.TreesPlaces.{Level, Listed, Conditional, Disjunction, Conjunction, Negation, Comparison, Sum, Product, Signed, Postfix}
use Rattle.py_language.specs.Trees.{tree_at, listed, conditional, disjunction, conjunction, negation, comparison, sum, product, signed, postfix}
use Rattle.py_language.specs.TokensCharacters.{is_letter, is_word, is_digit}
use Rattle.py_language.specs.TokensNames.{is_name}
use Rattle.py_language.specs.Tokens.{tokens_of}
use Rattle.py_syntax.specs.declared.expr.Expr.{Expr}
use Rattle.py_spelling.specs.Spelling.{Spaced, Row, space, spaced_text, spelled, quoted, glyphs, may_touch, is_sound, is_small, is_spaced, is_balanced, is_row, row_tokens, row_text, keyword_text, mark_text, RowsReadBack}
use Rattle.py_printing.specs.Expressions.{expr_tokens, TreesReadBack, SoundTreesAreSound, TreesAreBalanced}
use Rattle.py_printer.specs.declared.pen.Pen.{Pen}
use Rattle.py_printer.specs.declared.kinds.Kind.{Kind}
use Rattle.py_printer.specs.declared.kinds.Kind.TheVariants as is
use Rattle.py_printer.specs.Kinds.{kind_of, last_of}
use Rattle.py_printer.specs.Spaces.{wants_space, needs_space}
use Rattle.py_printer.specs.Style.{letters, fresh, has_gap, put, write, text_of}
use Rattle.py_printer.specs.ReadBack.{StyledReadBack}
use Rattle.py_printer.proofs.Ascii.{IsAscii-list_all, keyword_ascii, mark_ascii}
use Rattle.py_printer.proofs.Touching.{touch}

pub and_both : (v w : Bool) → (v && w) ≡ true → (v ≡ true) × (w ≡ true)
and_both true w e = (refl, e)
and_both false w e = absurd (cc)

-- ---- the bytes of a token

pub ascii : (bs : List ℕ) → list_all is_ascii bs ≡ true → encode_utf8_all bs ≡ bs
ascii bs e = encodes-IsAscii bs (IsAscii-list_all bs e)

word_ascii : (c : ℕ) → is_word c ≡ true → is_ascii c ≡ true
word_ascii c e = grind (arith, nat_tests, e)

words_ascii : (cs : List ℕ) → list_all is_word cs ≡ true → list_all is_ascii cs ≡ true
words_ascii [] e = refl
words_ascii (c ∷ cs) e = let two = and_both (is_word c) (list_all is_word cs) e in rw (word_ascii c two.0, words_ascii cs two.1) refl

letter_word : (c : ℕ) → is_letter c ≡ true → is_word c ≡ true
letter_word c e = ap (λ v. v || is_digit c) e

pub name_ascii : (n : List ℕ) → is_name n ≡ true → list_all is_ascii n ≡ true
name_ascii [] e = refl
name_ascii (c ∷ cs) e = let two = and_both (is_letter c) (list_all is_word cs) e in rw (word_ascii c (letter_word c two.0), words_ascii cs two.1) refl

pub number_ascii : (n : ℤ) → is_small n ≡ true → IsAscii (decimal (nat_abs n))
number_ascii (pos n) e = IsAscii-decimal_wide n (grind (arith, nat_tests, e))
number_ascii (negsuc n) e = absurd (cc)

string_bytes : (gs : List ℕ) → encode_utf8_all (34 ∷ (gs ++ 34 ∷ [])) ≡ 34 ∷ (encode_utf8_all gs ++ 34 ∷ [])
string_bytes gs =
    let quote = ascii (34 ∷ []) refl in
    encodes-append (34 ∷ []) (gs ++ 34 ∷ []) ∙ ap₂ (λ xs ys. xs ++ ys) quote (encodes-append gs (34 ∷ []) ∙ ap (λ ys. encode_utf8_all gs ++ ys) quote)

bytes : (y : Token) → is_sound y ≡ true → encode_utf8_all (letters y) ≡ spelled y
unfolding quoted
bytes (t.Name n) e = ascii n (name_ascii n (and_both (is_name n) _ e).0)
bytes (t.Keyword k) e = ascii (keyword_text k) (keyword_ascii k)
bytes (t.Int n) e = encodes-IsAscii (decimal (nat_abs n)) (number_ascii n e)
bytes (t.Str s) e = string_bytes (glyphs s)
bytes (t.Mark m) e = ascii (mark_text m) (mark_ascii m)

space_bytes : (gap : Bool) → encode_utf8_all (space gap) ≡ space gap
space_bytes true = ascii (32 ∷ []) refl
space_bytes false = refl

-- ---- a row of tokens as the pen lays it out

abbrev pub gap : Pen → Token → Bool
gap p y = has_gap p (kind_of y) (letters y)

abbrev pub laid : Pen → List Token → List Spaced
laid p [] = []
laid p (y ∷ ys) = (gap p y, y) ∷ laid (put p y) ys

pub put_text : (p : Pen) (y : Token) → (put p y).text ≡ p.text ++ (space (gap p y) ++ letters y)
unfolding put
put_text p y = refl

put_last : (p : Pen) (y : Token) → (put p y).last ≡ last_of y
unfolding put
put_last p y = refl

put_bytes : (p : Pen) (y : Token) → is_sound y ≡ true → encode_utf8_all (put p y).text ≡ encode_utf8_all p.text ++ (space (gap p y) ++ spelled y)
put_bytes p y s =
    ap encode_utf8_all (put_text p y) ∙ encodes-append p.text (space (gap p y) ++ letters y)
    ∙ ap (λ xs. encode_utf8_all p.text ++ xs) (encodes-append (space (gap p y)) (letters y) ∙ ap₂ (λ xs ys. xs ++ ys) (space_bytes (gap p y)) (bytes y s))

laid_bytes : (p : Pen) (ys : List Token) → list_all is_sound ys ≡ true → encode_utf8_all (write p ys).text ≡ encode_utf8_all p.text ++ spaced_text (laid p ys)
laid_bytes p [] s = sym (append-nil (encode_utf8_all p.text))
laid_bytes p (y ∷ ys) s =
    let two = and_both (is_sound y) (list_all is_sound ys) s in
    laid_bytes (put p y) ys two.1 ∙ ap (λ xs. xs ++ spaced_text (laid (put p y) ys)) (put_bytes p y two.0)
    ∙ append_assoc (encode_utf8_all p.text) (space (gap p y) ++ spelled y) (spaced_text (laid (put p y) ys))
    ∙ ap (λ xs. encode_utf8_all p.text ++ xs) (append_assoc (space (gap p y)) (spelled y) (spaced_text (laid (put p y) ys)))

pub laid_tokens : (p : Pen) (ys : List Token) → map (λ (x : Spaced). x.1) (laid p ys) ≡ ys
laid_tokens p [] = refl
laid_tokens p (y ∷ ys) = ap (λ zs. y ∷ zs) (laid_tokens (put p y) ys)

-- a space, or neighbours that may touch
side_by_side : (wants needs m : Bool) → (needs ≡ false → m ≡ true) → ((wants || needs) || m) ≡ true
side_by_side true needs m h = refl
side_by_side false true m h = refl
side_by_side false false m h = h refl

laid_spaced : (a : Token) (p : Pen) (ys : List Token) → p.last ≡ last_of a → is_spaced a (laid p ys) ≡ true
laid_spaced a p [] e = refl
laid_spaced a p (y ∷ ys) e =
    let one : (gap p y || may_touch a y) ≡ true =
    side_by_side (wants_space p.place p.opened (kind_of y)) (needs_space p.last (letters y)) (may_touch a y) (λ h. touch a y (ap (λ l. needs_space l (letters y)) (sym e) ∙ h)) in
    rw one (laid_spaced y (put p y) ys (put_last p y))

-- no space at the start of a line
no_gap : (kind : Kind) (text : List ℕ) → has_gap (fresh []) kind text ≡ false
no_gap (is.Opening b) [] = refl
no_gap (is.Opening b) (c ∷ cs) = refl
no_gap is.Closing [] = refl
no_gap is.Closing (c ∷ cs) = refl
no_gap is.Comma [] = refl
no_gap is.Comma (c ∷ cs) = refl
no_gap is.Colon [] = refl
no_gap is.Colon (c ∷ cs) = refl
no_gap is.Dot [] = refl
no_gap is.Dot (c ∷ cs) = refl
no_gap is.Equal [] = refl
no_gap is.Equal (c ∷ cs) = refl
no_gap is.Sign [] = refl
no_gap is.Sign (c ∷ cs) = refl
no_gap is.Operator [] = refl
no_gap is.Operator (c ∷ cs) = refl
no_gap is.Operand [] = refl
no_gap is.Operand (c ∷ cs) = refl

abbrev pub row_of : Token → List Token → Row
row_of x xs = record { column = 0; first = x; others = laid (put (fresh []) x) xs }

pub row_is : (x : Token) (xs : List Token) → list_all is_sound (x ∷ xs) ≡ true → is_balanced [] (x ∷ xs) ≡ true → is_row (row_of x xs) ≡ true
row_is x xs s b =
    let same : row_tokens (row_of x xs) ≡ x ∷ xs = ap (λ z. x ∷ z) (laid_tokens (put (fresh []) x) xs) in
    let s' : list_all is_sound (row_tokens (row_of x xs)) ≡ true = ap (list_all is_sound) same ∙ s in
    let b' : is_balanced [] (row_tokens (row_of x xs)) ≡ true = ap (is_balanced []) same ∙ b in
    rw (s', laid_spaced x (put (fresh []) x) xs (put_last (fresh []) x), b') refl

pub row_bytes : (x : Token) (xs : List Token) → list_all is_sound (x ∷ xs) ≡ true → encode_utf8_all (text_of (x ∷ xs)) ++ 10 ∷ [] ≡ row_text (row_of x xs)
row_bytes x xs s =
    let two = and_both (is_sound x) (list_all is_sound xs) s in
    let rest = spaced_text (laid (put (fresh []) x) xs) in
    ap (λ ys. ys ++ 10 ∷ []) (laid_bytes (put (fresh []) x) xs two.1 ∙ ap (λ ys. ys ++ rest) (put_bytes (fresh []) x two.0 ∙ ap (λ v. space v ++ spelled x) (no_gap (kind_of x) (letters x))))
    ∙ append_assoc (spelled x) rest (10 ∷ [])

line_read : RowsReadBack → (ts : List Token) → (ts ≡ [] → ⊥) → list_all is_sound ts ≡ true → is_balanced [] ts ≡ true
    → tokens_of (encode_utf8_all (text_of ts) ++ 10 ∷ []) ≡ record { lines = record { line = 1; column = 0; tokens = ts } ∷ []; fault = None }
line_read rows [] n s b = absurd (n refl)
line_read rows (x ∷ xs) n s b =
    let r = row_of x xs in
    ap tokens_of (row_bytes x xs s ∙ sym (append-nil (row_text r)))
    ∙ rows ((0, r) ∷ []) (rw (row_is x xs s b) refl)
    ∙ ap (λ ts. record { lines = record { line = 1; column = 0; tokens = x ∷ ts } ∷ []; fault = None }) (laid_tokens (put (fresh []) x) xs)

-- no tree is read from nothing
nothing : (l : Level) (y : Expr) → tree_at l [] ≡ Some y → ⊥
unfolding tree_at listed conditional disjunction conjunction negation comparison sum product signed postfix
nothing Listed y h = cc
nothing Conditional y h = cc
nothing Disjunction y h = cc
nothing Conjunction y h = cc
nothing Negation y h = cc
nothing Comparison y h = cc
nothing Sum y h = cc
nothing Product y h = cc
nothing Signed y h = cc
nothing Postfix y h = cc

pub styled_read_back : RowsReadBack → TreesReadBack → SoundTreesAreSound → TreesAreBalanced → StyledReadBack
styled_read_back rows trees sounds balanced l ts x s h =
    let back = trees l ts x h in
    let sound = sounds l ts x s h in
    let some : expr_tokens l x ≡ [] → ⊥ = λ e. nothing l back.0 (ap (tree_at l) (sym e) ∙ back.1.0) in
    let closed : is_balanced [] (expr_tokens l x) ≡ true = ap (is_balanced []) (sym (append-nil (expr_tokens l x))) ∙ balanced l ts x [] h sound in
    (line_read rows (expr_tokens l x) some sound closed, back)
