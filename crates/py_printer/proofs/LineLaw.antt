-- Lines of tokens are read back.
use Rattle.std.proofs.Common.{◌≡◌, ◌∙◌, refl, ap, ap₂, ℕ, zero, suc, ◌+◌, true, ◌&&◌, List, [], ◌∷◌, ◌++◌, append_assoc, encode_utf8_all}
use Rattle.std.specs.Prelude.{None, replicate}
use Rattle.std.specs.List.{list_all}
use Rattle.std.specs.Char.{is_ascii}
use Rattle.std.proofs.lemmas.Str.{encodes-append}
use Rattle.py_language.specs.declared.token.Logical.{Logical}
use Rattle.py_language.specs.declared.token.Token.{Token}
use Rattle.py_language.specs.Tokens.{tokens_of}
use Rattle.py_spelling.specs.Spelling as spelling
use Rattle.py_spelling.specs.Spelling.{Row, is_sound, is_balanced, are_rows, row_text, rows_text, RowsReadBack}
use Rattle.py_printer.specs.Style.{fresh, put, text_of}
use Rattle.py_printer.specs.Lines.{Line, line_text, lines_text, has_tokens, is_line, logicals, LinesReadBack}
use Rattle.py_printer.proofs.ReadBack.{and_both, ascii, laid, laid_tokens, row_is, row_bytes}

-- the row of a line, before others; a line without tokens has none
abbrev row_in : ℕ → Token → List Token → Row
row_in column x xs = record { column = column; first = x; others = laid (put (fresh []) x) xs }

abbrev before : ℕ → ℕ → List Token → List (ℕ × Row) → List (ℕ × Row)
before blanks column [] rs = rs
before blanks column (x ∷ xs) rs = (blanks, row_in column x xs) ∷ rs

abbrev rows_of : List Line → List (ℕ × Row)
rows_of [] = []
rows_of (l ∷ ls) = before l.blanks l.column l.tokens (rows_of ls)

repeated : (n c : ℕ) → is_ascii c ≡ true → list_all is_ascii (replicate n c) ≡ true
repeated zero c h = refl
repeated (suc n) c h = rw (h, repeated n c h) refl

line_bytes : (blanks column : ℕ) (x : Token) (xs : List Token) → list_all is_sound (x ∷ xs) ≡ true
    → encode_utf8_all (replicate blanks 10 ++ (replicate column 32 ++ (text_of (x ∷ xs) ++ 10 ∷ []))) ≡ replicate blanks 10 ++ row_text (row_in column x xs)
line_bytes blanks column x xs s =
    let text = text_of (x ∷ xs) in
    let end : encode_utf8_all (text ++ 10 ∷ []) ≡ encode_utf8_all text ++ 10 ∷ [] = encodes-append text (10 ∷ []) ∙ ap (λ ys. encode_utf8_all text ++ ys) (ascii (10 ∷ []) refl) in
    encodes-append (replicate blanks 10) (replicate column 32 ++ (text ++ 10 ∷ []))
    ∙ ap₂ (λ ys zs. ys ++ zs) (ascii (replicate blanks 10) (repeated blanks 10 refl))
    (encodes-append (replicate column 32) (text ++ 10 ∷ []) ∙ ap₂ (λ ys zs. ys ++ zs) (ascii (replicate column 32) (repeated column 32 refl)) (end ∙ row_bytes x xs s))

one_bytes : (blanks column : ℕ) (ts : List Token) (rs : List (ℕ × Row)) → has_tokens ts ≡ true → list_all is_sound ts ≡ true
    → encode_utf8_all (replicate blanks 10 ++ (replicate column 32 ++ (text_of ts ++ 10 ∷ []))) ++ rows_text rs ≡ rows_text (before blanks column ts rs)
one_bytes blanks column [] rs n s = absurd (cc)
one_bytes blanks column (x ∷ xs) rs n s = ap (λ ys. ys ++ rows_text rs) (line_bytes blanks column x xs s) ∙ append_assoc (replicate blanks 10) (row_text (row_in column x xs)) (rows_text rs)

one_row : (blanks column : ℕ) (ts : List Token) (rs : List (ℕ × Row)) → list_all is_sound ts ≡ true → is_balanced [] ts ≡ true → are_rows rs ≡ true → are_rows (before blanks column ts rs) ≡ true
one_row blanks column [] rs s b h = h
one_row blanks column (x ∷ xs) rs s b h = rw (row_is x xs s b, h) refl

one_logical : (n blanks column : ℕ) (ts : List Token) (rs : List (ℕ × Row)) → has_tokens ts ≡ true
    → spelling.logicals n (before blanks column ts rs) ≡ record { line = n + blanks; column = column; tokens = ts } ∷ spelling.logicals (n + blanks + 1) rs
one_logical n blanks column [] rs e = absurd (cc)
one_logical n blanks column (x ∷ xs) rs e =
    ap (λ ts. let l : Logical = record { line = n + blanks; column = column; tokens = x ∷ ts } in l ∷ spelling.logicals (n + blanks + 1) rs) (laid_tokens (put (fresh []) x) xs)

record Parts (l : Line) (ls : List Line) : Type 0 where
  some : has_tokens l.tokens ≡ true
  sound : list_all is_sound l.tokens ≡ true
  balanced : is_balanced [] l.tokens ≡ true
  others : list_all is_line ls ≡ true

parts : (l : Line) (ls : List Line) → list_all is_line (l ∷ ls) ≡ true → Parts l ls
parts l ls h =
    let one = and_both (is_line l) (list_all is_line ls) h in
    let two = and_both (has_tokens l.tokens) (list_all is_sound l.tokens && is_balanced [] l.tokens) one.0 in
    let three = and_both (list_all is_sound l.tokens) (is_balanced [] l.tokens) two.1 in
    record { some = two.0; sound = three.0; balanced = three.1; others = one.1 }

all_bytes : (ls : List Line) → list_all is_line ls ≡ true → encode_utf8_all (lines_text ls) ≡ rows_text (rows_of ls)
all_bytes [] h = refl
all_bytes (l ∷ ls) h =
    let p = parts l ls h in
    encodes-append (line_text l) (lines_text ls) ∙ ap (λ ys. encode_utf8_all (line_text l) ++ ys) (all_bytes ls p.others)
    ∙ one_bytes l.blanks l.column l.tokens (rows_of ls) p.some p.sound

all_rows : (ls : List Line) → list_all is_line ls ≡ true → are_rows (rows_of ls) ≡ true
all_rows [] h = refl
all_rows (l ∷ ls) h = let p = parts l ls h in one_row l.blanks l.column l.tokens (rows_of ls) p.sound p.balanced (all_rows ls p.others)

all_logicals : (n : ℕ) (ls : List Line) → list_all is_line ls ≡ true → spelling.logicals n (rows_of ls) ≡ logicals n ls
all_logicals n [] h = refl
all_logicals n (l ∷ ls) h =
    let p = parts l ls h in
    one_logical n l.blanks l.column l.tokens (rows_of ls) p.some
    ∙ ap (λ rest. record { line = n + l.blanks; column = l.column; tokens = l.tokens } ∷ rest) (all_logicals (n + l.blanks + 1) ls p.others)

pub lines_read_back : RowsReadBack → LinesReadBack
lines_read_back rows ls h = ap tokens_of (all_bytes ls h) ∙ rows (rows_of ls) (all_rows ls h) ∙ ap (λ ls. record { lines = ls; fault = None }) (all_logicals 1 ls h)
