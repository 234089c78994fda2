-- Each token of a text is sound.
use Rattle.std.proofs.Common.{◌≡◌, ◌∙◌, sym, ap, refl, subst, ℕ, zero, suc, ◌+◌, ◌-◌, ◌^◌, Bool, true, false, cond, ◌&&◌, ◌||◌, List, [], ◌∷◌, ◌++◌, length, take, drop, Option, Some, None, Ok, Err, arith, chars}
use Rattle.std.specs.Prelude.{◌==◌, nat_lt, option_to_list, pos}
use Rattle.std.specs.List.{list_all, concat}
use Rattle.std.specs.Str.{all_scalars}
use lib.Utf8.{scalar, scalars}
use Rattle.std.proofs.lemmas.Str.{scalars-chars, IsUtf8-from_is_utf8}
use Rattle.std.proofs.lemmas.List.Folds.{list_all-append}
use Rattle.std.proofs.lemmas.Bool.Decides.{nat_tests}
use Rattle.pyn_base.specs.declared.construct.Construct.{Construct}
use Rattle.pyn_base.specs.declared.construct.Construct.TheVariants as fault
use Rattle.py_language.specs.declared.token.Token.{Token}
use Rattle.py_language.specs.declared.token.Token.TheVariants as t
use Rattle.py_language.specs.declared.token.Keyword.{Keyword}
use Rattle.py_language.specs.declared.token.Mark.{Mark}
use Rattle.py_language.specs.declared.token.Logical.{Logical}
use Rattle.py_language.specs.declared.token.Tokens.{Tokens}
use Rattle.py_language.specs.TokensCharacters.{is_letter, is_digit, is_word, is_quote, begins, more_bytes, is_character, not_utf8, decoded_behind, decoded, has_order_mark, lines_of}
use Rattle.py_language.specs.TokensNames.{is_name, listed, keywords, keyword_or_name, name_token}
use Rattle.py_language.specs.TokensNumbers.{integer_value}
use Rattle.py_language.specs.TokensStrings.{Content, refused, hex_escape_by, hex_escape, hex_value, escape_by, escape_of, taken, behind, lines_on, escaped, plain, line_feeds_in, content_behind, quotes_len, string_content}
use Rattle.py_language.specs.TokensMarks.{mark_of}
use Rattle.py_language.specs.TokensPieces.{spells, longest_within, longest, at_least_one, piece_len, pieces_behind, pieces_of}
use Rattle.py_language.specs.TokensLines.{string_token, mark_token, token_by, token_of, line_after, ends_line, column_after, with_tokens, line_begun, lines_ended}
use Rattle.py_language.specs.TokensFaults.{here, unless, number_fault, fault_by, fault_of}
use Rattle.py_language.specs.Tokens.{unless_fault, tokens_behind, tokens_of}
use Rattle.py_spelling.specs.Spelling.{is_sound, has_sound_tokens, AllTokensAreSound}
use Rattle.py_spelling.proofs.Longest.{exclusive}
use Rattle.py_spelling.proofs.Pieces.{piece_some}
use Rattle.py_spelling.proofs.WordSpelling.{and_both, digit_low, letter_low, letter_spells}

-- ---- characters

abbrev is_read : ℕ → Bool
is_read c = scalar c || c == not_utf8

same_scalars : (cs : List ℕ) → scalars cs ≡ all_scalars cs
same_scalars [] = refl
same_scalars (c ∷ cs) = ap (λ v. scalar c && v) (same_scalars cs)

scalars_read : (cs : List ℕ) → all_scalars cs ≡ true → list_all is_read cs ≡ true
scalars_read [] e = refl
scalars_read (c ∷ cs) e = let two = and_both (scalar c) (all_scalars cs) e in rw (two.0, scalars_read cs two.1) refl

decoded_read : (n : ℕ) (bs : List ℕ) → list_all is_read (decoded_behind n bs) ≡ true
decoded_read n [] = refl
decoded_read (suc n) (b ∷ bs) = decoded_read n bs
decoded_read zero (b ∷ bs) = read_by (is_character b bs) refl (λ n. decoded_read n bs)
  where
    read_by : (v : Bool) → is_character b bs ≡ v → ((n : ℕ) → list_all is_read (decoded_behind n bs) ≡ true) → list_all is_read (cond v (chars (b ∷ more_bytes b bs)) (not_utf8 ∷ []) ++ decoded_behind (cond v (length (more_bytes b bs)) 0) bs) ≡ true
    read_by true e ih =
        let xs = b ∷ more_bytes b bs in
        let sound : all_scalars (chars xs) ≡ true = sym (same_scalars (chars xs)) ∙ scalars-chars xs (IsUtf8-from_is_utf8 xs e) in
        list_all-append is_read (chars xs) (decoded_behind (length (more_bytes b bs)) bs) ∙ rw (scalars_read (chars xs) sound, ih (length (more_bytes b bs))) refl
    read_by false e ih = ih 0

-- ---- what a string holds

abbrev Holds : Content → Type 0
Holds (Ok cs) = all_scalars cs ≡ true
Holds (Err e) = Unit {0}

abbrev Escapes : Option (List ℕ × ℕ) → Type 0
Escapes None = Unit {0}
Escapes (Some e) = all_scalars e.0 ≡ true

both_scalars : (xs ys : List ℕ) → all_scalars xs ≡ true → all_scalars ys ≡ true → all_scalars (xs ++ ys) ≡ true
both_scalars [] ys e f = f
both_scalars (x ∷ xs) ys e f = let two = and_both (scalar x) (all_scalars xs) e in rw two.0 (both_scalars xs ys two.1 f)

behind_holds : (xs : List ℕ) (r : Content) → all_scalars xs ≡ true → Holds r → Holds (behind xs r)
behind_holds xs (Ok cs) e h = both_scalars xs cs e h
behind_holds xs (Err f) e h = tt

lines_hold : (n : ℕ) (r : Content) → Holds r → Holds (lines_on n r)
lines_hold n (Ok cs) h = h
lines_hold n (Err f) h = tt

hex_escapes : (n : ℕ) (o : Option ℕ) → Escapes (hex_escape_by n o)
hex_escapes n None = tt
hex_escapes n (Some c) = by (all_scalars (c ∷ [])) refl
  where
    by : (v : Bool) → all_scalars (c ∷ []) ≡ v → Escapes (cond v (Some (c ∷ [], suc n)) None)
    by true e = e
    by false e = tt

itself : (k c : ℕ) → (c == k) ≡ true → all_scalars (k ∷ []) ≡ true → all_scalars (c ∷ []) ≡ true
itself k c e s = let is : c ≡ k = grind (arith, nat_tests) in ap (λ x. all_scalars (x ∷ [])) is ∙ s

escapes : (c : ℕ) (cs : List ℕ) → Escapes (escape_by c cs)
escapes c cs = by (c == 92) (c == 39) (c == 34) (c == 110) (c == 116) (c == 114) (c == 10) (c == 120) (c == 117) refl refl refl
  where
    by : (a b d e f g h i j : Bool) → (c == 92) ≡ a → (c == 39) ≡ b → (c == 34) ≡ d
        → Escapes (cond (a || (b || d)) (Some (c ∷ [], 1)) (cond e (Some (10 ∷ [], 1)) (cond f (Some (9 ∷ [], 1)) (cond g (Some (13 ∷ [], 1)) (cond h (Some ([], 1)) (cond i (hex_escape 2 cs) (cond j (hex_escape 4 cs) None)))))))
    by true b d e f g h i j ea eb ed = itself 92 c ea refl
    by false true d e f g h i j ea eb ed = itself 39 c eb refl
    by false false true e f g h i j ea eb ed = itself 34 c ed refl
    by false false false true f g h i j ea eb ed = refl
    by false false false false true g h i j ea eb ed = refl
    by false false false false false true h i j ea eb ed = refl
    by false false false false false false true i j ea eb ed = refl
    by false false false false false false false true j ea eb ed = hex_escapes 2 (hex_value 2 0 cs)
    by false false false false false false false false true ea eb ed = hex_escapes 4 (hex_value 4 0 cs)
    by false false false false false false false false false ea eb ed = tt

escapes_of : (cs : List ℕ) → Escapes (escape_of cs)
escapes_of [] = tt
escapes_of (c ∷ cs) = escapes c cs

escaped_holds : (o : Option (List ℕ × ℕ)) (r : Content) → Escapes o → Holds r → Holds (escaped o r)
escaped_holds None r e h = tt
escaped_holds (Some x) r e h = behind_holds x.0 r e h

plain_holds : (c : ℕ) (r : Content) → is_read c ≡ true → Holds r → Holds (plain c (refused c) r)
plain_holds c r e h = by (c == not_utf8) (c == 13 || c == 12) (scalar c) refl refl
  where
    by : (a b s : Bool) → (c == not_utf8) ≡ a → scalar c ≡ s → Holds (plain c (cond a (Some fault.Encoding) (cond b (Some fault.Character) None)) r)
    by true b s ea es = tt
    by false true s ea es = tt
    by false false true ea es = behind_holds (c ∷ []) r (rw es refl) h
    by false false false ea es = let wrong : false ≡ true = sym (rw (es, ea) refl) ∙ e in absurd (cc)

content_holds : (n : ℕ) (cs : List ℕ) → list_all is_read cs ≡ true → Holds (content_behind n cs)
content_holds n [] e = refl
content_holds (suc n) (c ∷ cs) e = content_holds n cs (and_both (is_read c) (list_all is_read cs) e).1
content_holds zero (c ∷ cs) e =
    let two = and_both (is_read c) (list_all is_read cs) e in
    let rest = lines_on (line_feeds_in c cs) (content_behind (taken c cs) cs) in
    let r : Holds rest = lines_hold (line_feeds_in c cs) (content_behind (taken c cs) cs) (content_holds (taken c cs) cs two.1) in
    by (c == 92) rest (escaped_holds (escape_of cs) rest (escapes_of cs) r) (plain_holds c rest two.0 r)
  where
    by : (v : Bool) (rest : Content) → Holds (escaped (escape_of cs) rest) → Holds (plain c (refused c) rest) → Holds (cond v (escaped (escape_of cs) rest) (plain c (refused c) rest))
    by true rest f g = f
    by false rest f g = g

string_holds : (q : ℕ) (cs : List ℕ) → Holds (string_content q cs)
unfolding string_content decoded
string_holds q cs =
    let n = quotes_len q cs in
    let inner = take (length cs + 1 - (n + n)) (drop (n - 1) cs) in
    content_holds 0 (decoded_behind 0 inner) (decoded_read 0 inner)

-- ---- the token of a piece without a fault

abbrev are_sound : List Token → Bool
are_sound xs = list_all is_sound xs

string_sound : (r : Content) → Holds r → are_sound (string_token r) ≡ true
string_sound (Ok cs) h = rw h refl
string_sound (Err e) h = refl

mark_sound : (o : Option Mark) → are_sound (mark_token o) ≡ true
mark_sound None = refl
mark_sound (Some m) = refl

name_sound : (n : List ℕ) → is_name n ≡ true → is_sound (name_token n) ≡ true
unfolding name_token
name_sound n e = by (listed keywords n) refl
  where
    by : (o : Option Keyword) → listed keywords n ≡ o → is_sound (keyword_or_name n o) ≡ true
    by None f = rw (e, f) refl
    by (Some k) f = refl

small_by : (b s : Bool) → here 0 (cond b (Some fault.Number) (unless s fault.IntegerRange)) ≡ None → s ≡ true
small_by true s e = absurd (cc)
small_by false true e = refl
small_by false false e = absurd (cc)

here_by : (n : ℕ) (o : Option Construct) → here n o ≡ None → here 0 o ≡ None
here_by n None e = refl
here_by n (Some f) e = absurd (cc)

integer_sound : (h : Bool) (before : List (List ℕ)) (c : ℕ) (cs after : List ℕ) → is_digit c ≡ true → fault_by h before c cs after ≡ None → nat_lt (integer_value (c ∷ cs)) (2 ^ 127) ≡ true
unfolding fault_by number_fault
integer_sound h before c cs after d e =
    let lt = digit_low c d in
    let q : is_quote c ≡ false = exclusive is_digit is_quote refl c lt d in
    let l : is_letter c ≡ false = exclusive is_digit is_letter refl c lt d in
    let is : fault_by h before c cs after ≡ here (line_after before) (number_fault (c ∷ cs) after) = rw (q, l, d) refl in
    small_by (begins (λ x. is_word x || x == 46) after) (nat_lt (integer_value (c ∷ cs)) (2 ^ 127)) (here_by (line_after before) _ (sym is ∙ e))

-- a piece that begins with a letter is a name
abbrev IsWord : ℕ → List ℕ → Type 0
IsWord c cs = is_letter c ≡ true → list_all is_word cs ≡ true

token_sound : (h : Bool) (before : List (List ℕ)) (c : ℕ) (cs after : List ℕ) → IsWord c cs → fault_by h before c cs after ≡ None → are_sound (token_by c cs) ≡ true
token_sound h before c cs after w e = by (is_letter c) (is_digit c) (is_quote c) refl refl
  where
    by : (l d q : Bool) → is_letter c ≡ l → is_digit c ≡ d
        → are_sound (cond l (name_token (c ∷ cs) ∷ []) (cond d (t.Int (pos (integer_value (c ∷ cs))) ∷ []) (cond q (string_token (string_content c cs)) (mark_token (mark_of (c ∷ cs)))))) ≡ true
    by true d q el ed = rw (name_sound (c ∷ cs) (rw (el, w el) refl)) refl
    by false true q el ed = rw (integer_sound h before c cs after ed e) refl
    by false false true el ed = string_sound (string_content c cs) (string_holds c cs)
    by false false false el ed = mark_sound (mark_of (c ∷ cs))

-- ---- the piece at the front of a text

longest_spelt : (m : ℕ) (text : List ℕ) (k : ℕ) → longest_within m text ≡ suc k → spells (take (suc k) text) ≡ true
longest_spelt zero text k e = absurd (omega (arith, e))
longest_spelt (suc m) text k e = by (spells (take (suc m) text)) refl (longest_spelt m text k) e
  where
    by : (v : Bool) → spells (take (suc m) text) ≡ v → (longest_within m text ≡ suc k → spells (take (suc k) text) ≡ true) → cond v (suc m) (longest_within m text) ≡ suc k → spells (take (suc k) text) ≡ true
    by true s ih e = ap (λ n. spells (take n text)) (sym e) ∙ s
    by false s ih e = ih e

word_piece : (c : ℕ) (cs : List ℕ) (k : ℕ) → piece_len c cs ≡ suc k → IsWord c (take k cs)
unfolding piece_len longest
word_piece c cs k e l =
    let q : is_quote c ≡ false = exclusive is_letter is_quote refl c (letter_low c l) l in
    let is : at_least_one (longest_within (suc (length cs)) (c ∷ cs)) ≡ suc k = sym (rw q refl) ∙ e in
    by (longest_within (suc (length cs)) (c ∷ cs)) refl is
  where
    by : (n : ℕ) → longest_within (suc (length cs)) (c ∷ cs) ≡ n → at_least_one n ≡ suc k → list_all is_word (take k cs) ≡ true
    by zero s f = let none : k ≡ 0 = omega (arith, f) in ap (λ j. list_all is_word (take j cs)) none
    by (suc n) s f = sym (letter_spells c (take k cs) l) ∙ longest_spelt (suc (length cs)) (c ∷ cs) k (s ∙ f)

-- ---- lines

abbrev begun_sound : Option Logical → Bool
begun_sound None = true
begun_sound (Some l) = has_sound_tokens l

record SoundBefore (before : List (List ℕ)) : Type 0 where
  begun : begun_sound (line_begun before) ≡ true
  ended : list_all has_sound_tokens (lines_ended before) ≡ true

with_sound : (xs : List Token) (line column : ℕ) (o : Option Logical) → are_sound xs ≡ true → begun_sound o ≡ true → begun_sound (with_tokens xs line column o) ≡ true
with_sound [] line column o e f = f
with_sound (x ∷ xs) line column None e f = e
with_sound (x ∷ xs) line column (Some l) e f = list_all-append is_sound l.tokens (x ∷ xs) ∙ rw (f, e) refl

begun_list : (o : Option Logical) → begun_sound o ≡ true → list_all has_sound_tokens (option_to_list o) ≡ true
begun_list None e = refl
begun_list (Some l) e = rw e refl

sound_after : (piece : List ℕ) (before : List (List ℕ)) → are_sound (token_of piece) ≡ true → SoundBefore before → SoundBefore (piece ∷ before)
unfolding line_begun lines_ended
sound_after piece before e s = record { begun = begun_by (ends_line piece before); ended = list_all-append has_sound_tokens (lines_ended before) _ ∙ rw (s.ended, ended_by (ends_line piece before)) refl }
  where
    begun_by : (v : Bool) → begun_sound (cond v None (with_tokens (token_of piece) (line_after before) (column_after before) (line_begun before))) ≡ true
    begun_by true = refl
    begun_by false = with_sound (token_of piece) (line_after before) (column_after before) (line_begun before) e s.begun

    ended_by : (v : Bool) → list_all has_sound_tokens (cond v (option_to_list (line_begun before)) []) ≡ true
    ended_by true = begun_list (line_begun before) s.begun
    ended_by false = refl

abbrev AllSound : Tokens → Type 0
AllSound ts = list_all has_sound_tokens ts.lines ≡ true

rest_sound : (h : Bool) (n : ℕ) (text : List ℕ) (before : List (List ℕ)) → SoundBefore before → AllSound (tokens_behind h before (pieces_behind n text))
rest_sound h n [] before s = s.ended
rest_sound h (suc n) (c ∷ cs) before s = rest_sound h n cs before s
rest_sound h zero (c ∷ cs) before s =
    let k = piece_some c cs in
    let piece = c ∷ take k.0 cs in
    let front : take (piece_len c cs) (c ∷ cs) ≡ piece = ap (λ n. take n (c ∷ cs)) k.1 in
    let others = pieces_behind (piece_len c cs - 1) cs in
    let go : AllSound (tokens_behind h before (piece ∷ others)) = by piece others (fault_by h before c (take k.0 cs) (concat others)) refl
    (λ f. rest_sound h (piece_len c cs - 1) cs (piece ∷ before) (sound_after piece before (token_sound h before c (take k.0 cs) (concat others) (word_piece c cs k.0 k.1) f) s)) in
    subst (λ p. AllSound (tokens_behind h before (p ∷ others))) (sym front) go
  where
    by : (piece : List ℕ) (others : List (List ℕ)) (f : Option (ℕ × Construct)) → fault_of h before piece (concat others) ≡ f → (f ≡ None → AllSound (tokens_behind h (piece ∷ before) others))
        → AllSound (unless_fault f before (tokens_behind h (piece ∷ before) others))
    by piece others None e g = g refl
    by piece others (Some f) e g = s.ended

none_before : SoundBefore []
unfolding line_begun lines_ended
none_before = record { begun = refl; ended = refl }

pub all_sound : AllTokensAreSound
unfolding tokens_of pieces_of
all_sound text = rest_sound (has_order_mark text) 0 (lines_of text) [] none_before
