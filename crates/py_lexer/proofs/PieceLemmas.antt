-- The piece at the front of a text, class by class.
use Rattle.std.proofs.Common.{◌≡◌, ◌∙◌, sym, ap, refl, subst, ℕ, zero, suc, ◌+◌, ◌<◌, ◌≤◌, Bool, true, false, cond, ◌&&◌, not, List, [], ◌∷◌, length, take, drop, min, Option, Some, None, IsAscii, add-one, arith}
use Rattle.std.specs.Prelude.{◌==◌, nat_lt}
use Rattle.std.specs.List.{prefix_len, list_all}
use Rattle.std.specs.Str.{is_utf8, all_scalars}
use lib.Utf8.{scalar}
use Rattle.std.proofs.lemmas.Bool.Decides.{nat_tests}
use Rattle.std.proofs.lemmas.List.Sums.{prefix_len-le-length}
use Rattle.pyn_base.specs.declared.construct.Construct.{Construct}
use Rattle.pyn_base.specs.declared.construct.Construct.TheVariants as fault
use Rattle.py_language.specs.declared.token.Mark.{Mark}
use Rattle.py_language.specs.TokensCharacters.{is_letter, is_digit, is_word, is_blank, is_quote, begins, decoded, not_utf8}
use Rattle.py_language.specs.TokensNumbers.{is_nil}
use Rattle.py_language.specs.TokensMarks.{mark_of}
use Rattle.py_language.specs.TokensPieces.{longest, at_least_one, piece_len}
use Rattle.py_language.specs.TokensFaults.{stray_fault}
use Rattle.py_lexer.specs.declared.piece.Piece.{Piece}
use Rattle.py_lexer.specs.declared.piece.Piece.TheVariants as p
use Rattle.py_lexer.specs.Scan.{integer_more, longest_mark, front_of, stray_construct}
use Rattle.py_lexer.specs.Found.{found_by, or_fault, name_found, number_found, blanks_found, comment_found, bracket_found, mark_found, FoundAt, Other}
use Rattle.py_lexer.proofs.DecodeLemmas.{decoded_ascii, decoded_wide, decoded_bad, wide}
use Rattle.py_lexer.proofs.ClassLemmas.{and_both, exclusive}
use Rattle.py_lexer.proofs.ContentLemmas.{not_bad}
use Rattle.py_lexer.proofs.LongestLemmas.{longest_name, longest_blanks, longest_comment, longest_line_end, run_passes}
use Rattle.py_lexer.proofs.IntegerLemmas.{longest_integer, integer_fits}
use Rattle.py_lexer.proofs.MarkLemmas.{mark_is, mark_len, none_here}

-- the front of a text, of one character more than the rest
pub word_is : (text rest : List ℕ) (c n : ℕ) → text ≡ c ∷ rest → take (n + 1) text ≡ c ∷ take n rest
word_is text rest c n e = ap (λ k. take k text) (add-one n) ∙ ap (take (suc n)) e

pub found_same : (f : List ℕ → List ℕ → Piece) (text rest word after : List ℕ) (c n : ℕ) (piece : Piece) → text ≡ c ∷ rest → word ≡ take (n + 1) text → after ≡ drop n rest → piece ≡ f word after → piece ≡ f (c ∷ take n rest) (drop n rest)
found_same f text rest word after c n piece e front back what = what ∙ (ap (λ xs. f xs after) (front ∙ word_is text rest c n e) ∙ ap (f (c ∷ take n rest)) back)

pub no_quote_len : (c : ℕ) (cs : List ℕ) (n : ℕ) → is_quote c ≡ false → longest (c ∷ cs) ≡ suc n → piece_len c cs ≡ suc n
unfolding piece_len
no_quote_len c cs n q e = rw (q, e) refl

-- ---- names

word_low : (c : ℕ) → is_word c ≡ true → c < 128
word_low c e = grind (arith, nat_tests)

words_ascii : (xs : List ℕ) → list_all is_word xs ≡ true → IsAscii xs
words_ascii [] e i = omega arith
words_ascii (x ∷ xs) e zero = word_low x ((and_both (is_word x) (list_all is_word xs) e).0)
words_ascii (x ∷ xs) e (suc i) = words_ascii xs ((and_both (is_word x) (list_all is_word xs) e).1) i

pub name_ascii : (c : ℕ) (rest : List ℕ) → is_letter c ≡ true → IsAscii (c ∷ take (prefix_len is_word rest) rest)
name_ascii c rest l = words_ascii (c ∷ take (prefix_len is_word rest) rest) (rw l (run_passes is_word rest))

by_letter : (h : Bool) (c : ℕ) (cs after : List ℕ) → is_quote c ≡ false → is_letter c ≡ true → name_found (c ∷ cs) after ≡ found_by h c cs after
unfolding found_by
by_letter h c cs after q l = sym (rw (q, l) refl)

pub name_at : (h : Bool) (c : ℕ) (cs : List ℕ) (k : ℕ) (piece : Piece) → c < 256 → is_letter c ≡ true → k ≡ prefix_len is_word cs → piece ≡ name_found (c ∷ take k cs) (drop k cs) → FoundAt h c cs piece k
name_at h c cs k piece lt l is what =
    let q : is_quote c ≡ false = exclusive is_letter is_quote refl c lt l in
    record { byte = lt; len = no_quote_len c cs k q (longest_name c cs lt l ∙ ap suc (sym is)); within = omega (arith, prefix_len-le-length is_word cs); what = what ∙ by_letter h c (take k cs) (drop k cs) q l }

-- ---- numbers

by_digit : (h : Bool) (c : ℕ) (cs after : List ℕ) → is_quote c ≡ false → is_letter c ≡ false → is_digit c ≡ true → number_found (c ∷ cs) after ≡ found_by h c cs after
unfolding found_by
by_digit h c cs after q l d = sym (rw (q, l, d) refl)

pub number_at : (h : Bool) (c : ℕ) (cs : List ℕ) (k : ℕ) (piece : Piece) → c < 256 → is_digit c ≡ true → k ≡ integer_more c cs → piece ≡ number_found (c ∷ take k cs) (drop k cs) → FoundAt h c cs piece k
number_at h c cs k piece lt d is what =
    let q : is_quote c ≡ false = exclusive is_digit is_quote refl c lt d in
    let l : is_letter c ≡ false = exclusive is_digit is_letter refl c lt d in
    record { byte = lt; len = no_quote_len c cs k q (longest_integer c cs lt d ∙ ap suc (sym is)); within = omega (arith, integer_fits c cs); what = what ∙ by_digit h c (take k cs) (drop k cs) q l d }

-- ---- blanks, comments and line ends

by_blank : (h : Bool) (c : ℕ) (cs after : List ℕ) → is_quote c ≡ false → is_letter c ≡ false → is_digit c ≡ false → is_blank c ≡ true → blanks_found (c ∷ cs) after ≡ found_by h c cs after
unfolding found_by
by_blank h c cs after q l d b = sym (rw (q, l, d, b) refl)

pub blank_at : (h : Bool) (c : ℕ) (cs : List ℕ) (k : ℕ) (piece : Piece) → c < 256 → is_blank c ≡ true → k ≡ prefix_len is_blank cs → piece ≡ blanks_found (c ∷ take k cs) (drop k cs) → FoundAt h c cs piece k
blank_at h c cs k piece lt b is what =
    let q : is_quote c ≡ false = exclusive is_blank is_quote refl c lt b in
    let l : is_letter c ≡ false = exclusive is_blank is_letter refl c lt b in
    let d : is_digit c ≡ false = exclusive is_blank is_digit refl c lt b in
    record { byte = lt; len = no_quote_len c cs k q (longest_blanks c cs lt b ∙ ap suc (sym is)); within = omega (arith, prefix_len-le-length is_blank cs); what = what ∙ by_blank h c (take k cs) (drop k cs) q l d b }

pub comment_at : (h : Bool) (cs : List ℕ) (k : ℕ) (piece : Piece) → k ≡ prefix_len (λ d. not (d == 10)) cs → piece ≡ comment_found h (35 ∷ take k cs) → FoundAt h 35 cs piece k
unfolding found_by
comment_at h cs k piece is what = record { byte = omega arith; len = no_quote_len 35 cs k refl (longest_comment cs ∙ ap suc (sym is)); within = omega (arith, prefix_len-le-length (λ d. not (d == 10)) cs); what = what }

pub line_end_at : (h : Bool) (c : ℕ) (cs : List ℕ) → c ≡ 10 → FoundAt h c cs p.LineEnd 0
unfolding found_by
line_end_at h c cs is = subst (λ d. FoundAt h d cs p.LineEnd 0) (sym is) (record { byte = omega arith; len = no_quote_len 10 cs 0 refl (longest_line_end cs); within = omega arith; what = refl })

-- ---- marks

by_other : (h : Bool) (c : ℕ) (cs after : List ℕ) (m : Option Mark) → Other c → mark_of (c ∷ cs) ≡ m → mark_found c cs after m ≡ found_by h c cs after
unfolding found_by
by_other h c cs after m o e = sym (rw (o.quote, o.letter, o.digit, o.blank, o.hash, o.feed) (ap (mark_found c cs after) e))

nil_is : (k : ℕ) (cs : List ℕ) → k ≤ length cs → is_nil (take k cs) ≡ (k == 0)
nil_is zero cs le = refl
nil_is (suc k) [] le = absurd (omega arith)
nil_is (suc k) (c ∷ cs) le = grind (arith, nat_tests)

pub mark_at_front : (h : Bool) (text cs : List ℕ) (c : ℕ) (mark : Mark) (n k : ℕ) (piece : Piece) → c < 256 → text ≡ c ∷ cs → Other c → Some (mark, n) ≡ longest_mark (min 3 (length text)) text → n ≡ suc k → n ≤ length text
    → piece ≡ cond (c == 46 && (k == 0 && begins is_digit (drop k cs))) (p.Fault 0 fault.Number) (bracket_found c mark) → FoundAt h c cs piece k
unfolding mark_found
mark_at_front h text cs c mark n k piece lt e o found is le what =
    let found' : Some (mark, n) ≡ longest_mark (min 3 (suc (length cs))) (c ∷ cs) = found ∙ ap (λ xs. longest_mark (min 3 (length xs)) xs) e in
    let fits : k ≤ length cs = omega (arith, ap length e) in
    let here : mark_of (c ∷ take k cs) ≡ Some mark = ap (λ j. mark_of (take j (c ∷ cs))) (sym is) ∙ mark_is (min 3 (suc (length cs))) (c ∷ cs) mark n (sym found') in
    record {
      byte = lt;
      len = mark_len c cs o (Some (mark, n)) found' ∙ ap at_least_one is;
      within = fits;
      what = what ∙ (ap (λ v. cond (c == 46 && (v && begins is_digit (drop k cs))) (p.Fault 0 fault.Number) (bracket_found c mark)) (sym (nil_is k cs fits)) ∙ by_other h c (take k cs) (drop k cs) (Some mark) o here);
    }

-- ---- a stray character

stray_by : (c : ℕ) (cs : List ℕ) (s low wide_here : Bool) → (c == 92) ≡ s → nat_lt c 128 ≡ low → is_utf8 (front_of (c ∷ cs)) ≡ wide_here
    → stray_fault c cs ≡ Some (cond s fault.Backslash (cond low fault.Character (cond wide_here fault.Character fault.Encoding)))
unfolding stray_fault decoded
stray_by c cs true low w es el ew = rw es refl
stray_by c cs false true w es el ew = let fine : (c == not_utf8) ≡ false = grind (arith, nat_tests) in rw (es, decoded_ascii c cs (grind (arith, nat_tests)), fine) refl
stray_by c cs false false true es el ew =
    let front = wide c cs (grind (arith, nat_tests)) ew in
    let fine : (front.first == not_utf8) ≡ false = not_bad front.first ((and_both (scalar front.first) (all_scalars front.others) front.scalar).0) in
    rw (es, decoded_wide c cs ew, front.are, fine) refl
stray_by c cs false false false es el ew = rw (es, decoded_bad c cs ew) refl

pub stray_at : (h : Bool) (text cs : List ℕ) (c : ℕ) (f : Construct) → c < 256 → text ≡ c ∷ cs → Other c → None ≡ longest_mark (min 3 (length text)) text → f ≡ stray_construct c text → FoundAt h c cs (p.Fault 0 f) 0
unfolding mark_found
stray_at h text cs c f lt e o none is =
    let none' : None ≡ longest_mark (min 3 (suc (length cs))) (c ∷ cs) = none ∙ ap (λ xs. longest_mark (min 3 (length xs)) xs) e in
    let why : stray_fault c cs ≡ Some f = stray_by c cs (c == 92) (nat_lt c 128) (is_utf8 (front_of (c ∷ cs))) refl refl refl ∙ ap (λ x. Some x) (sym (is ∙ ap (stray_construct c) e)) in
    record {
      byte = lt;
      len = mark_len c cs o None none';
      within = omega arith;
      what = ap (λ x. or_fault x p.LineEnd) (sym why) ∙ by_other h c [] cs None o (none_here c cs o (sym none'));
    }
