-- Identifiers are ASCII: their bytes are their characters.
use Rattle.std.proofs.Common.{◌≡◌, ◌∙◌, refl, sym, ap, ℕ, ◌≤◌, Bool, true, false, not, ◌&&◌, ◌||◌, ◌==◌, nat_le, List, [], ◌∷◌, encode_utf8_all, arith, bytes_eq, codes}
use Rattle.std.specs.List.{list_all}
use Rattle.std.specs.Char.{is_ascii}
use Rattle.std.proofs.lemmas.Bool.{false≢true}
use Rattle.std.proofs.lemmas.Bool.Decides.{nat_tests}
use Rattle.std.proofs.lemmas.Str.{encodes-chars, chars-IsAscii, IsUtf8-from_ascii}
use Rattle.pyn_base.proofs.Ascii.{IsAscii-list_all}
use Rattle.py_language.specs.TokensCharacters.{is_letter, is_digit, is_word}
use Rattle.py_language.specs.TokensNames.{is_name}
use Rattle.pyn_model.specs.FirstModules.{is_one_line}
use Rattle.pyn_model.proofs.Booleans.{both, and_true}
use Rattle.pyn_model.proofs.Judging.{other_number}
use Rattle.pynguin_job.specs.Words.{is_keyword, is_module_name}

le_ascii : (c k : ℕ) → k ≤ 127 → nat_le c k ≡ true → is_ascii c ≡ true
le_ascii c k le e = grind (arith, nat_tests, e, le)

-- one of the tests of a class of characters
one_of : (a b : Bool) → (a || b) ≡ true → (P : Type 0) → (a ≡ true → P) → (b ≡ true → P) → P
one_of true b e P f g = f refl
one_of false b e P f g = g e

same_ascii : (c : ℕ) → (c == 95) ≡ true → is_ascii c ≡ true
same_ascii c e = grind (arith, nat_tests, e)

letter_ascii : (c : ℕ) → is_letter c ≡ true → is_ascii c ≡ true
letter_ascii c e =
    one_of (nat_le 65 c && nat_le c 90) ((nat_le 97 c && nat_le c 122) || (c == 95)) e (is_ascii c ≡ true)
    (λ l. le_ascii c 90 (omega arith) (both (nat_le 65 c) (nat_le c 90) l).1)
    (λ m. one_of (nat_le 97 c && nat_le c 122) (c == 95) m (is_ascii c ≡ true)
    (λ l. le_ascii c 122 (omega arith) (both (nat_le 97 c) (nat_le c 122) l).1) (same_ascii c))

word_ascii : (c : ℕ) → is_word c ≡ true → is_ascii c ≡ true
word_ascii c e =
    one_of (is_letter c) (is_digit c) e (is_ascii c ≡ true) (letter_ascii c)
    (λ d. le_ascii c 57 (omega arith) (both (nat_le 48 c) (nat_le c 57) d).1)

words_ascii : (cs : List ℕ) → list_all is_word cs ≡ true → list_all is_ascii cs ≡ true
words_ascii [] e = refl
words_ascii (c ∷ cs) e = let parts = both (is_word c) (list_all is_word cs) e in and_true _ _ (word_ascii c parts.0) (words_ascii cs parts.1)

name_ascii : (name : List ℕ) → is_name name ≡ true → list_all is_ascii name ≡ true
name_ascii [] e = refl
name_ascii (c ∷ cs) e = let parts = both (is_letter c) (list_all is_word cs) e in and_true _ _ (letter_ascii c parts.0) (words_ascii cs parts.1)

pub encoded_name : (name : List ℕ) → is_name name ≡ true → encode_utf8_all name ≡ name
encoded_name name e =
    let ascii = IsAscii-list_all name (name_ascii name e) in
    ap encode_utf8_all (sym (chars-IsAscii name ascii)) ∙ encodes-chars name (IsUtf8-from_ascii name ascii)

keyword_is : (name : List ℕ) (name' : List ℕ) (k : Bool) → is_name name ≡ true → name' ≡ encode_utf8_all name → k ≡ is_keyword name' → k ≡ is_keyword name
keyword_is name name' k n e is = is ∙ ap is_keyword (e ∙ encoded_name name n)

pub no_module : (name name' : List ℕ) (k : Bool) → is_name name ≡ true → name' ≡ encode_utf8_all name → k ≡ is_keyword name' → true ≡ k → false ≡ is_module_name name
no_module name name' k n e is t =
    sym (ap (λ (w : Bool). is_name name && not w && not (bytes_eq name (codes "pytest"))) (sym (t ∙ keyword_is name name' k n e is))
    ∙ ap (λ (w : Bool). w && false && not (bytes_eq name (codes "pytest"))) n)

pub module_or_pytest : (name name' : List ℕ) (k p : Bool) → is_name name ≡ true → name' ≡ encode_utf8_all name → k ≡ is_keyword name' → k ≡ false
    → p ≡ bytes_eq name (codes "pytest") → not p ≡ is_module_name name
module_or_pytest name name' k p n e is f q =
    sym (ap (λ (w : Bool). is_name name && not w && not (bytes_eq name (codes "pytest"))) (sym (keyword_is name name' k n e is) ∙ f)
    ∙ ap (λ (w : Bool). w && true && not (bytes_eq name (codes "pytest"))) n
    ∙ ap not (sym q))

-- ---- an identifier has no line feed

stays : (c : ℕ) → is_word c ≡ true → not (c == 10) ≡ true
stays c e = ap not (other_number c 10 (λ is. absurd (false≢true (ap is_word (sym is) ∙ e))))

word_of_letter : (c : ℕ) → is_letter c ≡ true → is_word c ≡ true
word_of_letter c e = ap (λ b. b || is_digit c) e

words_stay : (cs : List ℕ) → list_all is_word cs ≡ true → is_one_line cs ≡ true
words_stay [] e = refl
words_stay (c ∷ cs) e = let parts = both (is_word c) (list_all is_word cs) e in and_true _ _ (stays c parts.0) (words_stay cs parts.1)

pub one_line-name : (name : List ℕ) → is_name name ≡ true → is_one_line name ≡ true
one_line-name [] e = refl
one_line-name (c ∷ cs) e =
    let parts = both (is_letter c) (list_all is_word cs) e in
    and_true _ _ (stays c (word_of_letter c parts.0)) (words_stay cs parts.1)
