-- A text of some length is looked for among the keywords of that length alone.
use Rattle.std.proofs.Common.{◌≡◌, ◌∙◌, ap, refl, sym, false, ℕ, Bool, true, cond, List, [], ◌∷◌, ◌++◌, length, None, bytes_eq, Some, arith}
use Rattle.std.specs.Prelude.{◌==◌, ◌||◌, nat_lt}
use Rattle.std.proofs.lemmas.Bool.Decides.{nat_tests}
use Rattle.py_language.specs.declared.token.Keyword.{Keyword}
use Rattle.py_language.specs.TokensNames.{listed, keywords, keywords_of_2, keywords_of_3, keywords_of_4, keywords_of_5, keywords_of_6, keywords_of_7, keywords_of_8}
use Rattle.py_lexer.proofs.LongestLemmas.{none_pass, no_row}

abbrev Rows : Type 0
Rows = List (List ℕ × Keyword)

abbrev is_long : ℕ → List ℕ → Bool
is_long n text = length text == n

-- rows of another length, before and after
past_by : (b : Bool) (x : List ℕ × Keyword) (xs ys : Rows) (text : List ℕ) → (listed xs text ≡ None → listed (xs ++ ys) text ≡ listed ys text) → cond b (Some x.1) (listed xs text) ≡ None → cond b (Some x.1) (listed (xs ++ ys) text) ≡ listed ys text
past_by true x xs ys text ih h = absurd (cc)
past_by false x xs ys text ih h = ih h

past : (xs ys : Rows) (text : List ℕ) → listed xs text ≡ None → listed (xs ++ ys) text ≡ listed ys text
past [] ys text h = refl
past (x ∷ xs) ys text h = past_by (bytes_eq text x.0) x xs ys text (past xs ys text) h

among : (xs ys : Rows) (text : List ℕ) → listed ys text ≡ None → listed (xs ++ ys) text ≡ listed xs text
among [] ys text h = h
among (x ∷ xs) ys text h = ap (λ found. cond (bytes_eq text x.0) (Some x.1) found) (among xs ys text h)

pub of_length_2 : (text : List ℕ) → length text ≡ 2 → listed keywords_of_2 text ≡ listed keywords text
unfolding keywords_of_2 keywords_of_3 keywords_of_4 keywords_of_5 keywords_of_6 keywords_of_7 keywords_of_8
of_length_2 text h =
    let is : is_long 2 text ≡ true = grind (arith, nat_tests) in
    sym (among keywords_of_2 (keywords_of_3 ++ (keywords_of_4 ++ (keywords_of_5 ++ (keywords_of_6 ++ (keywords_of_7 ++ (keywords_of_8)))))) text (no_row (is_long 2) (keywords_of_3 ++ (keywords_of_4 ++ (keywords_of_5 ++ (keywords_of_6 ++ (keywords_of_7 ++ (keywords_of_8)))))) text refl is))

pub of_length_3 : (text : List ℕ) → length text ≡ 3 → listed keywords_of_3 text ≡ listed keywords text
unfolding keywords_of_2 keywords_of_3 keywords_of_4 keywords_of_5 keywords_of_6 keywords_of_7 keywords_of_8
of_length_3 text h =
    let is : is_long 3 text ≡ true = grind (arith, nat_tests) in
    sym (past keywords_of_2 (keywords_of_3 ++ (keywords_of_4 ++ (keywords_of_5 ++ (keywords_of_6 ++ (keywords_of_7 ++ (keywords_of_8)))))) text (no_row (is_long 3) keywords_of_2 text refl is) ∙ among keywords_of_3 (keywords_of_4 ++ (keywords_of_5 ++ (keywords_of_6 ++ (keywords_of_7 ++ (keywords_of_8))))) text (no_row (is_long 3) (keywords_of_4 ++ (keywords_of_5 ++ (keywords_of_6 ++ (keywords_of_7 ++ (keywords_of_8))))) text refl is))

pub of_length_4 : (text : List ℕ) → length text ≡ 4 → listed keywords_of_4 text ≡ listed keywords text
unfolding keywords_of_2 keywords_of_3 keywords_of_4 keywords_of_5 keywords_of_6 keywords_of_7 keywords_of_8
of_length_4 text h =
    let is : is_long 4 text ≡ true = grind (arith, nat_tests) in
    sym (past keywords_of_2 (keywords_of_3 ++ (keywords_of_4 ++ (keywords_of_5 ++ (keywords_of_6 ++ (keywords_of_7 ++ (keywords_of_8)))))) text (no_row (is_long 4) keywords_of_2 text refl is) ∙ past keywords_of_3 (keywords_of_4 ++ (keywords_of_5 ++ (keywords_of_6 ++ (keywords_of_7 ++ (keywords_of_8))))) text (no_row (is_long 4) keywords_of_3 text refl is) ∙ among keywords_of_4 (keywords_of_5 ++ (keywords_of_6 ++ (keywords_of_7 ++ (keywords_of_8)))) text (no_row (is_long 4) (keywords_of_5 ++ (keywords_of_6 ++ (keywords_of_7 ++ (keywords_of_8)))) text refl is))

pub of_length_5 : (text : List ℕ) → length text ≡ 5 → listed keywords_of_5 text ≡ listed keywords text
unfolding keywords_of_2 keywords_of_3 keywords_of_4 keywords_of_5 keywords_of_6 keywords_of_7 keywords_of_8
of_length_5 text h =
    let is : is_long 5 text ≡ true = grind (arith, nat_tests) in
    sym (past keywords_of_2 (keywords_of_3 ++ (keywords_of_4 ++ (keywords_of_5 ++ (keywords_of_6 ++ (keywords_of_7 ++ (keywords_of_8)))))) text (no_row (is_long 5) keywords_of_2 text refl is) ∙ past keywords_of_3 (keywords_of_4 ++ (keywords_of_5 ++ (keywords_of_6 ++ (keywords_of_7 ++ (keywords_of_8))))) text (no_row (is_long 5) keywords_of_3 text refl is) ∙ past keywords_of_4 (keywords_of_5 ++ (keywords_of_6 ++ (keywords_of_7 ++ (keywords_of_8)))) text (no_row (is_long 5) keywords_of_4 text refl is) ∙ among keywords_of_5 (keywords_of_6 ++ (keywords_of_7 ++ (keywords_of_8))) text (no_row (is_long 5) (keywords_of_6 ++ (keywords_of_7 ++ (keywords_of_8))) text refl is))

pub of_length_6 : (text : List ℕ) → length text ≡ 6 → listed keywords_of_6 text ≡ listed keywords text
unfolding keywords_of_2 keywords_of_3 keywords_of_4 keywords_of_5 keywords_of_6 keywords_of_7 keywords_of_8
of_length_6 text h =
    let is : is_long 6 text ≡ true = grind (arith, nat_tests) in
    sym (past keywords_of_2 (keywords_of_3 ++ (keywords_of_4 ++ (keywords_of_5 ++ (keywords_of_6 ++ (keywords_of_7 ++ (keywords_of_8)))))) text (no_row (is_long 6) keywords_of_2 text refl is) ∙ past keywords_of_3 (keywords_of_4 ++ (keywords_of_5 ++ (keywords_of_6 ++ (keywords_of_7 ++ (keywords_of_8))))) text (no_row (is_long 6) keywords_of_3 text refl is) ∙ past keywords_of_4 (keywords_of_5 ++ (keywords_of_6 ++ (keywords_of_7 ++ (keywords_of_8)))) text (no_row (is_long 6) keywords_of_4 text refl is) ∙ past keywords_of_5 (keywords_of_6 ++ (keywords_of_7 ++ (keywords_of_8))) text (no_row (is_long 6) keywords_of_5 text refl is) ∙ among keywords_of_6 (keywords_of_7 ++ (keywords_of_8)) text (no_row (is_long 6) (keywords_of_7 ++ (keywords_of_8)) text refl is))

pub of_length_7 : (text : List ℕ) → length text ≡ 7 → listed keywords_of_7 text ≡ listed keywords text
unfolding keywords_of_2 keywords_of_3 keywords_of_4 keywords_of_5 keywords_of_6 keywords_of_7 keywords_of_8
of_length_7 text h =
    let is : is_long 7 text ≡ true = grind (arith, nat_tests) in
    sym (past keywords_of_2 (keywords_of_3 ++ (keywords_of_4 ++ (keywords_of_5 ++ (keywords_of_6 ++ (keywords_of_7 ++ (keywords_of_8)))))) text (no_row (is_long 7) keywords_of_2 text refl is) ∙ past keywords_of_3 (keywords_of_4 ++ (keywords_of_5 ++ (keywords_of_6 ++ (keywords_of_7 ++ (keywords_of_8))))) text (no_row (is_long 7) keywords_of_3 text refl is) ∙ past keywords_of_4 (keywords_of_5 ++ (keywords_of_6 ++ (keywords_of_7 ++ (keywords_of_8)))) text (no_row (is_long 7) keywords_of_4 text refl is) ∙ past keywords_of_5 (keywords_of_6 ++ (keywords_of_7 ++ (keywords_of_8))) text (no_row (is_long 7) keywords_of_5 text refl is) ∙ past keywords_of_6 (keywords_of_7 ++ (keywords_of_8)) text (no_row (is_long 7) keywords_of_6 text refl is) ∙ among keywords_of_7 (keywords_of_8) text (no_row (is_long 7) (keywords_of_8) text refl is))

pub of_length_8 : (text : List ℕ) → length text ≡ 8 → listed keywords_of_8 text ≡ listed keywords text
unfolding keywords_of_2 keywords_of_3 keywords_of_4 keywords_of_5 keywords_of_6 keywords_of_7 keywords_of_8
of_length_8 text h =
    let is : is_long 8 text ≡ true = grind (arith, nat_tests) in
    sym (past keywords_of_2 (keywords_of_3 ++ (keywords_of_4 ++ (keywords_of_5 ++ (keywords_of_6 ++ (keywords_of_7 ++ (keywords_of_8)))))) text (no_row (is_long 8) keywords_of_2 text refl is) ∙ past keywords_of_3 (keywords_of_4 ++ (keywords_of_5 ++ (keywords_of_6 ++ (keywords_of_7 ++ (keywords_of_8))))) text (no_row (is_long 8) keywords_of_3 text refl is) ∙ past keywords_of_4 (keywords_of_5 ++ (keywords_of_6 ++ (keywords_of_7 ++ (keywords_of_8)))) text (no_row (is_long 8) keywords_of_4 text refl is) ∙ past keywords_of_5 (keywords_of_6 ++ (keywords_of_7 ++ (keywords_of_8))) text (no_row (is_long 8) keywords_of_5 text refl is) ∙ past keywords_of_6 (keywords_of_7 ++ (keywords_of_8)) text (no_row (is_long 8) keywords_of_6 text refl is) ∙ past keywords_of_7 (keywords_of_8) text (no_row (is_long 8) keywords_of_7 text refl is))

pub of_no_length : (text : List ℕ) → (nat_lt (length text) 2 || nat_lt 8 (length text)) ≡ true → None ≡ listed keywords text
unfolding keywords_of_2 keywords_of_3 keywords_of_4 keywords_of_5 keywords_of_6 keywords_of_7 keywords_of_8
of_no_length text h = sym (no_row (λ t. nat_lt (length t) 2 || nat_lt 8 (length t)) keywords text refl h)
