use Rattle.std.proofs.Common.{◌≡◌, refl, sym, ap, ◌∙◌, ℕ, suc, ◌+◌, ◌<◌, ◌≤◌, Bool, true, false, cond, ◌&&◌, nat_lt, List, [], ◌∷◌, ◌++◌, length, take, drop, map, Option, Some, None, option_map, option_and_then, Result, Ok, Err, arith, min, is_ok, ◌⊎◌, inl, inr}
use Rattle.std.proofs.lemmas.Bool.{and_from, and_right, le-ltb, cases_Bool, cases_lt, both_ways}
use Rattle.std.proofs.lemmas.List.{length-take, take-append-drop}
use Rattle.pyn_base.specs.declared.construct.Construct.TheVariants.{Form}
use Rattle.py_syntax.specs.declared.expr.ExprKind.{ExprKind}
use Rattle.py_syntax.specs.declared.refusal.Refusal.{Refusal}
use Rattle.py_syntax.specs.declared.refusal.Refusal.TheVariants.{Refused, Memory}
use Rattle.py_syntax.specs.declared.module.Module.{Module}
use Rattle.py_language.specs.declared.first.First.{First}
use Rattle.py_language.specs.FirstForm.{named_by, returned_by, is_empty_line, parted, is_among, name_of, most_functions, permitted, functions_of, Head, Body, Gap, SecondGap, names_up_to, counted, fitting, refused_line, answer, first_form, lines_of}
use Rattle.py_language.proofs.FirstFormLemmas.{with_more, none_more, none_behind, no_literal, no_gap, full_behind, no_second, Begins, Holds, names_with, names-push, length-names_with, behind_function, regrouped, onto, fitting-head, fitting-function, fitting-gap}

-- ---- no text of the form begins with the lines up to one that does not fit

-- Where a line does not fit behind these functions, they have none with the lines up to it, whatever follows.
abbrev Ends : List First → List (List ℕ) → List (List ℕ) → Type 0
Ends done lines more =
    fitting Head (map name_of done) lines < length lines → with_more done (take (1 + fitting Head (map name_of done) lines) lines ++ more) ≡ None

-- the lines up to the one behind the first k
up_to : (done : List First) (lines more : List (List ℕ)) (k : ℕ) → fitting Head (map name_of done) lines ≡ k → with_more done (take (1 + k) lines ++ more) ≡ None
    → with_more done (take (1 + fitting Head (map name_of done) lines) lines ++ more) ≡ None
up_to done lines more k e h = ap (λ n. with_more done (take (1 + n) lines ++ more)) e ∙ h

-- ---- the first line

pub record Start (done : List First) (head : List ℕ) : Type 0 where
  pub name : List ℕ
  pub begins : Begins done head name

by_name : (done : List First) (head name : List ℕ) (t : Bool) → named_by head ≡ Some name → is_among (map name_of done) name ≡ t → (names_up_to Head (map name_of done) head ≡ None) ⊎ Start done head
by_name done head name true n f =
    inl (ap (λ o. option_and_then (λ name. cond (is_among (map name_of done) name) None (Some (map name_of done ++ name ∷ []))) o) n
    ∙ ap (λ t. cond t None (Some (map name_of done ++ name ∷ []))) f)
by_name done head name false n f = inr (record { name = name; begins = record { named = n; fresh = f } })

pub by_named : (done : List First) (head : List ℕ) (o : Option (List ℕ)) → named_by head ≡ o → (names_up_to Head (map name_of done) head ≡ None) ⊎ Start done head
by_named done head None n = inl (ap (λ o. option_and_then (λ name. cond (is_among (map name_of done) name) None (Some (map name_of done ++ name ∷ []))) o) n)
by_named done head (Some name) n = by_name done head name (is_among (map name_of done) name) n refl

at_head : (done : List First) (head : List ℕ) (rest more : List (List ℕ)) → (names_up_to Head (map name_of done) head ≡ None) ⊎ Start done head
    → ((name : List ℕ) → Begins done head name → Ends done (head ∷ rest) more) → Ends done (head ∷ rest) more
at_head done head rest more (inl e) next h =
    up_to done (head ∷ rest) more 0 (ap (counted (λ known. fitting Body known rest)) e) (none_behind done head more (named_by head) refl e)
at_head done head rest more (inr start) next h = next start.name start.begins h

-- ---- the second

pub by_literal : (o : Option ExprKind) → (o ≡ None) ⊎ ((literal : ExprKind) × (o ≡ Some literal))
by_literal None = inl refl
by_literal (Some literal) = inr (literal, refl)

at_body : (done : List First) (head body name : List ℕ) (rest more : List (List ℕ)) → Begins done head name → (returned_by body ≡ None) ⊎ ((literal : ExprKind) × (returned_by body ≡ Some literal))
    → ((function : First) → Holds done head body function → Ends done (head ∷ body ∷ rest) more) → Ends done (head ∷ body ∷ rest) more
at_body done head body name rest more b (inl e) next h =
    up_to done (head ∷ body ∷ rest) more 1
    (fitting-head done head name (body ∷ rest) b ∙ ap (λ n. 1 + n) (ap (counted (λ known. fitting Gap known rest)) (ap (option_map (λ literal. map name_of done ++ name ∷ [])) e)))
    (none_more done (head ∷ body ∷ more) (no_literal head body name more b.named e))
at_body done head body name rest more b (inr found) next h = next (record { name = name; literal = found.0 }) (record { begins = b; returned = found.1 }) h

-- ---- the empty lines

gap_ends : (done : List First) (head body : List ℕ) (function : First) (gap : List ℕ) (rest more : List (List ℕ)) → Holds done head body function
    → (is_empty_line gap && nat_lt (length (names_with done function)) most_functions) ≡ false → with_more done (head ∷ body ∷ gap ∷ more) ≡ None
    → with_more done (take (1 + fitting Head (map name_of done) (head ∷ body ∷ gap ∷ rest)) (head ∷ body ∷ gap ∷ rest) ++ more) ≡ None
gap_ends done head body function gap rest more holds e none =
    up_to done (head ∷ body ∷ gap ∷ rest) more 2
    (fitting-function done head body function (gap ∷ rest) holds
    ∙ ap (λ n. 1 + (1 + n)) (ap (λ t. counted (λ known. fitting SecondGap known rest) (cond t (Some (names_with done function)) None)) e))
    none

at_gap : (done : List First) (head body : List ℕ) (function : First) (gap : List ℕ) (rest more : List (List ℕ)) → Holds done head body function
    → (is_empty_line gap ≡ true) ⊎ (is_empty_line gap ≡ false) → (length done + 1 < 2000) ⊎ (2000 ≤ length done + 1)
    → (is_empty_line gap ≡ true → length done + 1 < 2000 → Ends done (head ∷ body ∷ gap ∷ rest) more) → Ends done (head ∷ body ∷ gap ∷ rest) more
at_gap done head body function gap rest more holds (inl e) (inl room) next h = next e room h
at_gap done head body function gap rest more holds (inl e) (inr no_room) next h =
    let size = length-names_with done function in
    gap_ends done head body function gap rest more holds (and_right (is_empty_line gap) _ (le-ltb _ _ (omega (arith, size, no_room)))) (full_behind done head body function gap more holds no_room)
at_gap done head body function gap rest more holds (inr e) room next h =
    gap_ends done head body function gap rest more holds (ap (λ t. t && nat_lt (length (names_with done function)) most_functions) e)
    (none_more done (head ∷ body ∷ gap ∷ more) (no_gap done head body function gap more holds e))

at_second : (done : List First) (head body : List ℕ) (function : First) (gap second : List ℕ) (rest more : List (List ℕ)) → Holds done head body function → is_empty_line gap ≡ true → length done + 1 < 2000
    → (is_empty_line second ≡ true) ⊎ (is_empty_line second ≡ false) → Ends (done ++ function ∷ []) rest more → Ends done (head ∷ body ∷ gap ∷ second ∷ rest) more
at_second done head body function gap second rest more holds g room (inr s) next h =
    up_to done (head ∷ body ∷ gap ∷ second ∷ rest) more 3
    (fitting-gap done head body function gap (second ∷ rest) holds g room
    ∙ ap (λ n. 1 + (1 + (1 + n))) (ap (λ t. counted (λ known. fitting Head known rest) (cond t (Some (names_with done function)) None)) s))
    (none_more done (head ∷ body ∷ gap ∷ second ∷ more) (no_second done head body function gap (second ∷ more) holds s))
at_second done head body function gap second rest more holds g room (inl s) next h =
    let names : List (List ℕ) = map name_of (done ++ function ∷ []) in
    let fits : fitting Head (map name_of done) (head ∷ body ∷ gap ∷ second ∷ rest) ≡ 4 + fitting Head names rest =
    fitting-gap done head body function gap (second ∷ rest) holds g room
    ∙ ap (λ n. 1 + (1 + (1 + n)))
    (ap (λ t. counted (λ known. fitting Head known rest) (cond t (Some (names_with done function)) None)) s
    ∙ ap (λ known. 1 + fitting Head known rest) (sym (names-push done function)))
    ∙ four_more (fitting Head names rest) in
    let inner : fitting Head names rest < length rest = omega (arith, h, fits) in
    let left : List (List ℕ) = take (1 + fitting Head names rest) rest ++ more in
    up_to done (head ∷ body ∷ gap ∷ second ∷ rest) more (4 + fitting Head names rest) fits
    (ap (λ n. with_more done (take n (head ∷ body ∷ gap ∷ second ∷ rest) ++ more)) (five_more (fitting Head names rest))
    ∙ ap (λ o. option_and_then permitted (option_map (λ more. done ++ more) o))
    (behind_function done head body function gap second left holds ∙ ap (λ t. cond t (onto function (parted left)) None) (and_from _ _ g s))
    ∙ regrouped done function (parted left)
    ∙ next inner)
  where
    four_more : (n : ℕ) → 1 + (1 + (1 + (1 + n))) ≡ 4 + n
    four_more n = omega arith

    five_more : (n : ℕ) → 1 + (4 + n) ≡ suc (suc (suc (suc (1 + n))))
    five_more n = omega arith

pub ends : (done : List First) (lines more : List (List ℕ)) → Ends done lines more
ends done [] more = λ h. absurd (omega (arith, h))
ends done (head ∷ []) more =
    at_head done head [] more (by_named done head (named_by head) refl) (λ name b h. absurd (omega (arith, h, fitting-head done head name [] b)))
ends done (head ∷ body ∷ []) more =
    at_head done head (body ∷ []) more (by_named done head (named_by head) refl) (λ name b.
    at_body done head body name [] more b (by_literal (returned_by body)) (λ function holds h. absurd (omega (arith, h, fitting-function done head body function [] holds))))
ends done (head ∷ body ∷ gap ∷ []) more =
    at_head done head (body ∷ gap ∷ []) more (by_named done head (named_by head) refl) (λ name b.
    at_body done head body name (gap ∷ []) more b (by_literal (returned_by body)) (λ function holds.
    at_gap done head body function gap [] more holds (cases_Bool (is_empty_line gap)) (cases_lt (length done + 1) 2000) (λ g room h.
    absurd (omega (arith, h, fitting-gap done head body function gap [] holds g room)))))
ends done (head ∷ body ∷ gap ∷ second ∷ rest) more =
    at_head done head (body ∷ gap ∷ second ∷ rest) more (by_named done head (named_by head) refl) (λ name b.
    at_body done head body name (gap ∷ second ∷ rest) more b (by_literal (returned_by body)) (λ function holds.
    at_gap done head body function gap (second ∷ rest) more holds (cases_Bool (is_empty_line gap)) (cases_lt (length done + 1) 2000) (λ g room.
    at_second done head body function gap second rest more holds g room (cases_Bool (is_empty_line second)) (ends (done ++ function ∷ []) rest more))))

-- ---- the law

-- what a text's answer is
abbrev line_in : Result Module Refusal → ℕ
line_in (Ok module_) = 0
line_in (Err (Refused line construct)) = line
line_in (Err Memory) = 0

pub refused_at : (lines : List (List ℕ)) (line : ℕ) (o : Option (List First)) → answer lines o ≡ Err (Refused line Form) → refused_line lines ≡ line
refused_at lines line None e = ap line_in e
refused_at lines line (Some functions) e = absurd (both_ways true (ap is_ok e) refl)

pub without : (o : Option (List First)) → option_and_then permitted (option_map (λ more. [] ++ more) o) ≡ None → option_and_then permitted o ≡ None
without None e = refl
without (Some functions) e = e

no_functions : (lines : List (List ℕ)) → 0 < length lines → with_more [] lines ≡ None → functions_of lines ≡ None
no_functions [] h e = absurd (omega (arith, h))
no_functions (line ∷ rest) h e = without (parted (line ∷ rest)) e

pub law_of_refusal : (text other : List ℕ) (line : ℕ) → first_form text ≡ Err (Refused line Form) → line ≤ length (lines_of text) → take line (lines_of other) ≡ take line (lines_of text)
    → functions_of (lines_of other) ≡ None
law_of_refusal text other line e within same =
    let lines : List (List ℕ) = lines_of text in
    let number : 1 + fitting Head [] lines ≡ line = refused_at lines line (functions_of lines) e in
    let whole : take (1 + fitting Head [] lines) lines ++ drop line (lines_of other) ≡ lines_of other =
    ap (λ n. take n lines ++ drop line (lines_of other)) number ∙ ap (λ front. front ++ drop line (lines_of other)) (sym same) ∙ take-append-drop line (lines_of other) in
    let none : with_more [] (lines_of other) ≡ None = ap (with_more []) (sym whole) ∙ ends [] lines (drop line (lines_of other)) (omega (arith, number, within)) in
    let size : length (take line (lines_of other)) ≡ min line (length lines) = ap length same ∙ length-take line lines in
    no_functions (lines_of other) (omega (arith, size, number, within, length-take line (lines_of other))) none
