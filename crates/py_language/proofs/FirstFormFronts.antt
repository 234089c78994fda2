use Rattle.std.proofs.Common.{◌≡◌, refl, sym, ap, ap₂, ◌∙◌, subst, ℕ, zero, suc, ◌+◌, ◌-◌, ◌<◌, ◌≤◌, Bool, true, false, cond, ◌&&◌, ◌||◌, nat_lt, List, [], ◌∷◌, ◌++◌, length, take, drop, map, Option, Some, None, option_map, option_and_then, Err, bytes_eq, codes, length-append, arith, ◌⊎◌, inl, inr, IsSome, is_some}
use Rattle.std.specs.List.{list_all}
use Rattle.std.specs.Char.{is_ascii_digit}
use Rattle.std.proofs.lemmas.Bool.{and_from, and_right, le-ltb, cases_Bool, cases_lt}
use Rattle.std.proofs.lemmas.Slice.Eq.{bytes_eq-Decides}
use Rattle.std.proofs.Math.Seq.{take-append_seam, drop-append_seam}
use Rattle.pyn_base.specs.declared.construct.Construct.TheVariants.{Form}
use Rattle.py_syntax.specs.declared.expr.ExprKind.{ExprKind}
use Rattle.py_syntax.specs.declared.expr.ExprKind.TheVariants.{NoneLit}
use Rattle.py_syntax.specs.declared.refusal.Refusal.TheVariants.{Refused}
use Rattle.py_language.specs.declared.first.First.{First}
use Rattle.py_language.specs.FirstForm.{before, is_name, passing, named_by, returned_by, is_empty_line, parted, is_among, is_distinct, name_of, most_functions, permitted, functions_of, Head, Body, Gap, SecondGap, names_up_to, counted, fitting, first_form, lines_of}
use Rattle.py_language.proofs.FirstFormLemmas.{with_more, Begins, Holds, names_with, names-push, length-names_with, behind_function, regrouped, onto, fitting-head, fitting-function, fitting-gap, with_function, still_distinct}
use Rattle.py_language.proofs.FirstFormLaws.{Start, by_named, by_literal, refused_at}

-- ---- a name that is none of some names

zeros : ℕ → List ℕ
zeros zero = []
zeros (suc n) = 48 ∷ zeros n

-- longer than all of them
abbrev total : List (List ℕ) → ℕ
total [] = 0
total (name ∷ rest) = length name + total rest

abbrev new_name : List (List ℕ) → List ℕ
new_name names = 97 ∷ zeros (total names)

zeros_are_digits : (n : ℕ) → list_all is_ascii_digit (zeros n) ≡ true
unfolding zeros
zeros_are_digits zero = refl
zeros_are_digits (suc n) = zeros_are_digits n

length-zeros : (n : ℕ) → length (zeros n) ≡ n
unfolding zeros
length-zeros zero = refl
length-zeros (suc n) = ap suc (length-zeros n)

is_name-new_name : (names : List (List ℕ)) → is_name (new_name names) ≡ true
is_name-new_name names = zeros_are_digits (total names)

shorter : (other name : List ℕ) (t : Bool) → length other < length name → bytes_eq other name ≡ t → t ≡ false
shorter other name true l e = let same : length other ≡ length name = ap length ((bytes_eq-Decides other name).0 e) in absurd (omega (arith, l, same))
shorter other name false l e = refl

not_among : (names : List (List ℕ)) (name : List ℕ) → total names < length name → is_among names name ≡ false
not_among [] name l = refl
not_among (other ∷ rest) name l =
    ap₂ (λ x y. x || y) (shorter other name (bytes_eq other name) (omega (arith, l)) refl) (not_among rest name (omega (arith, l)))

new_name_is_new : (names : List (List ℕ)) → is_among names (new_name names) ≡ false
new_name_is_new names = not_among names (new_name names) (omega (arith, length-zeros (total names)))

-- ---- a function of that name

abbrev def_line : List ℕ → List ℕ
def_line name = 100 ∷ 101 ∷ 102 ∷ 32 ∷ name ++ codes "():\n"

before_end : (name : List ℕ) → before (codes "():\n") (name ++ codes "():\n") ≡ Some name
before_end name =
    let end : List ℕ = codes "():\n" in
    let size : length (name ++ end) - length end ≡ length name = omega (arith, length-append name end) in
    let back : drop (length (name ++ end) - length end) (name ++ end) ≡ end = ap (λ n. drop n (name ++ end)) size ∙ drop-append_seam name end in
    let front : take (length (name ++ end) - length end) (name ++ end) ≡ name = ap (λ n. take n (name ++ end)) size ∙ take-append_seam name end in
    ap (λ t. cond t (Some (take (length (name ++ end) - length end) (name ++ end))) None) (ap (λ b. bytes_eq b end) back) ∙ ap Some front

named_by-def_line : (name : List ℕ) → is_name name ≡ true → named_by (def_line name) ≡ Some name
named_by-def_line name n = ap (option_and_then (passing is_name)) (before_end name) ∙ ap (λ t. cond t (Some name) None) n

abbrev return_line : List ℕ
return_line = codes "    return None\n"

new_function : (done : List First) → Holds done (def_line (new_name (map name_of done))) return_line (record { name = new_name (map name_of done); literal = NoneLit })
new_function done =
    let names = map name_of done in
    record { begins = record { named = named_by-def_line (new_name names) (is_name-new_name names); fresh = new_name_is_new names }; returned = refl }

-- ---- lines that a text of the form can begin with

-- The first k lines are those of some functions, once more are added.
record Completed (done : List First) (lines : List (List ℕ)) (k : ℕ) : Type 0 where
  more : List (List ℕ)
  all : List First
  is : with_more done (take k lines ++ more) ≡ Some all

at_place : (done : List First) (lines : List (List ℕ)) (place k : ℕ) → place ≡ k → Completed done lines k → Completed done lines place
at_place done lines place k e c = subst (Completed done lines) (sym e) c

before_head : (done : List First) (lines : List (List ℕ)) → is_distinct (map name_of done) ≡ true → length done < 2000 → Completed done lines 0
before_head done lines d l = record {
  more = def_line (new_name (map name_of done)) ∷ return_line ∷ [];
  all = done ++ record { name = new_name (map name_of done); literal = NoneLit } ∷ [];
  is = with_function done _ _ _ (new_function done) d l;
}

before_body : (done : List First) (head name : List ℕ) (rest : List (List ℕ)) → Begins done head name → is_distinct (map name_of done) ≡ true → length done < 2000 → Completed done (head ∷ rest) 1
before_body done head name rest b d l =
    let function : First = record { name = name; literal = NoneLit } in
    let holds : Holds done head return_line function = record { begins = b; returned = refl } in
    record { more = return_line ∷ []; all = done ++ function ∷ []; is = with_function done head return_line function holds d l }

before_gap : (done : List First) (head body : List ℕ) (function : First) (rest : List (List ℕ)) → Holds done head body function → is_distinct (map name_of done) ≡ true → length done < 2000
    → Completed done (head ∷ body ∷ rest) 2
before_gap done head body function rest h d l = record { more = []; all = done ++ function ∷ []; is = with_function done head body function h d l }

-- a function with the empty lines behind it
passed : (done : List First) (head body : List ℕ) (function : First) (gap second : List ℕ) (left : List (List ℕ)) → Holds done head body function → is_empty_line gap ≡ true → is_empty_line second ≡ true
    → with_more done (head ∷ body ∷ gap ∷ second ∷ left) ≡ with_more (done ++ function ∷ []) left
passed done head body function gap second left h g s =
    ap (λ o. option_and_then permitted (option_map (λ more. done ++ more) o))
    (behind_function done head body function gap second left h ∙ ap (λ t. cond t (onto function (parted left)) None) (and_from _ _ g s))
    ∙ regrouped done function (parted left)

one_more : (done : List First) (function : First) → length done + 1 < 2000 → length (done ++ function ∷ []) < 2000
one_more done function l = omega (arith, l, length-append done (function ∷ []))

before_second : (done : List First) (head body : List ℕ) (function : First) (gap : List ℕ) (rest : List (List ℕ)) → Holds done head body function → is_empty_line gap ≡ true
    → is_distinct (map name_of done) ≡ true → length done + 1 < 2000 → Completed done (head ∷ body ∷ gap ∷ rest) 3
before_second done head body function gap rest h g d l =
    let known = done ++ function ∷ [] in
    let next = before_head known [] (still_distinct done function.name function refl d h.begins.fresh) (one_more done function l) in
    record { more = codes "\n" ∷ next.more; all = next.all; is = passed done head body function gap (codes "\n") next.more h g refl ∙ next.is }

behind_second : (done : List First) (head body : List ℕ) (function : First) (gap second : List ℕ) (rest : List (List ℕ)) (k : ℕ) → Holds done head body function → is_empty_line gap ≡ true → is_empty_line second ≡ true
    → Completed (done ++ function ∷ []) rest k → Completed done (head ∷ body ∷ gap ∷ second ∷ rest) (4 + k)
behind_second done head body function gap second rest k h g s next =
    let four : 4 + k ≡ suc (suc (suc (suc k))) = omega arith in
    record {
      more = next.more;
      all = next.all;
      is =
          ap (λ n. with_more done (take n (head ∷ body ∷ gap ∷ second ∷ rest) ++ next.more)) four
          ∙ passed done head body function gap second (take k rest ++ next.more) h g s
          ∙ next.is;
    }

-- ---- as far as the lines fit

Fits : List First → List (List ℕ) → Type 0
Fits done lines = Completed done lines (fitting Head (map name_of done) lines)

at_head : (done : List First) (head : List ℕ) (rest : List (List ℕ)) → is_distinct (map name_of done) ≡ true → length done < 2000 → (names_up_to Head (map name_of done) head ≡ None) ⊎ Start done head
    → ((name : List ℕ) → Begins done head name → Fits done (head ∷ rest)) → Fits done (head ∷ rest)
unfolding Fits
at_head done head rest d l (inl e) next = at_place done (head ∷ rest) _ 0 (ap (counted (λ known. fitting Body known rest)) e) (before_head done (head ∷ rest) d l)
at_head done head rest d l (inr start) next = next start.name start.begins

at_body : (done : List First) (head body name : List ℕ) (rest : List (List ℕ)) → is_distinct (map name_of done) ≡ true → length done < 2000 → Begins done head name
    → (returned_by body ≡ None) ⊎ ((literal : ExprKind) × (returned_by body ≡ Some literal))
    → ((function : First) → Holds done head body function → Fits done (head ∷ body ∷ rest)) → Fits done (head ∷ body ∷ rest)
unfolding Fits
at_body done head body name rest d l b (inl e) next =
    at_place done (head ∷ body ∷ rest) _ 1
    (fitting-head done head name (body ∷ rest) b ∙ ap (λ n. 1 + n) (ap (counted (λ known. fitting Gap known rest)) (ap (option_map (λ literal. map name_of done ++ name ∷ [])) e)))
    (before_body done head name (body ∷ rest) b d l)
at_body done head body name rest d l b (inr found) next = next (record { name = name; literal = found.0 }) (record { begins = b; returned = found.1 })

stops_at_gap : (done : List First) (head body : List ℕ) (function : First) (gap : List ℕ) (rest : List (List ℕ)) → is_distinct (map name_of done) ≡ true → length done < 2000 → Holds done head body function
    → (is_empty_line gap && nat_lt (length (names_with done function)) most_functions) ≡ false → Fits done (head ∷ body ∷ gap ∷ rest)
unfolding Fits
stops_at_gap done head body function gap rest d l h e =
    at_place done (head ∷ body ∷ gap ∷ rest) _ 2
    (fitting-function done head body function (gap ∷ rest) h
    ∙ ap (λ n. 1 + (1 + n)) (ap (λ t. counted (λ known. fitting SecondGap known rest) (cond t (Some (names_with done function)) None)) e))
    (before_gap done head body function (gap ∷ rest) h d l)

at_gap : (done : List First) (head body : List ℕ) (function : First) (gap : List ℕ) (rest : List (List ℕ)) → is_distinct (map name_of done) ≡ true → length done < 2000 → Holds done head body function
    → (is_empty_line gap ≡ true) ⊎ (is_empty_line gap ≡ false) → (length done + 1 < 2000) ⊎ (2000 ≤ length done + 1)
    → (is_empty_line gap ≡ true → length done + 1 < 2000 → Fits done (head ∷ body ∷ gap ∷ rest)) → Fits done (head ∷ body ∷ gap ∷ rest)
at_gap done head body function gap rest d l h (inl e) (inl room) next = next e room
at_gap done head body function gap rest d l h (inl e) (inr no_room) next =
    let size = length-names_with done function in
    stops_at_gap done head body function gap rest d l h (and_right (is_empty_line gap) _ (le-ltb _ _ (omega (arith, size, no_room))))
at_gap done head body function gap rest d l h (inr e) room next =
    stops_at_gap done head body function gap rest d l h (ap (λ t. t && nat_lt (length (names_with done function)) most_functions) e)

at_second : (done : List First) (head body : List ℕ) (function : First) (gap second : List ℕ) (rest : List (List ℕ)) → is_distinct (map name_of done) ≡ true → length done + 1 < 2000 → Holds done head body function
    → is_empty_line gap ≡ true → (is_empty_line second ≡ true) ⊎ (is_empty_line second ≡ false) → Fits (done ++ function ∷ []) rest → Fits done (head ∷ body ∷ gap ∷ second ∷ rest)
unfolding Fits
at_second done head body function gap second rest d room h g (inr s) next =
    at_place done (head ∷ body ∷ gap ∷ second ∷ rest) _ 3
    (fitting-gap done head body function gap (second ∷ rest) h g room
    ∙ ap (λ n. 1 + (1 + (1 + n))) (ap (λ t. counted (λ known. fitting Head known rest) (cond t (Some (names_with done function)) None)) s))
    (before_second done head body function gap (second ∷ rest) h g d room)
at_second done head body function gap second rest d room h g (inl s) next =
    let names : List (List ℕ) = map name_of (done ++ function ∷ []) in
    let four : 1 + (1 + (1 + (1 + fitting Head names rest))) ≡ 4 + fitting Head names rest = omega arith in
    at_place done (head ∷ body ∷ gap ∷ second ∷ rest) _ (4 + fitting Head names rest)
    (fitting-gap done head body function gap (second ∷ rest) h g room
    ∙ ap (λ n. 1 + (1 + (1 + n)))
    (ap (λ t. counted (λ known. fitting Head known rest) (cond t (Some (names_with done function)) None)) s
    ∙ ap (λ known. 1 + fitting Head known rest) (sym (names-push done function)))
    ∙ four)
    (behind_second done head body function gap second rest (fitting Head names rest) h g s next)

fits : (done : List First) (lines : List (List ℕ)) → is_distinct (map name_of done) ≡ true → length done < 2000 → Fits done lines
unfolding Fits
fits done [] d l = before_head done [] d l
fits done (head ∷ []) d l =
    at_head done head [] d l (by_named done head (named_by head) refl) (λ name b. at_place done (head ∷ []) _ 1 (fitting-head done head name [] b) (before_body done head name [] b d l))
fits done (head ∷ body ∷ []) d l =
    at_head done head (body ∷ []) d l (by_named done head (named_by head) refl) (λ name b.
    at_body done head body name [] d l b (by_literal (returned_by body)) (λ function h.
    at_place done (head ∷ body ∷ []) _ 2 (fitting-function done head body function [] h) (before_gap done head body function [] h d l)))
fits done (head ∷ body ∷ gap ∷ []) d l =
    at_head done head (body ∷ gap ∷ []) d l (by_named done head (named_by head) refl) (λ name b.
    at_body done head body name (gap ∷ []) d l b (by_literal (returned_by body)) (λ function h.
    at_gap done head body function gap [] d l h (cases_Bool (is_empty_line gap)) (cases_lt (length done + 1) 2000) (λ g room.
    at_place done (head ∷ body ∷ gap ∷ []) _ 3 (fitting-gap done head body function gap [] h g room) (before_second done head body function gap [] h g d room))))
fits done (head ∷ body ∷ gap ∷ second ∷ rest) d l =
    at_head done head (body ∷ gap ∷ second ∷ rest) d l (by_named done head (named_by head) refl) (λ name b.
    at_body done head body name (gap ∷ second ∷ rest) d l b (by_literal (returned_by body)) (λ function h.
    at_gap done head body function gap (second ∷ rest) d l h (cases_Bool (is_empty_line gap)) (cases_lt (length done + 1) 2000) (λ g room.
    at_second done head body function gap second rest d room h g (cases_Bool (is_empty_line second))
    (fits (done ++ function ∷ []) rest (still_distinct done function.name function refl d h.begins.fresh) (one_more done function room)))))

-- ---- the law

some_functions : (lines : List (List ℕ)) (all : List First) → with_more [] lines ≡ Some all → IsSome (functions_of lines)
some_functions [] all e = refl
some_functions (line ∷ rest) all e = by (parted (line ∷ rest)) e
  where
    by : (o : Option (List First)) → option_and_then permitted (option_map (λ more. [] ++ more) o) ≡ Some all → IsSome (option_and_then permitted o)
    by None e = ap is_some e
    by (Some functions) e = ap is_some e

pub law_of_first : (text : List ℕ) (line : ℕ) → first_form text ≡ Err (Refused line Form) → (more : List (List ℕ)) × IsSome (functions_of (take (line - 1) (lines_of text) ++ more))
unfolding Fits
law_of_first text line e =
    let lines : List (List ℕ) = lines_of text in
    let number : 1 + fitting Head [] lines ≡ line = refused_at lines line (functions_of lines) e in
    let place : fitting Head [] lines ≡ line - 1 = omega (arith, number) in
    let found : Completed [] lines (line - 1) = subst (Completed [] lines) place (fits [] lines refl (omega arith)) in
    (found.more, some_functions (take (line - 1) lines ++ found.more) found.all found.is)
