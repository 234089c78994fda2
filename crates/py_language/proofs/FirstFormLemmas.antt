use Rattle.std.proofs.Common.{◌≡◌, refl, ap, ◌∙◌, ℕ, ◌+◌, ◌*◌, Bool, true, false, not, ◌&&◌, ◌||◌, List, [], ◌∷◌, ◌++◌, length, map, Option, Some, None, option_map, option_and_then, Result, Ok, Err, bytes_eq, sym, ap₂, subst, suc, ◌<◌, ◌≤◌, cond, nat_le, nat_lt, append_assoc, length-append, arith, ◌⊎◌, inl, inr}
use Rattle.std.proofs.lemmas.Bool.{both_ways, and_right, and_parts, and_from, le-leb, lt-leb, lt-ltb, le-ltb}
use Rattle.std.proofs.lemmas.Cmp.{nat_list_eq_equiv}
use Rattle.std.proofs.lemmas.List.Folds.{list_any-append}
use Rattle.pyn_base.specs.declared.construct.Construct.TheVariants.{Form}
use Rattle.py_syntax.specs.declared.refusal.Refusal.{Refusal}
use Rattle.py_syntax.specs.declared.refusal.Refusal.TheVariants.{Refused}
use Rattle.py_syntax.specs.declared.module.Module.{Module}
use Rattle.py_language.specs.declared.first.First.{First}
use Rattle.py_language.specs.FirstForm.{parted, is_among, is_distinct, name_of, permitted, functions_of, Head, fitting, module_of, answer, named_by, returned_by, is_empty_line, function_of, most_functions, Body, Gap, SecondGap, names_up_to, counted}
use Rattle.std.specs.Option.{option_map_or}
use Rattle.std.proofs.lemmas.List.{map-append, length-map}
use Rattle.std.proofs.lemmas.Option.{none-some}
use Rattle.py_syntax.specs.declared.expr.ExprKind.{ExprKind}

-- the first of some lines, or nothing where there is none
abbrev pub first_line : List (List ℕ) → List ℕ
first_line [] = []
first_line (line ∷ rest) = line

-- ---- names that stand twice

pub is_among-append : (names more : List (List ℕ)) (name : List ℕ) → is_among (names ++ more) name ≡ (is_among names name || is_among more name)
is_among-append names more name = list_any-append (λ other. bytes_eq other name) names more

repeated_here : (t : Bool) (first : List ℕ) (names : List (List ℕ)) (name : List ℕ) (more : List (List ℕ)) → bytes_eq first name ≡ t
    → (t || is_among names name) ≡ true → (is_among names name ≡ true → is_distinct (names ++ name ∷ more) ≡ false) → is_distinct (first ∷ names ++ name ∷ more) ≡ false
repeated_here true first names name more e h rest =
    let here : is_among (names ++ name ∷ more) first ≡ true =
    is_among-append names (name ∷ more) first
    ∙ ap (λ b. is_among names first || (b || is_among more first)) (nat_list_eq_equiv.symm name first ∙ e)
    ∙ or_true (is_among names first) in
    ap (λ b. not b && is_distinct (names ++ name ∷ more)) here
  where
    or_true : (b : Bool) → (b || true) ≡ true
    or_true true = refl
    or_true false = refl
repeated_here false first names name more e h rest = and_right (not (is_among (names ++ name ∷ more) first)) _ (rest h)

-- a name that is among those before it stands twice
pub is_distinct-repeated : (names : List (List ℕ)) (name : List ℕ) (more : List (List ℕ)) → is_among names name ≡ true → is_distinct (names ++ name ∷ more) ≡ false
is_distinct-repeated [] name more h = absurd (both_ways false refl h)
is_distinct-repeated (first ∷ names) name more h = repeated_here (bytes_eq first name) first names name more refl h (is_distinct-repeated names name more)

-- one that is not keeps them apart
fresh : (first : List ℕ) (names : List (List ℕ)) (name : List ℕ) → bytes_eq first name ≡ false → is_among (names ++ name ∷ []) first ≡ is_among names first
fresh first names name e =
    is_among-append names (name ∷ []) first
    ∙ ap (λ b. is_among names first || (b || false)) (nat_list_eq_equiv.symm name first ∙ e)
    ∙ or_false (is_among names first)
  where
    or_false : (b : Bool) → (b || false) ≡ b
    or_false true = refl
    or_false false = refl

or_left : (x y : Bool) → (x || y) ≡ false → x ≡ false
or_left true y e = e
or_left false y e = refl

or_right : (x y : Bool) → (x || y) ≡ false → y ≡ false
or_right true y e = absurd (both_ways true e refl)
or_right false y e = e

pub is_distinct-push : (names : List (List ℕ)) (name : List ℕ) → is_distinct names ≡ true → is_among names name ≡ false → is_distinct (names ++ name ∷ []) ≡ true
is_distinct-push [] name d h = refl
is_distinct-push (first ∷ names) name d h =
    let parts = and_parts (not (is_among names first)) (is_distinct names) d in
    and_from _ _
    (ap not (fresh first names name (or_left _ _ h)) ∙ parts.0)
    (is_distinct-push names name parts.1 (or_right (bytes_eq first name) _ h))

-- ---- what is awaited behind some functions, where these lines are left

abbrev pub answered : ℕ → Option (List First) → Result Module Refusal
answered line None = Err (Refused line Form)
answered line (Some functions) = Ok (module_of functions)

abbrev pub with_more : List First → List (List ℕ) → Option (List First)
with_more done lines = option_and_then permitted (option_map (λ more. done ++ more) (parted lines))

abbrev pub awaited : List First → List (List ℕ) → Result Module Refusal
awaited done lines = answered (4 * length done + 1 + fitting Head (map name_of done) lines) (with_more done lines)

-- at first it is what the form gives
pub awaited-first : (line : List ℕ) (lines : List (List ℕ)) → answer (line ∷ lines) (functions_of (line ∷ lines)) ≡ awaited [] (line ∷ lines)
awaited-first line lines = by (parted (line ∷ lines))
  where
    by : (o : Option (List First)) → answer (line ∷ lines) (option_and_then permitted o) ≡ answered (1 + fitting Head [] (line ∷ lines)) (option_and_then permitted (option_map (λ more. [] ++ more) o))
    by None = refl
    by (Some functions) = choose (permitted functions)
      where
        choose : (o : Option (List First)) → answer (line ∷ lines) o ≡ answered (1 + fitting Head [] (line ∷ lines)) o
        choose None = refl
        choose (Some all) = refl

-- ---- what is refused

-- lines that hold no functions are refused behind those that fit
refuses : (done : List First) (lines : List (List ℕ)) (k : ℕ) → with_more done lines ≡ None → fitting Head (map name_of done) lines ≡ k
    → awaited done lines ≡ Err (Refused (4 * length done + 1 + k) Form)
refuses done lines k e f = ap (answered (4 * length done + 1 + fitting Head (map name_of done) lines)) e ∙ ap (λ n. Err (Refused (4 * length done + 1 + n) Form)) f

pub none_more : (done : List First) (lines : List (List ℕ)) → parted lines ≡ None → with_more done lines ≡ None
none_more done lines e = ap (λ o. option_and_then permitted (option_map (λ more. done ++ more) o)) e

some_more : (done : List First) (lines : List (List ℕ)) (more : List First) → parted lines ≡ Some more → with_more done lines ≡ permitted (done ++ more)
some_more done lines more e = ap (λ o. option_and_then permitted (option_map (λ more. done ++ more) o)) e

-- ---- the first line

-- the function of this name, where there is a literal
abbrev made : List ℕ → Option ExprKind → Option First
made name o = option_map {T = ExprKind} {U = First} (λ literal. record { name = name; literal = literal }) o

-- the same, where there is a name
abbrev made_of : List ℕ → Option (List ℕ) → Option First
made_of body o = option_and_then {T = List ℕ} {U = First} (λ name. made name (returned_by body)) o

abbrev alone : Option First → Option (List First)
alone o = option_map {T = First} {U = List First} (λ f. f ∷ []) o

abbrev pub onto : First → Option (List First) → Option (List First)
onto function o = option_map {T = List First} {U = List First} (λ more. function ∷ more) o

-- the function with those behind two lines
abbrev followed : List ℕ → List ℕ → List (List ℕ) → Option First → Option (List First)
followed gap second rest o = option_and_then {T = First} {U = List First} (λ function. cond (is_empty_line gap && is_empty_line second) (onto function (parted rest)) None) o

unnamed : (head : List ℕ) (rest : List (List ℕ)) → named_by head ≡ None → parted (head ∷ rest) ≡ None
unnamed head [] e = refl
unnamed head (body ∷ []) e = ap (λ o. alone (made_of body o)) e
unnamed head (body ∷ gap ∷ []) e = refl
unnamed head (body ∷ gap ∷ second ∷ rest) e = ap (λ o. followed gap second rest (made_of body o)) e

-- where there are functions, the first has the name of the first line
record Named (name : List ℕ) (o : Option (List First)) : Type 0 where
  literal : ExprKind
  more : List First
  is : o ≡ Some (record { name = name; literal = literal } ∷ more)

one_named : (name : List ℕ) (o : Option ExprKind) → (alone (made name o) ≡ None) ⊎ Named name (alone (made name o))
one_named name None = inl refl
one_named name (Some literal) = inr (record { literal = literal; more = []; is = refl })

joined_named : (name : List ℕ) (literal : ExprKind) (t : Bool) (o : Option (List First))
    → (cond t (onto (record { name = name; literal = literal }) o) None ≡ None) ⊎ Named name (cond t (onto (record { name = name; literal = literal }) o) None)
joined_named name literal false o = inl refl
joined_named name literal true None = inl refl
joined_named name literal true (Some more) = inr (record { literal = literal; more = more; is = refl })

more_named : (name gap second : List ℕ) (rest : List (List ℕ)) (o : Option ExprKind)
    → (followed gap second rest (made name o) ≡ None) ⊎ Named name (followed gap second rest (made name o))
more_named name gap second rest None = inl refl
more_named name gap second rest (Some literal) = joined_named name literal (is_empty_line gap && is_empty_line second) (parted rest)

named_first : (head : List ℕ) (rest : List (List ℕ)) (name : List ℕ) → named_by head ≡ Some name → (parted (head ∷ rest) ≡ None) ⊎ Named name (parted (head ∷ rest))
named_first head [] name e = inl refl
named_first head (body ∷ []) name e = let P : Option First → Type 0 = λ o. (alone o ≡ None) ⊎ Named name (alone o) in subst P (sym (ap (made_of body) e)) (one_named name (returned_by body))
named_first head (body ∷ gap ∷ []) name e = inl refl
named_first head (body ∷ gap ∷ second ∷ rest) name e = let P : Option First → Type 0 = λ o. (followed gap second rest o ≡ None) ⊎ Named name (followed gap second rest o) in subst P (sym (ap (made_of body) e)) (more_named name gap second rest (returned_by body))

not_permitted : (functions : List First) → is_distinct (map name_of functions) ≡ false → permitted functions ≡ None
not_permitted functions e = ap (λ t. cond (t && nat_le (length functions) most_functions) (Some functions) None) e

repeated : (done : List First) (lines : List (List ℕ)) (name : List ℕ) → is_among (map name_of done) name ≡ true → (parted lines ≡ None) ⊎ Named name (parted lines) → with_more done lines ≡ None
repeated done lines name a (inl e) = none_more done lines e
repeated done lines name a (inr n) =
    some_more done lines _ n.is
    ∙ not_permitted (done ++ record { name = name; literal = n.literal } ∷ n.more)
    (ap is_distinct (map-append name_of done (record { name = name; literal = n.literal } ∷ n.more)) ∙ is_distinct-repeated (map name_of done) name (map name_of n.more) a)

pub none_behind : (done : List First) (head : List ℕ) (rest : List (List ℕ)) (o : Option (List ℕ)) → named_by head ≡ o
    → option_and_then (λ name. cond (is_among (map name_of done) name) None (Some (map name_of done ++ name ∷ []))) o ≡ None → with_more done (head ∷ rest) ≡ None
none_behind done head rest None e h = none_more done (head ∷ rest) (unnamed head rest e)
none_behind done head rest (Some name) e h = repeated done (head ∷ rest) name (by (is_among (map name_of done) name) h) (named_first head rest name e)
  where
    by : (t : Bool) → cond t None (Some (map name_of done ++ name ∷ [])) ≡ None → t ≡ true
    by true k = refl
    by false k = absurd (none-some _ (sym k))

pub head_refused : (done : List First) (lines : List (List ℕ)) → names_up_to Head (map name_of done) (first_line lines) ≡ None
    → awaited done lines ≡ Err (Refused (4 * length done + 1 + 0) Form)
head_refused done [] e = refuses done [] 0 refl refl
head_refused done (head ∷ rest) e =
    refuses done (head ∷ rest) 0 (none_behind done head rest (named_by head) refl e) (ap (counted (λ known. fitting Body known rest)) e)

-- ---- behind a `def` line that fits

-- the line names a function that does not stand yet
pub record Begins (done : List First) (head name : List ℕ) : Type 0 where
  pub named : named_by head ≡ Some name
  pub fresh : is_among (map name_of done) name ≡ false

pub names_behind : (done : List First) (head name : List ℕ) → Begins done head name → names_up_to Head (map name_of done) head ≡ Some (map name_of done ++ name ∷ [])
names_behind done head name b =
    ap (λ o. option_and_then (λ name. cond (is_among (map name_of done) name) None (Some (map name_of done ++ name ∷ []))) o) b.named
    ∙ ap (λ t. cond t None (Some (map name_of done ++ name ∷ []))) b.fresh

pub fitting-head : (done : List First) (head name : List ℕ) (rest : List (List ℕ)) → Begins done head name
    → fitting Head (map name_of done) (head ∷ rest) ≡ 1 + fitting Body (map name_of done ++ name ∷ []) rest
fitting-head done head name rest b = ap (counted (λ known. fitting Body known rest)) (names_behind done head name b)

not_made : (head body name : List ℕ) → named_by head ≡ Some name → returned_by body ≡ None → function_of head body ≡ None
not_made head body name n e = ap (made_of body) n ∙ ap (made name) e

pub no_literal : (head body name : List ℕ) (rest : List (List ℕ)) → named_by head ≡ Some name → returned_by body ≡ None → parted (head ∷ body ∷ rest) ≡ None
no_literal head body name [] n e = ap alone (not_made head body name n e)
no_literal head body name (gap ∷ []) n e = refl
no_literal head body name (gap ∷ second ∷ rest) n e = ap (followed gap second rest) (not_made head body name n e)

pub body_refused : (done : List First) (head name : List ℕ) (rest : List (List ℕ)) → Begins done head name → returned_by (first_line rest) ≡ None
    → awaited done (head ∷ rest) ≡ Err (Refused (4 * length done + 1 + 1) Form)
body_refused done head name [] b e = refuses done (head ∷ []) 1 refl (fitting-head done head name [] b)
body_refused done head name (body ∷ rest) b e =
    refuses done (head ∷ body ∷ rest) 1 (none_more done (head ∷ body ∷ rest) (no_literal head body name rest b.named e))
    (fitting-head done head name (body ∷ rest) b ∙ ap (λ n. 1 + n) (ap (counted (λ known. fitting Gap known rest)) (ap (option_map (λ literal. map name_of done ++ name ∷ [])) e)))

-- ---- behind a function's two lines

-- the lines are a function whose name does not stand yet
pub record Holds (done : List First) (head body : List ℕ) (function : First) : Type 0 where
  pub begins : Begins done head function.name
  pub returned : returned_by body ≡ Some function.literal

is_function : (done : List First) (head body : List ℕ) (function : First) → Holds done head body function → function_of head body ≡ Some function
is_function done head body function h = ap (made_of body) h.begins.named ∙ ap (made function.name) h.returned

abbrev pub names_with : List First → First → List (List ℕ)
names_with done function = map name_of done ++ function.name ∷ []

pub fitting-function : (done : List First) (head body : List ℕ) (function : First) (rest : List (List ℕ)) → Holds done head body function
    → fitting Head (map name_of done) (head ∷ body ∷ rest) ≡ 1 + (1 + fitting Gap (names_with done function) rest)
fitting-function done head body function rest h =
    fitting-head done head function.name (body ∷ rest) h.begins
    ∙ ap (λ n. 1 + n) (ap (counted (λ known. fitting Gap known rest)) (ap (option_map (λ literal. names_with done function)) h.returned))

pub length-names_with : (done : List First) (function : First) → length (names_with done function) ≡ length done + 1
length-names_with done function = length-append (map name_of done) (function.name ∷ []) ∙ ap (λ n. n + 1) (length-map done name_of)

pub names-push : (done : List First) (function : First) → map name_of (done ++ function ∷ []) ≡ names_with done function
names-push done function = map-append name_of done (function ∷ [])

pub still_distinct : (done : List First) (name : List ℕ) (function : First) → function.name ≡ name → is_distinct (map name_of done) ≡ true → is_among (map name_of done) name ≡ false
    → is_distinct (map name_of (done ++ function ∷ [])) ≡ true
still_distinct done name function e d f =
    ap is_distinct (names-push done function)
    ∙ is_distinct-push (map name_of done) function.name d (ap (λ n. is_among (map name_of done) n) e ∙ f)

pub with_function : (done : List First) (head body : List ℕ) (function : First) → Holds done head body function → is_distinct (map name_of done) ≡ true → length done < 2000
    → with_more done (head ∷ body ∷ []) ≡ Some (done ++ function ∷ [])
with_function done head body function h d l =
    let all = done ++ function ∷ [] in
    let some : with_more done (head ∷ body ∷ []) ≡ permitted all = some_more done (head ∷ body ∷ []) (function ∷ []) (ap alone (is_function done head body function h)) in
    let distinct : is_distinct (map name_of all) ≡ true = still_distinct done function.name function refl d h.begins.fresh in
    let few : nat_le (length all) 2000 ≡ true = le-leb _ _ (omega (arith, length-append done (function ∷ []), l)) in
    some ∙ ap (λ t. cond t (Some all) None) (and_from _ _ distinct few)

pub last_function : (done : List First) (head body : List ℕ) (function : First) → Holds done head body function → is_distinct (map name_of done) ≡ true → length done < 2000
    → awaited done (head ∷ body ∷ []) ≡ Ok (module_of (done ++ function ∷ []))
last_function done head body function h d l =
    ap (answered (4 * length done + 1 + fitting Head (map name_of done) (head ∷ body ∷ []))) (with_function done head body function h d l)

-- ---- the empty lines

pub behind_function : (done : List First) (head body : List ℕ) (function : First) (gap second : List ℕ) (rest : List (List ℕ)) → Holds done head body function
    → parted (head ∷ body ∷ gap ∷ second ∷ rest) ≡ cond (is_empty_line gap && is_empty_line second) (onto function (parted rest)) None
behind_function done head body function gap second rest h = ap (followed gap second rest) (is_function done head body function h)

pub no_gap : (done : List First) (head body : List ℕ) (function : First) (gap : List ℕ) (rest : List (List ℕ)) → Holds done head body function → is_empty_line gap ≡ false
    → parted (head ∷ body ∷ gap ∷ rest) ≡ None
no_gap done head body function gap [] h e = refl
no_gap done head body function gap (second ∷ rest) h e =
    behind_function done head body function gap second rest h ∙ ap (λ t. cond (t && is_empty_line second) (onto function (parted rest)) None) e

pub gap_refused : (done : List First) (head body : List ℕ) (function : First) (gap : List ℕ) (rest : List (List ℕ)) → Holds done head body function → is_empty_line gap ≡ false
    → awaited done (head ∷ body ∷ gap ∷ rest) ≡ Err (Refused (4 * length done + 1 + 2) Form)
gap_refused done head body function gap rest h e =
    refuses done (head ∷ body ∷ gap ∷ rest) 2 (none_more done (head ∷ body ∷ gap ∷ rest) (no_gap done head body function gap rest h e))
    (fitting-function done head body function (gap ∷ rest) h
    ∙ ap (λ n. 1 + (1 + n)) (ap (λ t. counted (λ known. fitting SecondGap known rest) (cond (t && nat_lt (length (names_with done function)) most_functions) (Some (names_with done function)) None)) e))

-- functions that are parted are one at least
not_none : (functions : List First) → None ≡ Some functions → 1 ≤ length functions
not_none functions e = absurd (none-some functions e)

first_is_one : (function : First) (more functions : List First) → Some (function ∷ more) ≡ Some functions → 1 ≤ length functions
first_is_one function more functions e =
    let size : suc (length more) ≡ length functions = ap (λ o. option_map_or (λ (all : List First). length all) o 0) e in omega (arith, size)

one_alone : (o : Option First) (functions : List First) → alone o ≡ Some functions → 1 ≤ length functions
one_alone None functions e = not_none functions e
one_alone (Some function) functions e = first_is_one function [] functions e

one_joined : (function : First) (t : Bool) (o : Option (List First)) (functions : List First) → cond t (onto function o) None ≡ Some functions → 1 ≤ length functions
one_joined function false o functions e = not_none functions e
one_joined function true None functions e = not_none functions e
one_joined function true (Some more) functions e = first_is_one function more functions e

one_followed : (gap second : List ℕ) (rest : List (List ℕ)) (o : Option First) (functions : List First) → followed gap second rest o ≡ Some functions → 1 ≤ length functions
one_followed gap second rest None functions e = not_none functions e
one_followed gap second rest (Some function) functions e = one_joined function (is_empty_line gap && is_empty_line second) (parted rest) functions e

one_parted : (lines : List (List ℕ)) (functions : List First) → parted lines ≡ Some functions → 1 ≤ length functions
one_parted [] functions e = not_none functions e
one_parted (head ∷ []) functions e = not_none functions e
one_parted (head ∷ body ∷ []) functions e = one_alone (function_of head body) functions e
one_parted (head ∷ body ∷ gap ∷ []) functions e = not_none functions e
one_parted (head ∷ body ∷ gap ∷ second ∷ rest) functions e = one_followed gap second rest (function_of head body) functions e

too_many : (functions : List First) → 2000 < length functions → permitted functions ≡ None
too_many functions h = ap (λ t. cond t (Some functions) None) (and_right (is_distinct (map name_of functions)) _ (lt-leb _ _ h))

full_with : (done : List First) (function : First) (t : Bool) (o : Option (List First)) → 2000 ≤ length done + 1 → ((functions : List First) → o ≡ Some functions → 1 ≤ length functions)
    → option_and_then permitted (option_map (λ more. done ++ more) (cond t (onto function o) None)) ≡ None
full_with done function false o l one = refl
full_with done function true None l one = refl
full_with done function true (Some more) l one =
    let some = one more refl in
    too_many (done ++ function ∷ more) (omega (arith, length-append done (function ∷ more), l, some))

pub full_behind : (done : List First) (head body : List ℕ) (function : First) (gap : List ℕ) (rest : List (List ℕ)) → Holds done head body function → 2000 ≤ length done + 1
    → with_more done (head ∷ body ∷ gap ∷ rest) ≡ None
full_behind done head body function gap [] h l = refl
full_behind done head body function gap (second ∷ rest) h l =
    ap (λ o. option_and_then permitted (option_map (λ more. done ++ more) o)) (behind_function done head body function gap second rest h)
    ∙ full_with done function (is_empty_line gap && is_empty_line second) (parted rest) l (one_parted rest)

pub full : (done : List First) (head body : List ℕ) (function : First) (gap : List ℕ) (rest : List (List ℕ)) → Holds done head body function → 2000 ≤ length done + 1
    → awaited done (head ∷ body ∷ gap ∷ rest) ≡ Err (Refused (4 * length done + 1 + 2) Form)
full done head body function gap rest h l =
    let no_room : nat_lt (length (names_with done function)) most_functions ≡ false = le-ltb _ _ (omega (arith, length-names_with done function, l)) in
    refuses done (head ∷ body ∷ gap ∷ rest) 2 (full_behind done head body function gap rest h l)
    (fitting-function done head body function (gap ∷ rest) h
    ∙ ap (λ n. 1 + (1 + n)) (ap (λ t. counted (λ known. fitting SecondGap known rest) (cond t (Some (names_with done function)) None)) (and_right (is_empty_line gap) _ no_room)))

-- the first empty line fits
pub fitting-gap : (done : List First) (head body : List ℕ) (function : First) (gap : List ℕ) (rest : List (List ℕ)) → Holds done head body function → is_empty_line gap ≡ true → length done + 1 < 2000
    → fitting Head (map name_of done) (head ∷ body ∷ gap ∷ rest) ≡ 1 + (1 + (1 + fitting SecondGap (names_with done function) rest))
fitting-gap done head body function gap rest h e l =
    let room : nat_lt (length (names_with done function)) most_functions ≡ true = lt-ltb _ _ (omega (arith, length-names_with done function, l)) in
    fitting-function done head body function (gap ∷ rest) h
    ∙ ap (λ n. 1 + (1 + n)) (ap (λ t. counted (λ known. fitting SecondGap known rest) (cond t (Some (names_with done function)) None)) (and_from _ _ e room))

pub no_second : (done : List First) (head body : List ℕ) (function : First) (gap : List ℕ) (rest : List (List ℕ)) → Holds done head body function → is_empty_line (first_line rest) ≡ false
    → parted (head ∷ body ∷ gap ∷ rest) ≡ None
no_second done head body function gap [] h e = refl
no_second done head body function gap (second ∷ rest) h e =
    behind_function done head body function gap second rest h ∙ ap (λ t. cond t (onto function (parted rest)) None) (and_right (is_empty_line gap) _ e)

fitting-second : (names rest : List (List ℕ)) → is_empty_line (first_line rest) ≡ false → fitting SecondGap names rest ≡ 0
fitting-second names [] e = refl
fitting-second names (second ∷ rest) e = ap (λ t. counted (λ known. fitting Head known rest) (cond t (Some names) None)) e

pub second_refused : (done : List First) (head body : List ℕ) (function : First) (gap : List ℕ) (rest : List (List ℕ)) → Holds done head body function → is_empty_line gap ≡ true → length done + 1 < 2000
    → is_empty_line (first_line rest) ≡ false → awaited done (head ∷ body ∷ gap ∷ rest) ≡ Err (Refused (4 * length done + 1 + 3) Form)
second_refused done head body function gap rest h g l e =
    refuses done (head ∷ body ∷ gap ∷ rest) 3 (none_more done (head ∷ body ∷ gap ∷ rest) (no_second done head body function gap rest h e))
    (fitting-gap done head body function gap rest h g l ∙ ap (λ n. 1 + (1 + (1 + n))) (fitting-second (names_with done function) rest e))

-- ---- one function further

pub regrouped : (done : List First) (function : First) (o : Option (List First))
    → option_and_then permitted (option_map (λ more. done ++ more) (onto function o)) ≡ option_and_then permitted (option_map (λ more. done ++ function ∷ [] ++ more) o)
regrouped done function None = refl
regrouped done function (Some more) = ap permitted (sym (append_assoc done (function ∷ []) more))

pub one_further : (done : List First) (head body : List ℕ) (function : First) (gap second : List ℕ) (rest : List (List ℕ)) → Holds done head body function → is_empty_line gap ≡ true → is_empty_line second ≡ true
    → length done + 1 < 2000 → awaited done (head ∷ body ∷ gap ∷ second ∷ rest) ≡ awaited (done ++ function ∷ []) rest
one_further done head body function gap second rest h g s l =
    let fits : fitting Head (map name_of done) (head ∷ body ∷ gap ∷ second ∷ rest) ≡ 1 + (1 + (1 + (1 + fitting Head (map name_of (done ++ function ∷ [])) rest))) =
    fitting-gap done head body function gap (second ∷ rest) h g l
    ∙ ap (λ n. 1 + (1 + (1 + n)))
    (ap (λ t. counted (λ known. fitting Head known rest) (cond t (Some (names_with done function)) None)) s
    ∙ ap (λ names. 1 + fitting Head names rest) (sym (names-push done function))) in
    let line : 4 * length done + 1 + fitting Head (map name_of done) (head ∷ body ∷ gap ∷ second ∷ rest) ≡ 4 * length (done ++ function ∷ []) + 1 + fitting Head (map name_of (done ++ function ∷ [])) rest =
    omega (arith, fits, length-append done (function ∷ [])) in
    let more : with_more done (head ∷ body ∷ gap ∷ second ∷ rest) ≡ with_more (done ++ function ∷ []) rest =
    ap (λ o. option_and_then permitted (option_map (λ more. done ++ more) o))
    (behind_function done head body function gap second rest h ∙ ap (λ t. cond t (onto function (parted rest)) None) (and_from _ _ g s))
    ∙ regrouped done function (parted rest) in
    ap₂ answered line more
