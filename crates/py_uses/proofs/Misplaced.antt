-- What is wrong with arguments, as it is defined and as it is found.
use Rattle.std.proofs.Common.{◌≡◌, ◌∙◌, refl, sym, ap, ap₂, ℕ, Bool, true, false, ◌||◌, List, [], ◌∷◌, ◌++◌, map, arith}
use Rattle.std.specs.Prelude.{nat_lt, max, bytes_eq}
use Rattle.std.specs.List.{list_any}
use Rattle.std.proofs.Math.Bool.{or_assoc}
use Rattle.std.proofs.lemmas.Bool.Decides.{nat_tests, same_from_decides}
use Rattle.std.proofs.lemmas.Slice.Eq.{bytes_eq-Decides}
use Rattle.py_syntax.specs.declared.expr.Expr.{Expr}
use Rattle.py_meaning.specs.Methods.{is_among}
use Rattle.py_scopes.specs.Folds.{number_by_expr}
use Rattle.py_scopes.specs.Laws.{part_of}
use Rattle.py_scopes.specs.Uses.{Part, has_name, has_twice as twice, is_mixed}
use Rattle.py_uses.specs.Blocks.{greatest, mixes, name_of, has_twice, misplaced}

abbrev pub named_part : List ℕ × Expr → List ℕ × Part
named_part row = (row.0, part_of row.1)

lt_none : (n : ℕ) → false ≡ nat_lt n 0
lt_none n = grind (arith, nat_tests)

lt_max : (n a b : ℕ) → nat_lt n a || nat_lt n b ≡ nat_lt n (max a b)
lt_max n a b = grind (arith, nat_tests)

after_greatest : (n : ℕ) (xs : List Expr) → list_any (λ (part : Part). nat_lt n part.number) (map part_of xs) ≡ nat_lt n (greatest xs)
after_greatest n [] = lt_none n
after_greatest n (x ∷ xs) = ap₂ (λ a b. nat_lt n a || b) (number_by_expr x) (after_greatest n xs) ∙ lt_max n x.node.0 (greatest xs)

mixed_is : (plain : List Expr) (named : List (List ℕ × Expr)) → is_mixed (map part_of plain) (map named_part named) ≡ mixes plain named
mixed_is plain [] = refl
mixed_is plain (row ∷ named) =
    ap₂ (λ a b. a || b) (ap (λ n. list_any (λ (part : Part). nat_lt n part.number) (map part_of plain)) (number_by_expr row.1) ∙ after_greatest row.1.node.0 plain) (mixed_is plain named)

name_is : (name : List ℕ) (named : List (List ℕ × Expr)) → has_name name (map named_part named) ≡ is_among (map name_of named) name
name_is name [] = refl
name_is name (row ∷ named) = ap (λ b. bytes_eq name row.0 || b) (name_is name named)

twice_is : (named : List (List ℕ × Expr)) → twice (map named_part named) ≡ has_twice (map name_of named)
twice_is [] = refl
twice_is (row ∷ named) = ap₂ (λ a b. a || b) (name_is row.0 named) (twice_is named)

pub misplaced_is : (plain : List Expr) (named : List (List ℕ × Expr)) → is_mixed (map part_of plain) (map named_part named) || twice (map named_part named) ≡ misplaced plain named
misplaced_is plain named = ap₂ (λ a b. a || b) (mixed_is plain named) (twice_is named)

-- ---- a name that is given again, one argument after another

-- whether one of the names is among those seen, or twice
abbrev pub twice_after : List (List ℕ) → List (List ℕ) → Bool
twice_after seen [] = false
twice_after seen (name ∷ names) = is_among seen name || twice_after (seen ++ name ∷ []) names

or_none : (b : Bool) → b || false ≡ b
or_none true = refl
or_none false = refl

swap : (a b c d : Bool) → (a || b) || (c || d) ≡ (a || c) || (b || d)
swap true b c d = refl
swap false true true d = refl
swap false true false d = refl
swap false false true d = refl
swap false false false d = refl

same_back : (x y : List ℕ) → bytes_eq x y ≡ bytes_eq y x
same_back x y =
    let there = bytes_eq-Decides x y in
    let back = bytes_eq-Decides y x in
    same_from_decides _ _ there (λ e. sym (back.0 e), λ e. back.1 (sym e))

among_more : (seen : List (List ℕ)) (x y : List ℕ) → is_among (seen ++ x ∷ []) y ≡ is_among seen y || bytes_eq y x
among_more [] x y = or_none (bytes_eq y x)
among_more (z ∷ seen) x y = ap (λ b. bytes_eq y z || b) (among_more seen x y) ∙ sym (or_assoc (bytes_eq y z) (is_among seen y) (bytes_eq y x))

any_more : (seen : List (List ℕ)) (x : List ℕ) (names : List (List ℕ)) → list_any (is_among (seen ++ x ∷ [])) names ≡ list_any (is_among seen) names || is_among names x
any_more seen x [] = refl
any_more seen x (y ∷ names) =
    ap₂ (λ a b. a || b) (among_more seen x y ∙ ap (λ b. is_among seen y || b) (same_back y x)) (any_more seen x names)
    ∙ swap (is_among seen y) (bytes_eq x y) (list_any (is_among seen) names) (is_among names x)

twice_after_is : (seen names : List (List ℕ)) → twice_after seen names ≡ list_any (is_among seen) names || has_twice names
twice_after_is seen [] = refl
twice_after_is seen (x ∷ names) =
    ap (λ b. is_among seen x || b)
    (twice_after_is (seen ++ x ∷ []) names ∙ ap (λ b. b || has_twice names) (any_more seen x names) ∙ or_assoc (list_any (is_among seen) names) (is_among names x) (has_twice names))
    ∙ sym (or_assoc (is_among seen x) (list_any (is_among seen) names) (is_among names x || has_twice names))

none_seen : (names : List (List ℕ)) → list_any (is_among []) names ≡ false
none_seen [] = refl
none_seen (x ∷ names) = none_seen names

pub twice_from_none : (names : List (List ℕ)) → twice_after [] names ≡ has_twice names
twice_from_none names = twice_after_is [] names ∙ ap (λ b. b || has_twice names) (none_seen names)
