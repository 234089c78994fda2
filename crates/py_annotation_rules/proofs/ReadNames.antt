-- What is read of names.
use Rattle.std.proofs.Common.{◌≡◌, ◌∙◌, refl, sym, ap, ℕ, Bool, true, false, ◌||◌, List, [], ◌∷◌, ◌++◌, map}
use Rattle.std.specs.List.{flat_map, list_any}
use Rattle.py_meaning.specs.Methods.{is_among}
use Rattle.py_syntax.specs.declared.stmt.Annotation.{Annotation, Annotation-F, map-Annotation, out-Annotation}
use Rattle.py_syntax.specs.declared.stmt.Annotation.TheVariants as a
use Rattle.py_syntax.specs.declared.stmt.Annotation.TheVariants.{outs-Named, outs-NoneType, outs-OrNone, outs-Quoted}
use Rattle.py_scopes.specs.Annotations.{Spellings, unquoted_by, unquoted_in}
use Rattle.py_scopes.specs.Folds.{unquoted_by_part}
use Rattle.py_scopes.specs.ModuleRows.{names_some, read_by, reads_in}
use Rattle.py_scopes.specs.Uses.{Used, Uses}
use Rattle.py_annotation_rules.specs.Found.{names_unquoted}

or_assoc : (x y z : Bool) → ((x || y) || z) ≡ (x || (y || z))
or_assoc true y z = refl
or_assoc false y z = refl

pub any_append : {A : Type 0} (f : A → Bool) (xs ys : List A) → list_any f (xs ++ ys) ≡ (list_any f xs || list_any f ys)
any_append f [] ys = refl
any_append f (x ∷ xs) ys = ap (λ b. f x || b) (any_append f xs ys) ∙ sym (or_assoc (f x) (list_any f xs) (list_any f ys))

pub any_flat : {A B : Type 0} (f : B → Bool) (g : A → List B) (xs : List A) → list_any f (flat_map g xs) ≡ list_any (λ x. list_any f (g x)) xs
any_flat f g [] = refl
any_flat f g (x ∷ xs) = any_append f (g x) (flat_map g xs) ∙ ap (λ b. list_any f (g x) || b) (any_flat f g xs)

pub some_append : (names xs ys : List (List ℕ)) → names_some names (xs ++ ys) ≡ (names_some names xs || names_some names ys)
some_append names xs ys = any_append (is_among names) xs ys

-- whether one of the uses reads one of the names
pub reads_are : (names : List (List ℕ)) (uses : Uses) → names_some names (reads_in uses) ≡ list_any (λ (u : Used). names_some names (read_by u.use')) uses
reads_are names uses = any_flat (is_among names) (λ (u : Used). read_by u.use') uses

-- ---- names outside of quotes

unquoted_is : (annotation : Annotation) (k : Annotation-F Annotation) → out-Annotation annotation ≡ k → unquoted_in annotation ≡ unquoted_by (map-Annotation Annotation Spellings unquoted_in k)
unquoted_is annotation k is = unquoted_by_part annotation ∙ ap (λ k. unquoted_by (map-Annotation Annotation Spellings unquoted_in k)) is

flat_names : (names : List (List ℕ)) (xs : List Annotation) → names_some names (flat_map (λ (ys : Spellings). ys) (map unquoted_in xs)) ≡ list_any (names_unquoted names) xs
flat_names names [] = refl
flat_names names (x ∷ xs) = any_append (is_among names) (unquoted_in x) (flat_map (λ (ys : Spellings). ys) (map unquoted_in xs)) ∙ ap (λ b. names_unquoted names x || b) (flat_names names xs)

pub unquoted-Named : (names : List (List ℕ)) (name : List ℕ) (xs : List Annotation) → names_unquoted names (a.Named name xs) ≡ (is_among names name || list_any (names_unquoted names) xs)
unquoted-Named names name xs = ap (names_some names) (unquoted_is _ _ (outs-Named name xs)) ∙ ap (λ b. is_among names name || b) (flat_names names xs)

pub unquoted-NoneType : (names : List (List ℕ)) → names_unquoted names a.NoneType ≡ false
unquoted-NoneType names = ap (names_some names) (unquoted_is _ _ outs-NoneType)

pub unquoted-OrNone : (names : List (List ℕ)) (x : Annotation) → names_unquoted names (a.OrNone x) ≡ names_unquoted names x
unquoted-OrNone names x = ap (names_some names) (unquoted_is _ _ (outs-OrNone x))

pub unquoted-Quoted : (names : List (List ℕ)) (x : Annotation) → names_unquoted names (a.Quoted x) ≡ false
unquoted-Quoted names x = ap (names_some names) (unquoted_is _ _ (outs-Quoted x))

pub ruleset unquoted_levels = (unquoted-Named, unquoted-NoneType, unquoted-OrNone, unquoted-Quoted)
