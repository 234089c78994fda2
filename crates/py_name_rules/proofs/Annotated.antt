-- Whether some name of an annotation is spelled so, by its parts.
use Rattle.std.proofs.Common.{◌≡◌, ◌∙◌, refl, sym, ap, ℕ, Bool, true, false, ◌||◌, List, [], ◌∷◌, ◌++◌, map}
use Rattle.std.specs.List.{flat_map, list_any}
use Rattle.std.proofs.Math.Bool.{or_assoc}
use Rattle.py_syntax.specs.declared.stmt.Annotation.{Annotation, Annotation-F, map-Annotation, out-Annotation}
use Rattle.py_syntax.specs.declared.stmt.Annotation.TheVariants as a
use Rattle.py_syntax.specs.declared.stmt.Annotation.TheVariants.{outs-Named, outs-NoneType, outs-OrNone, outs-Quoted}
use Rattle.py_scopes.specs.Annotations.{Spellings, names_by, names_in}
use Rattle.py_scopes.specs.Folds.{names_by_part}
use Rattle.py_name_rules.specs.declared.underscores.Spelling.{Spelling}
use Rattle.py_name_rules.specs.Underscores.{is_spelled, any_spelled}

any_append : (p : List ℕ → Bool) (xs ys : Spellings) → list_any p (xs ++ ys) ≡ list_any p xs || list_any p ys
any_append p [] ys = refl
any_append p (x ∷ xs) ys = ap (λ b. p x || b) (any_append p xs ys) ∙ sym (or_assoc (p x) (list_any p xs) (list_any p ys))

any_parts : (spelling : Spelling) (parts : List Annotation) → list_any (is_spelled spelling) (flat_map (λ names. names) (map names_in parts)) ≡ list_any (any_spelled spelling) parts
any_parts spelling [] = refl
any_parts spelling (part ∷ parts) =
    any_append (is_spelled spelling) (names_in part) (flat_map (λ names. names) (map names_in parts)) ∙ ap (λ b. any_spelled spelling part || b) (any_parts spelling parts)

abbrev parts_of : Annotation-F Annotation → Annotation-F Spellings
parts_of = map-Annotation Annotation Spellings names_in

by : (spelling : Spelling) (annotation : Annotation) (f : Annotation-F Annotation) → out-Annotation annotation ≡ f → any_spelled spelling annotation ≡ list_any (is_spelled spelling) (names_by (parts_of f))
by spelling annotation f is = ap (list_any (is_spelled spelling)) (names_by_part annotation ∙ ap (λ f. names_by (parts_of f)) is)

pub spelled-Named : (spelling : Spelling) (name : List ℕ) (parts : List Annotation)
    → list_any (is_spelled spelling) (names_in (a.Named name parts)) ≡ is_spelled spelling name || list_any (any_spelled spelling) parts
spelled-Named spelling name parts = by spelling _ _ (outs-Named name parts) ∙ ap (λ b. is_spelled spelling name || b) (any_parts spelling parts)

pub spelled-NoneType : (spelling : Spelling) → list_any (is_spelled spelling) (names_in a.NoneType) ≡ false
spelled-NoneType spelling = by spelling _ _ outs-NoneType

pub spelled-OrNone : (spelling : Spelling) (part : Annotation) → list_any (is_spelled spelling) (names_in (a.OrNone part)) ≡ list_any (is_spelled spelling) (names_in part)
spelled-OrNone spelling part = by spelling _ _ (outs-OrNone part)

pub spelled-Quoted : (spelling : Spelling) (part : Annotation) → list_any (is_spelled spelling) (names_in (a.Quoted part)) ≡ list_any (is_spelled spelling) (names_in part)
spelled-Quoted spelling part = by spelling _ _ (outs-Quoted part)

pub ruleset annotation_levels = (spelled-Named, spelled-NoneType, spelled-OrNone, spelled-Quoted)

pub one_name : (b : Bool) → b || false ≡ b
one_name true = refl
one_name false = refl
