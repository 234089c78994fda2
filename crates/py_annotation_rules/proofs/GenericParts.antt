-- How many parts a name may have that is no class of the module.
use Rattle.std.proofs.Common.{◌≡◌, ◌∙◌, refl, sym, ap, ap₂, ℕ, ◌&&◌, ◌||◌, ◌==◌, false, List, Option, Some, None}
use Rattle.std.specs.Prelude.{if◌then◌else◌}
use Rattle.py_meaning.specs.Methods.{named, is_among}
use Rattle.py_syntax.specs.declared.module.Item.{Item}
use Rattle.py_scopes.specs.Annotations.{Parts, parts_of_row, takes_parts, plain_names, is_exception_name, built_generics, typing_names}
use Rattle.py_scopes.specs.Names.{classes_in, imports_in}
use Rattle.py_annotation_rules.specs.Before.{Before}
use Rattle.py_annotation_rules.specs.Found.{allowed, generic_takes}

row_is : (items before : List Item) (parts : Option Parts) (n : ℕ) → allowed parts n ≡ parts_of_row items before parts n
row_is items before None n = refl
row_is items before (Some parts) n = refl

both_are : (scope : Before) (name : List ℕ) (n : ℕ) →
    (allowed (named built_generics name) n || (is_among (imports_in scope.whole.items) name && allowed (named typing_names name) n))
    ≡ (parts_of_row scope.whole.items scope.front (named built_generics name) n || (is_among (imports_in scope.whole.items) name && parts_of_row scope.whole.items scope.front (named typing_names name) n))
both_are scope name n = ap₂ (λ a b. a || (is_among (imports_in scope.whole.items) name && b)) (row_is scope.whole.items scope.front (named built_generics name) n) (row_is scope.whole.items scope.front (named typing_names name) n)

pub generic_is : (scope : Before) (name : List ℕ) (n : ℕ) → is_among (classes_in scope.whole.items) name ≡ false → takes_parts scope.whole.items scope.front name n ≡ generic_takes scope name n
generic_is scope name n none =
    ap (λ b. if b then n == 0 else (if is_among plain_names name || is_exception_name name then n == 0 else (parts_of_row scope.whole.items scope.front (named built_generics name) n || (is_among (imports_in scope.whole.items) name && parts_of_row scope.whole.items scope.front (named typing_names name) n)))) none
    ∙ ap (λ b. if is_among plain_names name || is_exception_name name then n == 0 else b) (sym (both_are scope name n))
