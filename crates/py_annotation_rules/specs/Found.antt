-- Parts of the rules on annotations, as the code has them.
use Rattle.std.specs.Prelude.{ℕ, Bool, true, false, ◌&&◌, ◌||◌, ◌==◌, if◌then◌else◌, List, [], ◌∷◌, ◌++◌, Option, Some, None}
use Rattle.std.specs.List.{flat_map}
use Rattle.py_syntax.specs.declared.module.Func.{Func}
use Rattle.py_syntax.specs.declared.module.Item.{Item}
use Rattle.py_syntax.specs.declared.module.Member.{Member}
use Rattle.py_syntax.specs.declared.module.Module.{Module}
use Rattle.py_syntax.specs.declared.module.Param.{Param}
use Rattle.py_syntax.specs.declared.stmt.Annotation.{Annotation}
use Rattle.py_meaning.specs.Methods.{named, is_among}
use Rattle.py_scopes.specs.Annotations.{Parts, allows, faulty, Where, plain_names, is_exception_name, built_generics, typing_names, unquoted_in}
use Rattle.py_scopes.specs.ModuleRows.{faulty_use, in_item, line_if, scope_in, scope_in_param, names_some, evaluated_names}
use Rattle.py_scopes.specs.Names.{Standing, class_names, imports_in}
use Rattle.py_scopes.specs.Uses.{Use, Used, Uses, Annotated}
use Rattle.py_annotation_rules.specs.Before.{Before}

abbrev pub allowed : Option Parts → ℕ → Bool
allowed None n = false
allowed (Some parts) n = allows parts n

abbrev pub faulty_at : Before → Where → Annotation → Bool
faulty_at scope at annotation = faulty scope.whole.items scope.front annotation at

-- the lines of an annotation that may be there
abbrev pub maybe_faulty : Before → Bool → ℕ → Option Annotation → List ℕ
maybe_faulty scope evaluated line None = []
maybe_faulty scope evaluated line (Some annotation) = faulty_use scope.whole scope.front evaluated line (Annotated annotation)

abbrev pub param_faulty : Before → Param → List ℕ
param_faulty scope p = maybe_faulty scope true p.line p.annotation

abbrev pub annotations_at : Module → Standing Item → List ℕ
annotations_at m s = in_item m s.before s.now

abbrev pub member_scope : Bool → Standing Member → List ℕ
member_scope future s = scope_in future (class_names s.before) s.now

-- whether a name that is no class of the module may have so many parts
abbrev pub generic_takes : Before → List ℕ → ℕ → Bool
generic_takes scope name n =
    if is_among plain_names name || is_exception_name name then n == 0
    else (allowed (named built_generics name) n || (is_among (imports_in scope.whole.items) name && allowed (named typing_names name) n))

-- ---- uses

abbrev pub annotation_in : Use → Option Annotation
annotation_in (Annotated annotation) = Some annotation
annotation_in _ = None

abbrev pub found_use : Before → Bool → Used → List ℕ
found_use scope evaluated u = maybe_faulty scope evaluated u.line (annotation_in u.use')

abbrev pub found_uses : Before → Bool → Uses → List ℕ
found_uses scope evaluated uses = flat_map (found_use scope evaluated) uses

-- ---- the scope of a class

-- names, with one more in front
abbrev pub with_own : Option (List ℕ) → List (List ℕ) → List (List ℕ)
with_own None names = names
with_own (Some own) names = own ∷ names

abbrev pub names_unquoted : List (List ℕ) → Annotation → Bool
names_unquoted names annotation = names_some names (unquoted_in annotation)

abbrev pub scope_in_func : Bool → List (List ℕ) → Func → List ℕ
scope_in_func future names f = flat_map (scope_in_param future names) f.params ++ line_if (names_some names (evaluated_names future f.returns)) f.line
