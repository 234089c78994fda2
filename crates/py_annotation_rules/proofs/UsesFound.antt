-- The annotations among uses.
use Rattle.std.proofs.Common.{◌≡◌, ◌∙◌, refl, sym, ap, ap₂, ℕ, Bool, true, false, List, [], ◌∷◌, ◌++◌, Option, Some, None, append-nil, append_assoc}
use Rattle.std.specs.List.{flat_map}
use Rattle.std.proofs.lemmas.List.Concat.{flat_map-append}
use Rattle.py_syntax.specs.declared.module.Func.{Func}
use Rattle.py_syntax.specs.declared.module.Param.{Param}
use Rattle.py_syntax.specs.declared.stmt.Annotation.{Annotation}
use Rattle.py_syntax.specs.declared.stmt.Stmt.{Stmt}
use Rattle.py_scopes.specs.ModuleRows.{faulty_use, faulty_uses, in_function}
use Rattle.py_scopes.specs.Uses.{Use, Uses, Reads, Binds, Attribute, Super, Argument, Catches, Defines, Based, Imported, Annotated, MixedArguments, NoLoop, NoClause, annotated, uses_in, uses_of_body, nothing}
use Rattle.py_annotation_rules.specs.Before.{Before}
use Rattle.py_annotation_rules.specs.Found.{annotation_in, found_use, found_uses, maybe_faulty, param_faulty}

use_is : (scope : Before) (evaluated : Bool) (line : ℕ) (u : Use) → faulty_use scope.whole scope.front evaluated line u ≡ maybe_faulty scope evaluated line (annotation_in u)
use_is scope evaluated line (Annotated annotation) = refl
use_is scope evaluated line (Reads name) = refl
use_is scope evaluated line (Binds name) = refl
use_is scope evaluated line (Attribute name) = refl
use_is scope evaluated line (Super name) = refl
use_is scope evaluated line (Argument name) = refl
use_is scope evaluated line (Catches name) = refl
use_is scope evaluated line (Defines name) = refl
use_is scope evaluated line (Based name) = refl
use_is scope evaluated line (Imported name) = refl
use_is scope evaluated line MixedArguments = refl
use_is scope evaluated line NoLoop = refl
use_is scope evaluated line NoClause = refl

pub uses_are : (scope : Before) (evaluated : Bool) (uses : Uses) → faulty_uses scope.whole scope.front evaluated uses ≡ found_uses scope evaluated uses
uses_are scope evaluated [] = refl
uses_are scope evaluated (u ∷ uses) = ap₂ (λ a b. a ++ b) (use_is scope evaluated u.line u.use') (uses_are scope evaluated uses)

pub statement_is : (scope : Before) (stmt : Stmt) → faulty_uses scope.whole scope.front true (uses_of_body (stmt ∷ [])) ≡ found_uses scope true (uses_in stmt nothing)
statement_is scope stmt = ap (faulty_uses scope.whole scope.front true) (append-nil (uses_in stmt nothing)) ∙ uses_are scope true (uses_in stmt nothing)

single_is : (scope : Before) (line : ℕ) (annotation : Option Annotation) → found_uses scope true (annotated line annotation) ≡ maybe_faulty scope true line annotation
single_is scope line None = refl
single_is scope line (Some annotation) = append-nil (maybe_faulty scope true line (Some annotation))

params_are : (scope : Before) (params : List Param) → found_uses scope true (flat_map (λ (p : Param). annotated p.line p.annotation) params) ≡ flat_map (param_faulty scope) params
params_are scope [] = refl
params_are scope (p ∷ params) =
    flat_map-append (found_use scope true) (annotated p.line p.annotation) (flat_map (λ (p : Param). annotated p.line p.annotation) params)
    ∙ ap₂ (λ a b. a ++ b) (single_is scope p.line p.annotation) (params_are scope params)

-- a function's faults: those of its parameters, of its result and of its body
pub function_is : (scope : Before) (f : Func)
    → in_function scope.whole scope.front f ≡ flat_map (param_faulty scope) f.params ++ maybe_faulty scope true f.line f.returns ++ found_uses scope false (uses_of_body f.body)
function_is scope f =
    let params = flat_map (λ (p : Param). annotated p.line p.annotation) f.params in
    ap₂ (λ a b. a ++ b)
    (uses_are scope true (params ++ annotated f.line f.returns)
    ∙ flat_map-append (found_use scope true) params (annotated f.line f.returns)
    ∙ ap₂ (λ a b. a ++ b) (params_are scope f.params) (single_is scope f.line f.returns))
    (uses_are scope false (uses_of_body f.body))

-- the lines after a function, from those after each part of it
pub function_lines : (scope : Before) (f : Func) (old after_params after_result after : List ℕ) → after_params ≡ old ++ flat_map (param_faulty scope) f.params
    → after_result ≡ after_params ++ maybe_faulty scope true f.line f.returns → after ≡ after_result ++ found_uses scope false (uses_of_body f.body)
    → after ≡ old ++ in_function scope.whole scope.front f
function_lines scope f old after_params after_result after is_params is_result is_body =
    let params = flat_map (param_faulty scope) f.params in
    let result = maybe_faulty scope true f.line f.returns in
    let body = found_uses scope false (uses_of_body f.body) in
    is_body ∙ ap (λ lines. lines ++ body) (is_result ∙ ap (λ lines. lines ++ result) is_params ∙ append_assoc old params result)
    ∙ append_assoc old (params ++ result) body ∙ ap (λ lines. old ++ lines) (sym (function_is scope f))
