-- The names of a module, item by item.
use Rattle.std.proofs.Common.{◌≡◌, ◌∙◌, refl, sym, ap, ℕ, List, [], ◌∷◌, ◌++◌, map, Option, Some, None}
use Rattle.std.specs.List.{flat_map}
use Rattle.std.specs.Option.{option_map, option_to_list}
use Rattle.std.proofs.lemmas.List.{map-append}
use Rattle.py_syntax.specs.declared.module.Item.{Item}
use Rattle.py_syntax.specs.declared.module.Item.TheVariants as item
use Rattle.py_syntax.specs.declared.stmt.Stmt.{Stmt}
use Rattle.py_syntax.specs.declared.stmt.StmtKind.TheVariants.{outs-Pass, outs-Break, outs-Continue, outs-Return, outs-Raise, outs-Assert, outs-Del, outs-Assign, outs-Augment, outs-Bare, outs-If, outs-While, outs-For, outs-Try}
use Rattle.py_scopes.specs.Names.{Assigned, Bound, assigned, bound, bound_by_item, module_names}
use Rattle.py_name_rules.specs.Places.{item_names, assigned_name}

pub module_names_are : (items : List Item) → flat_map item_names items ≡ module_names items
module_names_are [] = refl
module_names_are (one ∷ items) =
    ap (λ names. item_names one ++ names) (module_names_are items) ∙ sym (map-append (λ (b : Bound). b.name) (bound_by_item one) (flat_map bound_by_item items))

again : (line : ℕ) (names : List (List ℕ)) → map (λ (b : Bound). b.name) (map (λ name. bound name line) names) ≡ names
again line [] = refl
again line (name ∷ names) = ap (λ ys. name ∷ ys) (again line names)

pub import_names_are : (xs : List (List ℕ)) (line : ℕ) (names : List (List ℕ)) → xs ++ item_names (item.Import line names) ≡ xs ++ names
import_names_are xs line names = ap (λ ys. xs ++ ys) (again line names)

-- the name of an assignment to one name, if it is one
abbrev pub or_none : Option (List ℕ) → List (List ℕ)
or_none None = []
or_none (Some name) = name ∷ []

one_name : (line : ℕ) (o : Option Assigned) → map (λ (b : Bound). b.name) (map (λ (a : Assigned). bound a.name line) (option_to_list o)) ≡ or_none (option_map (λ (a : Assigned). a.name) o)
one_name line None = refl
one_name line (Some a) = refl

pub other_names_are : (xs : List (List ℕ)) (stmt : Stmt) → xs ++ item_names (item.Other stmt) ≡ xs ++ or_none (assigned_name stmt)
other_names_are xs stmt = ap (λ ys. xs ++ ys) (one_name stmt.line (assigned stmt))

pub ruleset assigned_kinds = (outs-Pass, outs-Break, outs-Continue, outs-Return, outs-Raise, outs-Assert, outs-Del, outs-Assign, outs-Augment, outs-Bare, outs-If, outs-While, outs-For, outs-Try)
