-- What is bound twice, in the parts in which the code finds it.
use Rattle.std.specs.Prelude.{ℕ, List, [], ◌++◌, map}
use Rattle.std.specs.List.{flat_map}
use Rattle.py_syntax.specs.declared.module.Item.{Item}
use Rattle.py_scopes.specs.ModuleRows.{again_in_class, bound_again, bound_built}
use Rattle.py_scopes.specs.Names.{Bound, bound, bound_by_item}

abbrev pub bound_names : ℕ → List (List ℕ) → List Bound
bound_names line names = map (λ name. bound name line) names

abbrev pub duplicates_in : List Item → List ℕ
duplicates_in items = bound_again [] (flat_map bound_by_item items) ++ flat_map bound_built (flat_map bound_by_item items) ++ flat_map again_in_class items
