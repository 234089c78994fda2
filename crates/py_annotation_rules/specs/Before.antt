-- A module and the items before one of its own.
use Rattle.std.specs.Prelude.{◌≡◌, ℕ, List}
use Rattle.py_syntax.specs.declared.module.Item.{Item}
use Rattle.py_syntax.specs.declared.module.Module.{Module}
use Rattle.py_scopes.specs.Names.{classes_in, imports_in}

pub record Before : Type 0 where
  pub whole : Module
  pub front : List Item

-- the names of the classes and imports of a module, and of those before an item
pub record IsScope (items front : List Item) (classes imports classes_before imports_before : List (List ℕ)) : Type 0 where
  pub all_classes : classes ≡ classes_in items
  pub all_imports : imports ≡ imports_in items
  pub earlier_classes : classes_before ≡ classes_in front
  pub earlier_imports : imports_before ≡ imports_in front
