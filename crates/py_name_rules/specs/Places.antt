-- The names that are local in a place, and those of a module.
use Rattle.std.specs.Prelude.{◌≡◌, ℕ, List, [], Option}
use Rattle.std.specs.List.{flat_map}
use Rattle.std.specs.Option.{option_map}
use Rattle.py_syntax.specs.declared.module.Item.{Item}
use Rattle.py_syntax.specs.declared.stmt.Stmt.{Stmt}
use Rattle.py_names.specs.Bound.{names_bound, parameters}
use Rattle.py_scopes.specs.Names.{Assigned, assigned, bound_by_item, names_of}
use Rattle.py_scopes.specs.Pieces.{Place, AtModule, InClass, InBody}

-- the parameters' names
abbrev pub params_in : Place → List (List ℕ)
params_in AtModule = []
params_in (InClass c) = []
params_in (InBody owner f) = parameters f

-- what the body binds
abbrev pub bound_in : Place → List (List ℕ)
bound_in AtModule = []
bound_in (InClass c) = []
bound_in (InBody owner f) = flat_map names_bound f.body

pub record HasLocals (place : Place) (params : List (List ℕ)) (bound : List (List ℕ)) : Type 0 where
  pub params_are : params ≡ params_in place
  pub bound_are : bound ≡ bound_in place

-- ---- the names of a module

abbrev pub item_names : Item → List (List ℕ)
item_names item = names_of (bound_by_item item)

abbrev pub assigned_name : Stmt → Option (List ℕ)
assigned_name stmt = option_map (λ (a : Assigned). a.name) (assigned stmt)
