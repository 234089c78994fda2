-- The names that may be imported from typing, as a list of names.
use Rattle.std.proofs.Common.{◌≡◌, refl, ℕ, Bool, true, false, ◌||◌, List, [], ◌∷◌, map}
use Rattle.std.specs.Prelude.{bytes_eq, if◌then◌else◌, is_some, Option, Some}
use Rattle.std.specs.List.{list_any}
use Rattle.py_meaning.specs.Methods.{Names, named}
use Rattle.py_scopes.specs.Annotations.{typing_names, is_typing_name}

one_row : {M : Type 0} (b : Bool) (m : M) (o : Option M) (rest : Bool) → rest ≡ is_some o → b || rest ≡ is_some (if b then Some m else o)
one_row true m o rest e = refl
one_row false m o rest e = e

some_named : {M : Type 0} (rows : Names M) (name : List ℕ) → list_any (λ other. bytes_eq name other) (map (λ row. row.0) rows) ≡ is_some (named rows name)
some_named [] name = refl
some_named (row ∷ rows) name = one_row (bytes_eq name row.0) row.1 (named rows name) _ (some_named rows name)

pub typing_is : (name : List ℕ) → list_any (λ other. bytes_eq name other) (map (λ row. row.0) typing_names) ≡ is_typing_name name
typing_is name = some_named typing_names name
