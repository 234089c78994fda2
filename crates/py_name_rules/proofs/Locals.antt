-- What is local in a place, by the parameters and what the body binds.
use Rattle.std.proofs.Common.{◌≡◌, ◌∙◌, refl, ap, ℕ, ◌||◌, List, [], ◌∷◌, ◌++◌}
use Rattle.std.specs.Prelude.{bytes_eq}
use Rattle.std.specs.List.{flat_map}
use Rattle.std.proofs.Math.Bool.{or_assoc}
use Rattle.py_meaning.specs.Methods.{is_among}
use Rattle.py_names.specs.Bound.{names_bound, parameters}
use Rattle.py_scopes.specs.NameRows.{is_local}
use Rattle.py_scopes.specs.Pieces.{Place, AtModule, InClass, InBody}
use Rattle.py_name_rules.specs.Places.{params_in, bound_in}

among_both : (xs ys : List (List ℕ)) (name : List ℕ) → is_among xs name || is_among ys name ≡ is_among (xs ++ ys) name
among_both [] ys name = refl
among_both (x ∷ xs) ys name = or_assoc (bytes_eq name x) (is_among xs name) (is_among ys name) ∙ ap (λ b. bytes_eq name x || b) (among_both xs ys name)

pub local_is : (place : Place) (name : List ℕ) → is_among (params_in place) name || is_among (bound_in place) name ≡ is_local place name
local_is AtModule name = refl
local_is (InClass c) name = refl
local_is (InBody owner f) name = among_both (parameters f) (flat_map names_bound f.body) name
