use Rattle.std.specs.Prelude.{ℕ, Bool, List, Option, Some, None, option_and_then, if◌then◌else◌, bytes_eq}
use Rattle.std.specs.List.{list_any}
use Rattle.std.specs.BTreeSet.{BTreeSet}
use denote.Ref.{Bor}
use Rattle.py_language.specs.FirstForm.{named_by}

-- a name is one of a set's
abbrev pub knows : BTreeSet (Bor (List ℕ)) → List ℕ → Bool
knows names name = list_any (λ other. bytes_eq other.now name) names.keys

-- the name in a line `def NAME():`, where it is none of these
abbrev pub new_name : BTreeSet (Bor (List ℕ)) → List ℕ → Option (List ℕ)
new_name names line = option_and_then (λ name. if knows names name then None else Some name) (named_by line)
