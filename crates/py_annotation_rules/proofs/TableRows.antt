-- Tables of the code, and those of the rules.
use Rattle.std.proofs.Common.{◌≡◌, refl, ℕ, List, [], ◌∷◌, map, bytes_eq, Some, option_map}
use Rattle.std.specs.Prelude.{if◌then◌else◌, true, false}
use Rattle.py_meaning.specs.Methods.{Names, named}
use Rattle.py_scopes.specs.Annotations.{Parts as Numbers}
use Rattle.py_annotation_rules.specs.declared.parts.Parts.{Parts}
use Rattle.py_annotation_rules.specs.Seen.{parts_seen}

-- the rows of a table, with what their values stand for
abbrev pub rows_seen : Names Parts → Names Numbers
rows_seen rows = map (λ row. (row.0, parts_seen row.1)) rows

pub of_rows : (rows : Names Parts) (name : List ℕ) → option_map parts_seen (named rows name) ≡ named (rows_seen rows) name
of_rows [] name = refl
of_rows (row ∷ rows) name = elim (bytes_eq name row.0) as (λ b. option_map parts_seen (if b then Some row.1 else named rows name) ≡ (if b then Some (parts_seen row.1) else named (rows_seen rows) name)) [ true ↦ refl | false ↦ of_rows rows name ]
