use Rattle.std.proofs.Common.{◌≡◌, drop, map, chars}
use Rattle.py_meaning.specs.Methods.{named}
use Rattle.py_annotation_rules.proofs.parts.row_named.Given as goal

abbrev pub invariant-loop-row : goal.invariant-loop-row
invariant-loop-row g l = named (map (λ row. (chars row.0.now, row.1)) (drop l.row-index l.rows)) l.name ≡ named (map (λ row. (chars row.0.now, row.1)) l.rows) l.name
