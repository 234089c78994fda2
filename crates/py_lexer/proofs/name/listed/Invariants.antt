use Rattle.std.proofs.Common.{◌≡◌, drop, map}
use Rattle.py_language.specs.TokensNames.{listed}
use Rattle.py_lexer.proofs.name.listed.Given as goal

abbrev pub invariant-loop-row : goal.invariant-loop-row
invariant-loop-row g l = listed (map (λ row. (row.0.now, row.1)) (drop l.row-index l.rows)) l.text ≡ listed (map (λ row. (row.0.now, row.1)) l.rows) l.text
