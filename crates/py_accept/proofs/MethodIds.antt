-- The numbers of methods, of rows whose names are borrowed.
use Rattle.std.proofs.Common.{◌≡◌, ◌∙◌, ℕ, List, [], ◌∷◌, map, refl, ap}
use Rattle.std.specs.Borrow.{Bor}
use Rattle.pyn_base.specs.declared.ids.FuncId.{FuncId}
use Rattle.py_meaning.specs.Methods.{Names}

told : Bor (List ℕ) × FuncId → List ℕ × FuncId
told row = (row.0.now, row.1)

id_of : List ℕ × FuncId → FuncId
id_of row = row.1

ids_of : (rows : List (Bor (List ℕ) × FuncId)) → map (λ row. row.1) rows ≡ map id_of (map told rows)
unfolding told id_of
ids_of [] = refl
ids_of (row ∷ rows) = ap (λ ids. row.1 ∷ ids) (ids_of rows)

pub ids_told : (rows : List (Bor (List ℕ) × FuncId)) (methods : Names FuncId) → map (λ row. (row.0.now, row.1)) rows ≡ methods → map (λ row. row.1) rows ≡ map (λ row. row.1) methods
unfolding told id_of
ids_told rows methods e = ids_of rows ∙ ap (map id_of) e
