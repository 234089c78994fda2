-- Words on lists of pairs.
use Rattle.std.specs.Prelude.{ℕ, zero, suc, List, [], ◌∷◌}
use denote.Ref.{Bor}

-- the pairs with another second part at one place
abbrev pub with_second : {A B : Type 0} → List (A × B) → ℕ → B → List (A × B)
with_second [] at b = []
with_second (pair ∷ pairs) zero b = (pair.0, b) ∷ pairs
with_second (pair ∷ pairs) (suc at) b = pair ∷ with_second pairs at b

-- what a pair of references refers to
abbrev pub read_pair : {A B : Type 0} → Bor A × Bor B → A × B
read_pair pair = (pair.0.now, pair.1.now)
