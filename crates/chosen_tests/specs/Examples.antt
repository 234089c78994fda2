-- Worked examples, of things that are the lists of their gains themselves.
use Rattle.std.specs.Prelude.{◌≡◌, ℕ, nat_lt, Bool, true, List, [], ◌∷◌, length}
use Rattle.chosen_tests.specs.Chosen.{chosen_by, gaining, staying}

abbrev pub itself : List ℕ → List ℕ
itself gained = gained

abbrev pub any : List ℕ → Bool
any gained = true

-- what the second one gains makes the first one needless
abbrev pub later_gains_more : List (List ℕ)
later_gains_more = (0 ∷ []) ∷ (0 ∷ 1 ∷ []) ∷ (2 ∷ []) ∷ []

-- each gains something new, and the first is left out after all
abbrev pub FirstIsLeftOut : Type 0
FirstIsLeftOut = (gaining itself any [] later_gains_more ≡ later_gains_more) × (staying itself [] later_gains_more ≡ (0 ∷ 1 ∷ []) ∷ (2 ∷ []) ∷ [])

abbrev pub NothingNewIsLeftOut : Type 0
NothingNewIsLeftOut =
    gaining itself any [] ((0 ∷ 1 ∷ []) ∷ (1 ∷ []) ∷ (1 ∷ 2 ∷ []) ∷ (2 ∷ []) ∷ []) ≡ (0 ∷ 1 ∷ []) ∷ (1 ∷ 2 ∷ []) ∷ []

-- of two that gain the same the later would be left out first, but it gained nothing new
abbrev pub FirstOfTwo : Type 0
FirstOfTwo = chosen_by itself any ((0 ∷ 1 ∷ []) ∷ (1 ∷ 0 ∷ []) ∷ []) ≡ (0 ∷ 1 ∷ []) ∷ []

-- the last of three that gain two goals each is looked at first, and the first two have its goals
abbrev pub LastIsLeftOut : Type 0
LastIsLeftOut = staying itself [] ((0 ∷ 1 ∷ []) ∷ (1 ∷ 2 ∷ []) ∷ (2 ∷ 0 ∷ []) ∷ []) ≡ (0 ∷ 1 ∷ []) ∷ (1 ∷ 2 ∷ []) ∷ []

-- one that may not be taken covers nothing
abbrev pub MayNotBeTaken : Type 0
MayNotBeTaken = chosen_by itself (λ gained. nat_lt (length gained) 2) ((0 ∷ 1 ∷ []) ∷ (1 ∷ []) ∷ []) ≡ (1 ∷ []) ∷ []
