-- Words of a line, which are parted by one space.
use Rattle.std.specs.Prelude.{ℕ, List, ◌∷◌, ◌++◌}

infixr 60 ◌␣◌
abbrev pub ◌␣◌ : List ℕ → List ℕ → List ℕ
word ␣ rest = word ++ (32 ∷ rest)
