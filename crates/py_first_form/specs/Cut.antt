use Rattle.std.specs.Prelude.{ℕ, List, [], ◌∷◌, not, ◌==◌}
use Rattle.std.specs.List.{prefix_len}

-- how many bytes stand before the first line feed
abbrev pub to_feed : List ℕ → ℕ
to_feed text = prefix_len (λ c. not (c == 10)) text

-- the first of some lines, or nothing where there is none
abbrev pub first_line : List (List ℕ) → List ℕ
first_line [] = []
first_line (line ∷ rest) = line
