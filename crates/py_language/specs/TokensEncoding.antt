-- Encoding declarations (Language Reference 2.1.4).
use Rattle.std.specs.Prelude.{ℕ, Bool, not, ◌&&◌, ◌||◌, if◌then◌else◌, ◌==◌, nat_eq, List, [], ◌∷◌, drop, map, take_while, bytes_eq, codes}
use Rattle.std.specs.List.{prefix_len, starts_with}
use Rattle.std.specs.Char.{to_ascii_lowercase}
use Rattle.py_language.specs.TokensCharacters.{is_word, is_blank}

-- ASCII letters, digits, `-`, `_` and `.`
abbrev pub is_encoding_character : ℕ → Bool
is_encoding_character c = is_word c || (c == 45 || c == 46)

-- behind `coding`: `:` or `=`, then any blanks, then a name; none where there is something else
abbrev pub encoding_behind : List ℕ → List ℕ
encoding_behind [] = []
encoding_behind (c ∷ cs) = if c == 58 || c == 61 then take_while is_encoding_character (drop (prefix_len is_blank cs) cs) else []

-- the name of the encoding that a declaration right here gives, or nothing
abbrev pub encoding_here : List ℕ → List ℕ
encoding_here text = if starts_with nat_eq text (codes "coding") then encoding_behind (drop 6 text) else []

abbrev pub or_later : List ℕ → List ℕ → List ℕ
or_later [] later = later
or_later (c ∷ cs) later = c ∷ cs

-- the name of the encoding that a comment declares, at the first place that does, or nothing
abbrev pub declared_encoding : List ℕ → List ℕ
declared_encoding [] = []
declared_encoding (c ∷ cs) = or_later (encoding_here (c ∷ cs)) (declared_encoding cs)

abbrev pub with_dash : ℕ → ℕ
with_dash c = if c == 95 then 45 else to_ascii_lowercase c

-- whether an encoding is UTF-8 by its name
abbrev pub is_accepted : Bool → List ℕ → Bool
is_accepted has_mark name = bytes_eq (map with_dash name) (codes "utf-8") || (not has_mark && bytes_eq (map with_dash name) (codes "utf8"))
