-- Integers and the texts that spell them (the manual, `int` and `str`).
use Rattle.std.specs.Prelude.{ℕ, ◌+◌, ◌*◌, ◌-◌, ◌==◌, ℤ, pos, neg_ℤ, Bool, true, false, not, if◌then◌else◌, List, [], ◌∷◌, filter, fold, codes, Option, Some, None}
use Rattle.std.specs.List.{slice_split, list_all}
use Rattle.std.specs.Option.{option_map}
use Rattle.std.specs.Fmt.{signed_decimal}
use Rattle.py_meaning.specs.Texts.{are_digits, is_space, stripped}

abbrev pub underscore : ℕ
underscore = 95

abbrev pub minus : ℕ
minus = 45

abbrev pub plus : ℕ
plus = 43

-- decimal digits, with single underscores between them
abbrev pub is_numeral : List ℕ → Bool
is_numeral text = list_all are_digits (slice_split (λ c. c == underscore) text)

abbrev pub digits_of : List ℕ → List ℕ
digits_of text = filter (λ c. not (c == underscore)) text

abbrev pub value_of_digits : List ℕ → ℕ
value_of_digits digits = fold (λ n c. n * 10 + (c - 48)) 0 digits

abbrev pub number_spelled : List ℕ → Option ℕ
number_spelled text = if is_numeral text then Some (value_of_digits (digits_of text)) else None

-- a sign or none, and a numeral
abbrev pub signed_spelled : List ℕ → Option ℤ
signed_spelled [] = None
signed_spelled (c ∷ text) = if c == minus then option_map (λ n. neg_ℤ (pos n)) (number_spelled text)
    else (if c == plus then option_map pos (number_spelled text) else option_map pos (number_spelled (c ∷ text)))

-- The integer that a text spells, of any size. Spaces at both ends don't count.
unfoldable pub integer_spelled : List ℕ → Option ℤ
integer_spelled text = signed_spelled (stripped is_space text)

-- the text of an integer, with `-` before it where it is below 0
abbrev pub integer_text : ℤ → List ℕ
integer_text n = signed_decimal n

abbrev pub truth_text : Bool → List ℕ
truth_text true = codes "True"
truth_text false = codes "False"
