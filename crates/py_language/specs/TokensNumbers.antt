-- Integers (Language Reference 2.4.5).
use Rattle.std.specs.Prelude.{ℕ, ◌+◌, ◌*◌, Bool, true, false, not, ◌&&◌, ◌||◌, if◌then◌else◌, ◌==◌, nat_lt, List, [], ◌∷◌}
use Rattle.std.specs.Char.{digit_value}
use Rattle.py_language.specs.TokensCharacters.{is_digit, begins}

-- a digit of a value below n: letters of either case stand for 10 and more
abbrev pub is_digit_below : ℕ → ℕ → Bool
is_digit_below n c = nat_lt (digit_value c) n

-- digits of a class; a single `_` may stand before each
abbrev pub are_digits : (ℕ → Bool) → List ℕ → Bool
are_digits p [] = true
are_digits p (c ∷ cs) = (p c || (c == 95 && begins p cs)) && are_digits p cs

-- the base that the letter behind `0` says; no digit has base 0
abbrev pub base_of : ℕ → ℕ
base_of c =
    if c == 120 || c == 88 then 16
    else (if c == 111 || c == 79 then 8
    else (if c == 98 || c == 66 then 2 else 0))

abbrev pub is_nil : List ℕ → Bool
is_nil [] = true
is_nil (c ∷ cs) = false

-- behind `0`: a letter that says the base, and digits of that base
abbrev pub is_based : List ℕ → Bool
is_based [] = false
is_based (c ∷ cs) = not (is_nil cs) && are_digits (is_digit_below (base_of c)) cs

-- `0` repeated, a decimal number that does not begin with `0`, or a number in base 16, 8 or 2
abbrev pub is_integer : List ℕ → Bool
is_integer [] = false
is_integer (c ∷ cs) = is_digit c && (if c == 48 then are_digits (is_digit_below 1) cs || is_based cs else are_digits (is_digit_below 10) cs)

-- the number that digits go on to make of n; `_` is no digit
abbrev pub number_from : ℕ → ℕ → List ℕ → ℕ
number_from base n [] = n
number_from base n (c ∷ cs) = number_from base (if c == 95 then n else n * base + digit_value c) cs

abbrev pub behind_first : List ℕ → List ℕ
behind_first [] = []
behind_first (c ∷ cs) = cs

abbrev pub base_in : List ℕ → ℕ
base_in [] = 0
base_in (c ∷ cs) = base_of c

-- the value of an integer's text: behind `0` a letter may say the base
abbrev pub integer_value : List ℕ → ℕ
integer_value [] = 0
integer_value (c ∷ cs) = if c == 48 && nat_lt 0 (base_in cs) then number_from (base_in cs) 0 (behind_first cs) else number_from 10 0 (c ∷ cs)
