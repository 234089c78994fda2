-- Fields of a line: words, numbers and names, and the words of tables. What is not of a field's form gives nothing.
use Rattle.std.specs.Prelude.{ℕ, ◌^◌, ◌==◌, Bool, false, ◌&&◌, ◌||◌, nat_lt, nat_le, if◌then◌else◌, List, [], ◌∷◌, Option, Some, None, option_and_then, find, bytes_eq, decimal}
use Rattle.std.specs.List.{list_all}
use Rattle.std.specs.Str.Parse.{digits_value}

infixl 10 ◌>>=◌
abbrev pub ◌>>=◌ : {A B : Type 0} → Option A → (A → Option B) → Option B
o >>= f = option_and_then f o

-- what is before the first mark, and what is after it
abbrev pub with_first : ℕ → Option (List ℕ × List ℕ) → Option (List ℕ × List ℕ)
with_first c None = None
with_first c (Some parts) = Some (c ∷ parts.0, parts.1)

abbrev pub cut : ℕ → List ℕ → Option (List ℕ × List ℕ)
cut mark [] = None
cut mark (c ∷ rest) = if c == mark then Some ([], rest) else with_first c (cut mark rest)

-- the word before the first space, and what is after that
abbrev pub word_at : List ℕ → Option (List ℕ × List ℕ)
word_at text = cut 32 text

-- a value, where a word is this one
abbrev pub if_word : {A : Type 0} → List ℕ → List ℕ → A → Option A
if_word word text value = if bytes_eq text word then Some value else None

-- what is after this word and a space
unfoldable pub after : List ℕ → List ℕ → Option (List ℕ)
after word text = do
  found ← word_at text
  if_word word found.0 found.1

-- The number that a word is, of at most 32 bits: the word is how that number is written, so it has no sign and no leading zero.
abbrev pub number_by : ℕ → List ℕ → Option ℕ
number_by n digits = if nat_lt n (2 ^ 32) && bytes_eq digits (decimal n) then Some n else None

unfoldable pub number_of : List ℕ → Option ℕ
number_of digits = number_by (digits_value 10 digits) digits

-- a number, and what is after it and a space
unfoldable pub number_at : List ℕ → Option (ℕ × List ℕ)
number_at text = do
  found ← word_at text
  n ← number_of found.0
  Some (n, found.1)

-- what is after this number and a space
unfoldable pub after_number : ℕ → List ℕ → Option (List ℕ)
after_number k text = do
  found ← number_at text
  if found.0 == k then Some found.1 else None

-- A name (Language Reference 2.3, within ASCII): a letter or an underscore, and then letters, digits and underscores. A keyword is one too.
abbrev pub is_letter : ℕ → Bool
is_letter c = (nat_le 97 c && nat_le c 122) || ((nat_le 65 c && nat_le c 90) || c == 95)

abbrev pub is_name_part : ℕ → Bool
is_name_part c = is_letter c || (nat_le 48 c && nat_le c 57)

abbrev pub is_name : List ℕ → Bool
is_name [] = false
is_name (c ∷ rest) = is_letter c && list_all is_name_part rest

unfoldable pub name_of : List ℕ → Option (List ℕ)
name_of text = if is_name text then Some text else None

-- the first value of a table that is spelled so
unfoldable pub named : {A : Type 0} → (A → List ℕ) → List A → List ℕ → Option A
named spelling table word = find (λ x. bytes_eq (spelling x) word) table
