-- Texts as lists of characters: what is found, cut and made of them (the manual, "String Methods").
use Rattle.std.specs.Prelude.{ℕ, zero, suc, ◌+◌, ◌-◌, ◌==◌, nat_le, nat_lt, Bool, ◌&&◌, ◌||◌, if◌then◌else◌, List, [], ◌∷◌, ◌++◌, length, take, drop, filter, Option, Some, None}
use Rattle.std.specs.List.{starts_with, ends_with, prefix_len, suffix_len, slice_split, join_by, flat_map, list_all, list_any}
use Rattle.std.specs.Option.{option_map}
use Rattle.py_meaning.specs.Walk.{is_filled}

abbrev pub begins_with : List ℕ → List ℕ → Bool
begins_with text part = starts_with (λ a b. a == b) text part

abbrev pub finishes_with : List ℕ → List ℕ → Bool
finishes_with text part = ends_with (λ a b. a == b) text part

-- The first place at which a text is in another. The empty text is at the front.
abbrev pub first_place : List ℕ → List ℕ → Option ℕ
first_place part [] = if begins_with [] part then Some 0 else None
first_place part (c ∷ text) = if begins_with (c ∷ text) part then Some 0 else option_map suc (first_place part text)

-- a text at the place of another: what is before it, and the pieces of what is after it
abbrev pub cut_once : (List ℕ → List (List ℕ)) → ℕ → List ℕ → Option ℕ → List (List ℕ)
cut_once others size text None = text ∷ []
cut_once others size text (Some at) = take at text ∷ others (drop (at + size) text)

-- What is between the places of a text that isn't empty, found from the left. No text has more of them than characters.
abbrev pub pieces_within : ℕ → List ℕ → List ℕ → List (List ℕ)
pieces_within zero part text = text ∷ []
pieces_within (suc most) part text = cut_once (pieces_within most part) (length part) text (first_place part text)

unfoldable pub pieces : List ℕ → List ℕ → List (List ℕ)
pieces part text = pieces_within (length text) part text

-- texts in a row, with another between each two
abbrev pub joined : List ℕ → List (List ℕ) → List ℕ
joined between texts = join_by (λ text. text) between texts

-- the empty text is before each character and at the end
abbrev pub put_everywhere : List ℕ → List ℕ → List ℕ
put_everywhere new text = flat_map (λ c. new ++ c ∷ []) text ++ new

-- a text with another one in every place of a part
abbrev pub replaced : List ℕ → List ℕ → List ℕ → List ℕ
replaced [] new text = put_everywhere new text
replaced (c ∷ part) new text = joined new (pieces (c ∷ part) text)

-- Blanks are the space and the characters 9 to 13 and 28 to 31.
abbrev pub is_space : ℕ → Bool
is_space c = c == 32 || (nat_le 9 c && nat_le c 13)

abbrev pub is_blank : ℕ → Bool
is_blank c = is_space c || (nat_le 28 c && nat_le c 31)

-- what is between runs of blanks
abbrev pub words : List ℕ → List (List ℕ)
words text = filter is_filled (slice_split is_blank text)

-- a text without the characters at its end that pass
abbrev pub without_end : (ℕ → Bool) → List ℕ → List ℕ
without_end passes text = take (length text - suffix_len passes text) text

-- a text without the characters at both ends that pass
abbrev pub stripped : (ℕ → Bool) → List ℕ → List ℕ
stripped passes text = without_end passes (drop (prefix_len passes text) text)

abbrev pub is_one_of : List ℕ → ℕ → Bool
is_one_of chars c = list_any (λ d. d == c) chars

abbrev pub is_ascii : List ℕ → Bool
is_ascii text = list_all (λ c. nat_lt c 128) text

-- ASCII letters in the other case; every other character stays
abbrev pub upper : ℕ → ℕ
upper c = if nat_le 97 c && nat_le c 122 then c - 32 else c

abbrev pub lower : ℕ → ℕ
lower c = if nat_le 65 c && nat_le c 90 then c + 32 else c

abbrev pub is_digit : ℕ → Bool
is_digit c = nat_le 48 c && nat_le c 57

abbrev pub are_digits : List ℕ → Bool
are_digits text = is_filled text && list_all is_digit text
