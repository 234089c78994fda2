-- The characters of a text and its lines (Language Reference 2.1.2 and 2.1.4).
use Rattle.std.specs.Prelude.{ℕ, zero, suc, Bool, false, ◌&&◌, ◌||◌, if◌then◌else◌, ◌==◌, nat_eq, nat_le, List, [], ◌∷◌, ◌++◌, take, drop, length, take_while, chars}
use Rattle.std.specs.List.{starts_with}
use Rattle.std.specs.Str.{is_utf8, continuation_len}

-- ---- classes of characters

abbrev pub is_letter : ℕ → Bool
is_letter c = (nat_le 65 c && nat_le c 90) || ((nat_le 97 c && nat_le c 122) || c == 95)

abbrev pub is_digit : ℕ → Bool
is_digit c = nat_le 48 c && nat_le c 57

-- what a name goes on with
abbrev pub is_word : ℕ → Bool
is_word c = is_letter c || is_digit c

-- a space or a tab
abbrev pub is_blank : ℕ → Bool
is_blank c = c == 32 || c == 9

abbrev pub is_quote : ℕ → Bool
is_quote c = c == 34 || c == 39

-- whether a text begins with a character of a class
abbrev pub begins : (ℕ → Bool) → List ℕ → Bool
begins p [] = false
begins p (c ∷ cs) = p c

-- ---- lines

-- the bytes of a byte order mark
abbrev pub order_mark : List ℕ
order_mark = 0xEF ∷ 0xBB ∷ 0xBF ∷ []

abbrev pub has_order_mark : List ℕ → Bool
has_order_mark text = starts_with nat_eq text order_mark

-- a leading byte order mark is skipped
abbrev pub without_order_mark : List ℕ → List ℕ
without_order_mark text = if has_order_mark text then drop 3 text else text

-- the last line end, where a text lacks it
abbrev pub missing_end : List ℕ → List ℕ
missing_end [] = 10 ∷ []
missing_end (b ∷ []) = if b == 10 then [] else 10 ∷ []
missing_end (b ∷ c ∷ bs) = missing_end (c ∷ bs)

-- A line ends at a line feed, or at a carriage return with a line feed, which is read as a line feed. A lone carriage
-- return stays.
abbrev pub with_line_feeds : List ℕ → List ℕ
with_line_feeds [] = []
with_line_feeds (b ∷ bs) = if b == 13 && begins (λ c. c == 10) bs then with_line_feeds bs else b ∷ with_line_feeds bs

-- the text that is read: without its byte order mark, with a last line end, and with each line end a line feed
unfoldable pub lines_of : List ℕ → List ℕ
lines_of text = with_line_feeds (without_order_mark text ++ missing_end (without_order_mark text))

-- ---- UTF-8

-- what stands for a byte that is not UTF-8; no character has this number
abbrev pub not_utf8 : ℕ
not_utf8 = 0x110000

-- behind a first byte: the bytes of its character, as many as it says, up to one that is ASCII
abbrev pub more_bytes : ℕ → List ℕ → List ℕ
more_bytes b bs = take (continuation_len b) (take_while (λ c. nat_le 128 c) bs)

-- whether the first byte and those make up a character
abbrev pub is_character : ℕ → List ℕ → Bool
is_character b bs = is_utf8 (b ∷ more_bytes b bs)

-- The characters that bytes spell in UTF-8. The first n bytes belong to the character before. A byte at which no
-- character stands is read alone.
abbrev pub decoded_behind : ℕ → List ℕ → List ℕ
decoded_behind n [] = []
decoded_behind (suc n) (b ∷ bs) = decoded_behind n bs
decoded_behind zero (b ∷ bs) = (if is_character b bs then chars (b ∷ more_bytes b bs) else not_utf8 ∷ []) ++ decoded_behind (if is_character b bs then length (more_bytes b bs) else 0) bs

unfoldable pub decoded : List ℕ → List ℕ
decoded bytes = decoded_behind 0 bytes
