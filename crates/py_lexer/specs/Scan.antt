-- What one pass over the bytes finds, as the code finds it. `proofs/` shows that it is what the definition says.
use Rattle.std.specs.Prelude.{◌≡◌, ℕ, zero, suc, ◌+◌, ◌*◌, ◌^◌, ◌<◌, ◌≤◌, Bool, ◌&&◌, ◌||◌, if◌then◌else◌, ◌==◌, nat_lt, List, [], ◌∷◌, length, take, drop, chars, Option, Some, None, Err, option_to_list, ℤ, pos}
use Rattle.std.specs.Char.{digit_value}
use Rattle.std.specs.Str.{is_utf8}
use Rattle.pyn_base.specs.declared.construct.Construct.{Construct}
use Rattle.pyn_base.specs.declared.construct.Construct.TheVariants as fault
use Rattle.py_language.specs.declared.token.Mark.{Mark}
use Rattle.py_lexer.specs.declared.content.Item.{Item}
use Rattle.py_lexer.specs.declared.content.Item.TheVariants as i
use Rattle.py_language.specs.TokensCharacters.{begins, more_bytes, decoded_behind}
use Rattle.py_language.specs.TokensNumbers.{is_digit_below, base_of}
use Rattle.py_language.specs.TokensStrings.{Content, content_behind, behind, lines_on}
use Rattle.py_language.specs.TokensMarks.{mark_of}

-- ---- numbers

-- how many digits are at the front, each with a single `_` before it or none
abbrev pub digits_len : (ℕ → Bool) → List ℕ → ℕ
digits_len p [] = 0
digits_len p (c ∷ cs) = if p c || (c == 95 && begins p cs) then 1 + digits_len p cs else 0

abbrev pub one_more : ℕ → ℕ
one_more zero = 0
one_more (suc n) = suc (suc n)

-- how many bytes after `0` name a base and are digits of it
abbrev pub based_len : List ℕ → ℕ
based_len [] = 0
based_len (c ∷ cs) = one_more (digits_len (is_digit_below (base_of c)) cs)

abbrev pub zero_more : ℕ → List ℕ → ℕ
zero_more zero cs = digits_len (is_digit_below 1) cs
zero_more (suc n) cs = suc n

-- how many bytes after the first digit belong to the integer
abbrev pub integer_more : ℕ → List ℕ → ℕ
integer_more c cs = if c == 48 then zero_more (based_len cs) cs else digits_len (is_digit_below 10) cs

-- a number below 2^127
abbrev pub in_width : ℕ → Option ℕ
in_width n = if nat_lt n (2 ^ 127) then Some n else None

abbrev pub in_range : ℕ → Option ℤ
in_range n = if nat_lt n (2 ^ 127) then Some (pos n) else None

abbrev pub next_value : ℕ → ℕ → ℕ → ℕ
next_value base n c = if c == 95 then n else n * base + digit_value c

-- ---- marks

-- what the second byte of a mark may be
abbrev pub is_second : ℕ → Bool
is_second c = c == 61 || (c == 42 || (c == 47 || (c == 60 || (c == 62 || c == 46))))

abbrev pub mark_or : Option Mark → ℕ → Option (Mark × ℕ) → Option (Mark × ℕ)
mark_or None n shorter = shorter
mark_or (Some mark) n shorter = Some (mark, n)

-- the longest mark of at most n bytes at the front, and its length
abbrev pub longest_mark : ℕ → List ℕ → Option (Mark × ℕ)
longest_mark zero text = None
longest_mark (suc n) text = mark_or (mark_of (take (suc n) text)) (suc n) (longest_mark n text)

-- ---- strings

-- what the bytes between a string's quotes spell
abbrev pub content_of : List ℕ → Content
content_of bytes = content_behind 0 (decoded_behind 0 bytes)

-- the bytes of the character at the front, if there is one
abbrev pub front_of : List ℕ → List ℕ
front_of [] = []
front_of (b ∷ bs) = b ∷ more_bytes b bs

-- an escape's character and its length, as the code has them
abbrev pub escape_shown : Option (Option ℕ × ℕ) → Option (List ℕ × ℕ)
escape_shown None = None
escape_shown (Some e) = Some (option_to_list e.0, e.1)

-- What is read first of the bytes inside a string: a character with its length and the line ends in it, a character
-- that is not ASCII, or a fault.
abbrev pub ItemAt : List ℕ → Item → Type 0
ItemAt bytes (i.Char c n k) = (content_of bytes ≡ behind (option_to_list c) (lines_on k (content_of (drop n bytes)))) × (0 < n) × (n ≤ length bytes) × (k ≤ n)
ItemAt bytes (i.Wide s) = (content_of bytes ≡ behind (chars s.now) (content_of (drop (length s.now) bytes))) × (0 < length s.now) × (length s.now ≤ length bytes)
ItemAt bytes (i.Fault f) = content_of bytes ≡ Err (0, f)

-- ---- stray characters

-- why no piece begins with these bytes
abbrev pub stray_construct : ℕ → List ℕ → Construct
stray_construct c text = if c == 92 then fault.Backslash else (if nat_lt c 128 then fault.Character else (if is_utf8 (front_of text) then fault.Character else fault.Encoding))
