-- Strings and their escapes (Language Reference 2.4.1).
use Rattle.std.specs.Prelude.{ℕ, zero, suc, ◌+◌, ◌-◌, ◌*◌, Bool, true, false, not, ◌&&◌, ◌||◌, if◌then◌else◌, ◌==◌, nat_eq, List, [], ◌∷◌, ◌++◌, length, take, drop, Option, Some, None, Result, Ok, Err}
use Rattle.std.specs.List.{starts_with}
use Rattle.std.specs.Char.{digit_value}
use Rattle.std.specs.Str.{all_scalars}
use Rattle.pyn_base.specs.declared.construct.Construct.{Construct}
use Rattle.pyn_base.specs.declared.construct.Construct.TheVariants as fault
use Rattle.py_language.specs.TokensCharacters.{begins, not_utf8, decoded}
use Rattle.py_language.specs.TokensNumbers.{is_digit_below}

-- ---- where a string ends

-- the quotes at a string's ends: one, or three of the same
abbrev pub quotes : ℕ → Bool → List ℕ
quotes q is_tripled = if is_tripled then q ∷ q ∷ q ∷ [] else q ∷ []

abbrev pub is_tripled : ℕ → List ℕ → Bool
is_tripled q cs = starts_with nat_eq cs (q ∷ q ∷ [])

abbrev pub later : Option ℕ → Option ℕ
later None = None
later (Some n) = Some (suc n)

-- Behind the opening quotes: where the first closing quotes end. A backslash hides the character behind it. A string
-- of single quotes ends on its line.
abbrev pub closing : ℕ → Bool → Bool → List ℕ → Option ℕ
closing q is_long is_hidden [] = None
closing q is_long true (c ∷ cs) = later (closing q is_long false cs)
closing q is_long false (c ∷ cs) =
    if starts_with nat_eq (c ∷ cs) (quotes q is_long) then Some (length (quotes q is_long))
    else (if c == 10 && not is_long then None else later (closing q is_long (c == 92) cs))

-- the number of the opening quotes, and with it of the closing ones
abbrev pub quotes_len : ℕ → List ℕ → ℕ
quotes_len q cs = length (quotes q (is_tripled q cs))

abbrev pub plus : ℕ → Option ℕ → Option ℕ
plus n None = None
plus n (Some k) = Some (n + k)

-- the length of the string whose first quote is q, with cs behind that, if it is closed
unfoldable pub string_len : ℕ → List ℕ → Option ℕ
string_len q cs = plus (quotes_len q cs) (closing q (is_tripled q cs) false (drop (quotes_len q cs - 1) cs))

-- ---- what stands inside

-- a character that may stand nowhere in a text, and its fault
abbrev pub refused : ℕ → Option Construct
refused c = if c == not_utf8 then Some fault.Encoding else (if c == 13 || c == 12 then Some fault.Character else None)

-- what n hexadecimal digits make of those before, which made v
abbrev pub hex_value : ℕ → ℕ → List ℕ → Option ℕ
hex_value zero v cs = Some v
hex_value (suc n) v [] = None
hex_value (suc n) v (c ∷ cs) = if is_digit_below 16 c then hex_value n (v * 16 + digit_value c) cs else None

-- an escape of n hexadecimal digits: the character with that code, if there is one
abbrev pub hex_escape_by : ℕ → Option ℕ → Option (List ℕ × ℕ)
hex_escape_by n None = None
hex_escape_by n (Some c) = if all_scalars (c ∷ []) then Some (c ∷ [], suc n) else None

abbrev pub hex_escape : ℕ → List ℕ → Option (List ℕ × ℕ)
hex_escape n cs = hex_escape_by n (hex_value n 0 cs)

-- what stands behind a backslash: the characters that the escape is, and how many it takes
abbrev pub escape_by : ℕ → List ℕ → Option (List ℕ × ℕ)
escape_by c cs =
    if c == 92 || (c == 39 || c == 34) then Some (c ∷ [], 1)
    else (if c == 110 then Some (10 ∷ [], 1)
    else (if c == 116 then Some (9 ∷ [], 1)
    else (if c == 114 then Some (13 ∷ [], 1)
    else (if c == 10 then Some ([], 1)
    else (if c == 120 then hex_escape 2 cs
    else (if c == 117 then hex_escape 4 cs
    else None))))))

abbrev pub escape_of : List ℕ → Option (List ℕ × ℕ)
escape_of [] = None
escape_of (c ∷ cs) = escape_by c cs

abbrev pub escape_len : Option (List ℕ × ℕ) → ℕ
escape_len None = 0
escape_len (Some escape) = escape.1

-- how many of the characters behind one are read with it
abbrev pub taken : ℕ → List ℕ → ℕ
taken c cs = if c == 92 then escape_len (escape_of cs) else 0

-- the characters of a string, or its first fault with the number of line ends before it
abbrev pub Content : Type 0
Content = Result (List ℕ) (ℕ × Construct)

abbrev pub behind : List ℕ → Content → Content
behind xs (Ok cs) = Ok (xs ++ cs)
behind xs (Err e) = Err e

abbrev pub lines_on : ℕ → Content → Content
lines_on n (Ok cs) = Ok cs
lines_on n (Err e) = Err (n + e.0, e.1)

abbrev pub escaped : Option (List ℕ × ℕ) → Content → Content
escaped None rest = Err (0, fault.Escape)
escaped (Some escape) rest = behind escape.0 rest

abbrev pub plain : ℕ → Option Construct → Content → Content
plain c (Some f) rest = Err (0, f)
plain c None rest = behind (c ∷ []) rest

-- the line ends that one character and those read with it hold
abbrev pub line_feeds_in : ℕ → List ℕ → ℕ
line_feeds_in c cs = if c == 10 || (c == 92 && begins (λ d. d == 10) cs) then 1 else 0

-- what the characters between the quotes stand for; the first n of them belong to the escape before
abbrev pub content_behind : ℕ → List ℕ → Content
content_behind n [] = Ok []
content_behind (suc n) (c ∷ cs) = content_behind n cs
content_behind zero (c ∷ cs) =
    let rest = lines_on (line_feeds_in c cs) (content_behind (taken c cs) cs) in
    if c == 92 then escaped (escape_of cs) rest else plain c (refused c) rest

-- what a closed string stands for: its first quote is q, with cs behind that
unfoldable pub string_content : ℕ → List ℕ → Content
string_content q cs =
    let n = quotes_len q cs in
    content_behind 0 (decoded (take (length cs + 1 - (n + n)) (drop (n - 1) cs)))
