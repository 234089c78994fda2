-- Where a space is between two tokens of a line, as a Python programmer writes it (PEP 8).
use Rattle.std.specs.Prelude.{ℕ, Bool, true, false, not, ◌&&◌, ◌||◌, ◌==◌, List, [], ◌∷◌, drop, if◌then◌else◌}
use Rattle.py_language.specs.TokensCharacters.{is_word, is_digit, is_quote}
use Rattle.py_printer.specs.declared.kinds.Kind.{Kind}
use Rattle.py_printer.specs.declared.kinds.Kind.TheVariants as is
use Rattle.py_printer.specs.declared.kinds.Last.{Last}
use Rattle.py_printer.specs.declared.kinds.Last.TheVariants as last
use Rattle.py_printer.specs.declared.kinds.Opened.{Opened}
use Rattle.py_printer.specs.declared.kinds.Opened.TheVariants as o
use Rattle.py_printer.specs.declared.kinds.Place.{Place}
use Rattle.py_printer.specs.declared.kinds.Place.TheVariants as place

-- ---- where a space has to be

-- a mark but the dot may go on with these: `=`, `>`, `<`, `*` and `/`
abbrev pub is_joined : ℕ → Bool
is_joined c = c == 61 || (c == 62 || (c == 60 || (c == 42 || c == 47)))

-- a text with this end might be read on with the character
abbrev pub goes_on : Last → ℕ → Bool
goes_on last.Nothing c = false
goes_on last.Word c = is_word c || is_quote c
goes_on last.Number c = is_word c || c == 46
goes_on last.Quoted c = is_quote c
goes_on last.Dot c = c == 46 || is_digit c
goes_on last.Mark c = is_joined c

abbrev pub is_nothing : Last → Bool
is_nothing last.Nothing = true
is_nothing _ = false

abbrev pub needs_space : Last → List ℕ → Bool
needs_space end [] = not (is_nothing end)
needs_space end (c ∷ cs) = goes_on end c

-- ---- where a space is wanted

-- inside the round brackets of a call, or of parameters of which the last has no annotation
abbrev pub is_in_call : List Opened → Bool
is_in_call (o.Round ∷ os) = true
is_in_call _ = false

abbrev pub is_in_square : List Opened → Bool
is_in_square (o.Square ∷ os) = true
is_in_square _ = false

abbrev pub is_loose : Place → Bool
is_loose place.Loose = true
is_loose _ = false

abbrev pub is_spaced_place : Place → Bool
is_spaced_place place.Loose = true
is_spaced_place place.Operand = true
is_spaced_place _ = false

-- none before closing brackets, commas, colons and dots, nor round the `=` of a named argument; an opening bracket after an operand
-- is a call's or a subscription's
abbrev pub wants_space : Place → List Opened → Kind → Bool
wants_space here os (is.Opening b) = is_loose here
wants_space here os is.Closing = false
wants_space here os is.Comma = false
wants_space here os is.Colon = false
wants_space here os is.Dot = false
wants_space here os is.Equal = is_spaced_place here && not (is_in_call os)
wants_space here os is.Sign = is_spaced_place here
wants_space here os is.Operator = is_spaced_place here
wants_space here os is.Operand = is_spaced_place here

-- a sign with an operand before it is between two
abbrev pub after_sign : Place → Place
after_sign place.Operand = place.Loose
after_sign _ = place.Tight

abbrev pub tight_if : Bool → Place
tight_if tight = if tight then place.Tight else place.Loose

abbrev pub place_after : Place → List Opened → Kind → Place
place_after here os (is.Opening b) = place.Tight
place_after here os is.Closing = place.Operand
place_after here os is.Comma = place.Loose
place_after here os is.Colon = tight_if (is_in_square os)
place_after here os is.Dot = place.Tight
place_after here os is.Equal = tight_if (is_in_call os)
place_after here os is.Sign = after_sign here
place_after here os is.Operator = place.Loose
place_after here os is.Operand = place.Operand

abbrev pub is_annotated : List Opened → Bool
is_annotated (o.Annotated ∷ os) = true
is_annotated _ = false

abbrev pub annotated : List Opened → List Opened
annotated os = if is_in_call os then o.Annotated ∷ drop 1 os else os

abbrev pub next_parameter : List Opened → List Opened
next_parameter os = if is_annotated os then o.Round ∷ drop 1 os else os

abbrev pub opened_after : List Opened → Kind → List Opened
opened_after os (is.Opening b) = b ∷ os
opened_after os is.Closing = drop 1 os
opened_after os is.Comma = next_parameter os
opened_after os is.Colon = annotated os
opened_after os is.Dot = os
opened_after os is.Equal = os
opened_after os is.Sign = os
opened_after os is.Operator = os
opened_after os is.Operand = os
