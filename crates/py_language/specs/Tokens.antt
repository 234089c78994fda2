-- The tokens of a text, in logical lines, up to its first lexical fault (Language Reference, chapter 2).
use Rattle.std.specs.Prelude.{ℕ, Bool, List, [], ◌∷◌, Option, Some, None}
use Rattle.std.specs.List.{concat}
use Rattle.pyn_base.specs.declared.construct.Construct.{Construct}
use Rattle.pyn_base.specs.declared.construct.Construct.TheVariants as fault
use Rattle.py_language.specs.declared.token.Tokens.{Tokens}
use Rattle.py_language.specs.TokensCharacters.{has_order_mark, lines_of}
use Rattle.py_language.specs.TokensPieces.{pieces_of}
use Rattle.py_language.specs.TokensLines.{Brackets, open_after, lines_ended}
use Rattle.py_language.specs.TokensFaults.{fault_of}

-- a fault stands here: the logical lines that ended before it stand
abbrev pub unless_fault : Option (ℕ × Construct) → List (List ℕ) → Tokens → Tokens
unless_fault None before rest = rest
unless_fault (Some f) before rest = record { lines = lines_ended before; fault = Some f }

-- the innermost bracket that is still open at the end is a fault at its opening, where there is no other
abbrev pub unclosed : Brackets → Option (ℕ × Construct)
unclosed [] = None
unclosed (o ∷ os) = Some (o.0, fault.Bracket)

-- the first piece at which a fault stands ends the tokens
abbrev pub tokens_behind : Bool → List (List ℕ) → List (List ℕ) → Tokens
tokens_behind has_mark before [] = record { lines = lines_ended before; fault = unclosed (open_after before) }
tokens_behind has_mark before (piece ∷ pieces) =
    unless_fault (fault_of has_mark before piece (concat pieces)) before (tokens_behind has_mark (piece ∷ before) pieces)

-- the tokens of a text
unfoldable pub tokens_of : List ℕ → Tokens
tokens_of text = tokens_behind (has_order_mark text) [] (pieces_of (lines_of text))
