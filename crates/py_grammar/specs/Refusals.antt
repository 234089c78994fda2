-- Why a logical line is refused: the first row of the table of constructs that holds of it. The table is this project's own;
-- its words are those of the Language Reference 3.10, chapters 2, 6, 7 and 8.
use Rattle.std.specs.Prelude.{ℕ, Bool, true, false, not, ◌&&◌, ◌-◌, ◌==◌, List, [], ◌∷◌, length, slice_get, Option, Some, None, Result, Err, if◌then◌else◌}
use Rattle.pyn_base.specs.declared.construct.Construct.{Construct}
use Rattle.pyn_base.specs.declared.construct.Construct.TheVariants as c
use Rattle.py_language.specs.declared.token.Logical.{Logical}
use Rattle.py_language.specs.declared.token.Token.{Token}
use Rattle.py_language.specs.declared.token.Token.TheVariants as t
use Rattle.py_language.specs.declared.token.Keyword.{Keyword}
use Rattle.py_language.specs.declared.token.Keyword.TheVariants as k
use Rattle.py_language.specs.declared.token.Mark.{Mark}
use Rattle.py_language.specs.declared.token.Mark.TheVariants as m
use Rattle.py_syntax.specs.declared.refusal.Refusal.{Refusal}
use Rattle.py_syntax.specs.declared.refusal.Refusal.TheVariants.{Refused}
use Rattle.py_grammar.specs.declared.place.Place.{Place}
use Rattle.py_grammar.specs.declared.place.Place.TheVariants.{Module, Block}

-- ---- how a line begins and ends

-- the keyword that a line begins with, if it begins with one
abbrev pub first_word : List Token → Option Keyword
first_word (t.Keyword word ∷ xs) = Some word
first_word _ = None

-- these begin a statement that has a block and may be in any other one
abbrev pub opens_block : Option Keyword → Bool
opens_block (Some k.If) = true
opens_block (Some k.Elif) = true
opens_block (Some k.Else) = true
opens_block (Some k.While) = true
opens_block (Some k.For) = true
opens_block (Some k.Try) = true
opens_block (Some k.Except) = true
opens_block (Some k.Finally) = true
opens_block _ = false

-- these continue a compound statement
abbrev pub is_continuing : Option Keyword → Bool
is_continuing (Some k.Elif) = true
is_continuing (Some k.Else) = true
is_continuing (Some k.Except) = true
is_continuing (Some k.Finally) = true
is_continuing _ = false

-- a `try` needs one of these
abbrev pub is_clause : Option Keyword → Bool
is_clause (Some k.Except) = true
is_clause (Some k.Finally) = true
is_clause _ = false

abbrev pub is_def : Option Keyword → Bool
is_def (Some k.Def) = true
is_def _ = false

abbrev pub is_class : Option Keyword → Bool
is_class (Some k.Class) = true
is_class _ = false

abbrev pub is_colon : Option Token → Bool
is_colon (Some (t.Mark m.Colon)) = true
is_colon _ = false

-- the last token is a colon
abbrev pub ends_in_colon : List Token → Bool
ends_in_colon xs = is_colon (slice_get xs (length xs - 1))

-- ---- tokens that no line of the grammar has, or not there

abbrev pub foreign_word : Keyword → Option Construct
foreign_word k.Lambda = Some c.Lambda
foreign_word k.Async = Some c.Async
foreign_word k.Await = Some c.Await
foreign_word k.Yield = Some c.Yield
foreign_word k.Global = Some c.Global
foreign_word k.Nonlocal = Some c.Nonlocal
foreign_word k.Import = Some c.Import
foreign_word k.From = Some c.From
foreign_word k.With = Some c.With
foreign_word k.For = Some c.Comprehension
foreign_word _ = None

abbrev pub foreign_mark : Mark → Option Construct
foreign_mark m.Walrus = Some c.Walrus
foreign_mark m.At = Some c.AtSign
foreign_mark m.AtEqual = Some c.AtSign
foreign_mark m.Slash = Some c.Division
foreign_mark m.SlashEqual = Some c.Division
foreign_mark m.DoubleStar = Some c.Power
foreign_mark m.DoubleStarEqual = Some c.Power
foreign_mark m.Ampersand = Some c.BitOperator
foreign_mark m.Pipe = Some c.BitOperator
foreign_mark m.Caret = Some c.BitOperator
foreign_mark m.Tilde = Some c.BitOperator
foreign_mark m.LeftShift = Some c.BitOperator
foreign_mark m.RightShift = Some c.BitOperator
foreign_mark m.AmpersandEqual = Some c.BitOperator
foreign_mark m.PipeEqual = Some c.BitOperator
foreign_mark m.CaretEqual = Some c.BitOperator
foreign_mark m.LeftShiftEqual = Some c.BitOperator
foreign_mark m.RightShiftEqual = Some c.BitOperator
foreign_mark m.Ellipsis = Some c.Ellipsis
foreign_mark _ = None

abbrev pub foreign : Token → Option Construct
foreign (t.Keyword word) = foreign_word word
foreign (t.Mark mark) = foreign_mark mark
foreign _ = None

abbrev pub or_else : Option Construct → Construct → Construct
or_else (Some construct) other = construct
or_else None other = other

-- by the first of these tokens
abbrev pub by_tokens : List Token → Construct
by_tokens [] = c.Syntax
by_tokens (x ∷ xs) = or_else (foreign x) (by_tokens xs)

-- at the beginning of a line `for` is no comprehension
abbrev pub by_line : List Token → Construct
by_line (t.Keyword k.For ∷ xs) = by_tokens xs
by_line xs = by_tokens xs

-- ---- the table, for a line whose column is its block's, and that has a block where it needs one

abbrev pub has_classes : Place → Bool
has_classes Module = true
has_classes _ = false

abbrev pub has_defs : Place → Bool
has_defs Block = false
has_defs _ = true

-- `room` is the number of blocks that may still be inside one another where the line is
module _ (place : Place) (room : ℕ) where
  -- the block that is on the line, or would be, is inside too many
  abbrev pub is_crowded : List Token → Bool
  is_crowded xs = (room == 0) && (opens_block (first_word xs) && not (ends_in_colon xs))

  unfoldable pub construct_of : List Token → Construct
  construct_of xs =
      if is_crowded xs then c.Nesting
      else if is_def (first_word xs) && not (has_defs place) then c.NestedDef
      else if is_class (first_word xs) && not (has_classes place) then c.NestedClass
      else by_line xs

  abbrev pub refusal : Logical → Refusal
  refusal l = Refused l.line (construct_of l.tokens)

  -- the line is refused, by the table
  abbrev pub refused : {A : Type 0} → Logical → Result A Refusal
  refused l = Err (refusal l)

-- ---- the rows that a line has from those around it

-- its column is not its block's, or it is a header that has no block
abbrev pub misplaced : {A : Type 0} → Logical → Result A Refusal
misplaced l = Err (Refused l.line c.Indent)

-- it is inside too many blocks
abbrev pub too_deep : {A : Type 0} → Logical → Result A Refusal
too_deep l = Err (Refused l.line c.Nesting)
