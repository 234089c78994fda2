-- How the lines of a block are cut, by columns and by the keywords that continue a statement (Language Reference 2.1.8 and
-- chapter 8).
use Rattle.std.specs.Prelude.{ℕ, Bool, not, ◌&&◌, ◌==◌, nat_le, List, [], ◌∷◌, ◌++◌, Option, Some, None, Result, Ok, Err, if◌then◌else◌}
use Rattle.py_cut.specs.Cut as cut
use Rattle.py_language.specs.declared.token.Logical.{Logical}
use Rattle.py_syntax.specs.declared.refusal.Refusal.{Refusal}
use Rattle.py_grammar.specs.declared.form.Form.{Form}
use Rattle.py_grammar.specs.declared.place.Place.{Place}
use Rattle.py_grammar.specs.Forms.{form_of}
use Rattle.py_grammar.specs.Refusals.{first_word, is_continuing, refused, misplaced}

infixl 10 ◌>>=◌
abbrev pub ◌>>=◌ : {A B : Type 0} → Result A Refusal → (A → Result B Refusal) → Result B Refusal
(Ok x) >>= f = f x
(Err e) >>= f = Err e

-- ---- cutting a list before each item that p holds of; it begins with a part in any case

module _ {A : Type 0} (p : A → Bool) where
  abbrev pub front : List A → List A
  front xs = cut.front (λ (n : ℕ) x. n) (λ n x. p x) 0 xs

  abbrev pub back : List A → List A
  back xs = cut.back (λ (n : ℕ) x. n) (λ n x. p x) 0 xs

  abbrev pub pieces : List A → List (A × List A)
  pieces xs = cut.pieces (λ (n : ℕ) x. n) (λ n x. p x) 0 xs

  abbrev pub cut_before : List A → List (A × List A)
  cut_before [] = []
  cut_before (x ∷ xs) = (x, front xs) ∷ pieces xs

-- ---- a block is the longest run of lines that are deeper than its header

-- a member of a block: a line, and the deeper lines behind it
abbrev pub Member : Type 0
Member = Logical × List Logical

-- the members of a block whose first line has this column
abbrev pub members : ℕ → List Logical → List Member
members column lines = cut_before (λ l. nat_le l.column column) lines

-- a statement: its first member, and those that may continue it
abbrev pub Group : Type 0
Group = Member × List Member

-- the line has the block's column and begins with `elif`, `else`, `except` or `finally`
abbrev pub continues : ℕ → Logical → Bool
continues column l = (l.column == column) && is_continuing (first_word l.tokens)

abbrev pub groups : ℕ → List Logical → List Group
groups column lines = cut_before (λ m. not (continues column m.0)) (members column lines)

abbrev pub column_of : List Logical → ℕ
column_of [] = 0
column_of (l ∷ ls) = l.column

-- ---- what may be behind lines

-- Right behind lines is the lexical fault at which the text's lines end, or else a line or the text's end.
abbrev pub Behind : Type 0
Behind = Option Refusal

-- what is behind an item that has these behind it
abbrev pub behind : {A : Type 0} → List A → Behind → Behind
behind [] end = end
behind (x ∷ xs) end = None

-- no lines are deeper than these
abbrev pub unless_deeper : {A : Type 0} → List Logical → Result A Refusal → Result A Refusal
unless_deeper [] made = made
unless_deeper (l ∷ ls) made = misplaced l

-- ---- reading a block, statement by statement

module _ {A : Type 0} (place : Place) (room : ℕ) (statement : Behind → Group → Form → Result (List A) Refusal) where
  abbrev pub formed : Behind → Group → Option Form → Result (List A) Refusal
  formed end g None = refused place room g.0.0
  formed end g (Some form) = statement end g form

  -- a statement in a block with this column
  abbrev pub in_column : ℕ → Behind → Group → Result (List A) Refusal
  in_column column end g = if g.0.0.column == column then formed end g (form_of g.0.0) else misplaced g.0.0

  -- the statements of a block, up to the first that is refused
  abbrev pub in_order : ℕ → Behind → List Group → Result (List A) Refusal
  in_order column end [] = Ok []
  in_order column end (g ∷ gs) = do
    first ← in_column column (behind gs end) g
    others ← in_order column end gs
    Ok (first ++ others)

  abbrev pub lines_at : ℕ → Behind → List Logical → Result (List A) Refusal
  lines_at column end lines = in_order column end (groups column lines)
