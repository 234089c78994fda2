-- Compound statements, put together from their headers and blocks (Language Reference, chapter 8).
use Rattle.std.specs.Prelude.{ℕ, zero, suc, ◌==◌, List, [], ◌∷◌, ◌++◌, Option, Some, None, Result, Ok, Err, if◌then◌else◌, option_to_list}
use Rattle.py_language.specs.declared.token.Logical.{Logical}
use Rattle.py_syntax.specs.declared.expr.Expr.{Expr}
use Rattle.py_syntax.specs.declared.refusal.Refusal.{Refusal}
use Rattle.py_syntax.specs.declared.stmt.Clause.{Clause, roll-Clause}
use Rattle.py_syntax.specs.declared.stmt.Stmt.{Stmt}
use Rattle.py_syntax.specs.declared.stmt.StmtKind.{StmtKind}
use Rattle.py_syntax.specs.declared.stmt.StmtKind.TheVariants as s
use Rattle.py_grammar.specs.declared.form.Form.{Form}
use Rattle.py_grammar.specs.declared.form.Form.TheVariants.{Simple, Compound}
use Rattle.py_grammar.specs.declared.form.Header.TheVariants as h
use Rattle.py_grammar.specs.declared.place.Place.{Place}
use Rattle.py_grammar.specs.declared.place.Place.TheVariants.{Block}
use Rattle.py_grammar.specs.Forms.{form_of}
use Rattle.py_grammar.specs.Refusals.{first_word, is_clause, refused, misplaced, too_deep}
use Rattle.py_grammar.specs.Blocks.{◌>>=◌, Member, Group, Behind, behind, unless_deeper, column_of, lines_at}

abbrev pub stmt : Logical → StmtKind → List Stmt
stmt l kind = record { node = record { 0 = 0 }; line = l.line; kind = kind } ∷ []

abbrev pub clause_at : Logical → Option (List (List ℕ)) → Option (List ℕ) → List Stmt → Clause
clause_at l classes name body = roll-Clause (record { node = record { 0 = 0 }; line = l.line; classes = classes; name = name; body = body })

-- the arms of an `if` behind its first one, and its `else`
abbrev pub Arms : Type 0
Arms = List (Expr × List Stmt) × Option (List Stmt)

-- `else` and `finally` of a `try`
abbrev pub Ending : Type 0
Ending = Option (List Stmt) × Option (List Stmt)

-- the clauses of a `try`, its `else` and its `finally`
abbrev pub Handlers : Type 0
Handlers = List Clause × Option (List Stmt) × Option (List Stmt)

-- a header whose lines end right behind it, at a lexical fault or not
abbrev pub without_block : {A : Type 0} → Behind → Logical → Result A Refusal
without_block (Some fault) l = Err fault
without_block None l = misplaced l

-- `inner` reads the lines of a block that is inside the one of these lines
module _ (place : Place) (room : ℕ) where
  -- nothing continues the statement
  abbrev pub unless_continued : {A : Type 0} → List Member → Result A Refusal → Result A Refusal
  unless_continued [] made = made
  unless_continued (m ∷ ms) made = refused place room m.0

  -- a `try` lacks its clauses, unless its lines end at a lexical fault
  abbrev pub lacking : {A : Type 0} → Behind → Logical → Result A Refusal
  lacking (Some fault) l = Err fault
  lacking None l = refused place room l

  module _ {A : Type 0} (inner : Behind → List Logical → Result (List A) Refusal) where
    abbrev pub deeper_block : Behind → Logical → List Logical → Result (List A) Refusal
    deeper_block end l [] = without_block end l
    deeper_block end l (x ∷ xs) = inner end (x ∷ xs)

    -- the block of a header, on its line or on the deeper lines behind it
    abbrev pub block : Behind → Member → Option (List A) → Result (List A) Refusal
    block end m None = deeper_block end m.0 m.1
    block end m (Some small) = if room == 0 then refused place room m.0 else unless_deeper m.1 (Ok small)

  module _ (inner : Behind → List Logical → Result (List Stmt) Refusal) where
    abbrev pub suite : Behind → Member → Option (List Stmt) → Result (List Stmt) Refusal
    suite end m small = block inner end m small

    -- ---- `if` (8.1)

    -- an arm: its test, unless it is `else`, and its block
    abbrev pub arm : Behind → Member → List Member → Option Form → Result (Option Expr × List Stmt) Refusal
    arm end m ms (Some (Compound (h.Elif test) small)) = suite end m small >>= λ body. Ok (Some test, body)
    arm end m ms (Some (Compound h.Else small)) = suite end m small >>= λ body. unless_continued ms (Ok (None, body))
    arm end m ms _ = refused place room m.0

    -- with the arms behind it
    abbrev pub and_arms : Result Arms Refusal → Option Expr × List Stmt → Result Arms Refusal
    and_arms more (None, body) = Ok ([], Some body)
    and_arms more (Some test, body) = more >>= λ others. Ok ((test, body) ∷ others.0, others.1)

    abbrev pub arms : Behind → List Member → Result Arms Refusal
    arms end [] = Ok ([], None)
    arms end (m ∷ ms) = arm (behind ms end) m ms (form_of m.0) >>= and_arms (arms end ms)

    -- ---- `try` (8.4)

    abbrev pub finally : Behind → Member → List Member → Option Form → Result (Option (List Stmt)) Refusal
    finally end m ms (Some (Compound h.Finally small)) = do
      body ← suite end m small
      unless_continued ms (Ok (Some body))
    finally end m ms _ = refused place room m.0

    abbrev pub last_part : Behind → List Member → Result (Option (List Stmt)) Refusal
    last_part end [] = Ok None
    last_part end (m ∷ ms) = finally (behind ms end) m ms (form_of m.0)

    -- `else` and `finally`, by what is behind the first of the members and behind all of them
    abbrev pub ending : Behind → Behind → Member → List Member → Option Form → Result Ending Refusal
    ending end last m ms (Some (Compound h.Else small)) = do
      body ← suite end m small
      others ← last_part last ms
      Ok (Some body, others)
    ending end last m ms form = finally end m ms form >>= λ body. Ok (None, body)

    abbrev pub last_parts : Behind → List Member → Result Ending Refusal
    last_parts end [] = Ok (None, None)
    last_parts end (m ∷ ms) = ending (behind ms end) end m ms (form_of m.0)

    -- a clause, if the first of the members is one, and the rest of the statement, where no clause may be behind it
    abbrev pub handler : Behind → Behind → Member → List Member → Option Form → Result (Option Clause × Option Ending) Refusal
    handler end last m ms (Some (Compound (h.Except None name) small)) = do
      body ← suite end m small
      others ← last_parts last ms
      Ok (Some (clause_at m.0 None name body), Some others)
    handler end last m ms (Some (Compound (h.Except (Some classes) name) small)) = do
      body ← suite end m small
      Ok (Some (clause_at m.0 (Some classes) name body), None)
    handler end last m ms form = ending end last m ms form >>= λ others. Ok (None, Some others)

    -- with the clauses behind it
    abbrev pub and_handlers : Result Handlers Refusal → Option Clause × Option Ending → Result Handlers Refusal
    and_handlers more (found, Some rest) = Ok (option_to_list found, rest.0, rest.1)
    and_handlers more (found, None) = more >>= λ others. Ok (option_to_list found ++ others.0, others.1, others.2)

    abbrev pub handlers : Behind → List Member → Result Handlers Refusal
    handlers end [] = Ok ([], None, None)
    handlers end (m ∷ ms) = handler (behind ms end) end m ms (form_of m.0) >>= and_handlers (handlers end ms)

    -- what is behind the block of the `try` on the line
    abbrev pub handled : Behind → Logical → List Member → Result Handlers Refusal
    handled end l [] = lacking end l
    handled end l (m ∷ ms) = if is_clause (first_word m.0.tokens) then handlers end (m ∷ ms) else refused place room l

    -- ---- statements, by their first line's form

    unfoldable pub statement : Behind → Group → Form → Result (List Stmt) Refusal
    statement end g (Simple small) = unless_deeper g.0.1 (unless_continued g.1 (Ok small))
    statement end g (Compound (h.If test) small) = do
      body ← suite (behind g.1 end) g.0 small
      others ← arms end g.1
      Ok (stmt g.0.0 (s.If ((test, body) ∷ others.0) others.1))
    statement end g (Compound (h.While test) small) = do
      body ← suite (behind g.1 end) g.0 small
      unless_continued g.1 (Ok (stmt g.0.0 (s.While test body)))
    statement end g (Compound (h.For names is_tuple walked) small) = do
      body ← suite (behind g.1 end) g.0 small
      unless_continued g.1 (Ok (stmt g.0.0 (s.For names is_tuple walked body)))
    statement end g (Compound h.Try small) = do
      body ← suite (behind g.1 end) g.0 small
      others ← handled end g.0.0 g.1
      Ok (stmt g.0.0 (s.Try body others.0 others.1 others.2))
    statement end g _ = refused place room g.0.0

-- the first line is inside too many blocks
abbrev pub crowded : {A : Type 0} → List Logical → Result (List A) Refusal
crowded [] = Ok []
crowded (l ∷ ls) = too_deep l

-- The statements of a block, where this is the number of blocks that may be inside one another from it on.
unfoldable pub statements : ℕ → Behind → List Logical → Result (List Stmt) Refusal
statements zero end lines = crowded lines
statements (suc room) end lines = lines_at Block room (statement Block room (statements room)) (column_of lines) end lines

-- how many blocks may be inside one another
abbrev pub deepest : ℕ
deepest = 20
