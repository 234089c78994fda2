-- Small statements on one line (Language Reference, chapter 7). `line` is the number of the logical line.
use Rattle.std.specs.Prelude.{ℕ, false, List, [], ◌∷◌, Option, Some, None}
use Rattle.py_language.specs.declared.shape.Bracket.TheVariants.{Square}
use Rattle.py_language.specs.declared.token.Token.{Token}
use Rattle.py_language.specs.declared.token.Token.TheVariants as t
use Rattle.py_language.specs.declared.token.Keyword.TheVariants as keyword
use Rattle.py_language.specs.declared.token.Mark.TheVariants as mark
use Rattle.py_language.specs.Trees.{◌>>=◌, tree_at}
use Rattle.py_language.specs.TreesPlaces.{Level, Listed, Conditional, Postfix}
use Rattle.py_syntax.specs.declared.expr.Expr.{Expr}
use Rattle.py_syntax.specs.declared.operator.BinOp.{BinOp}
use Rattle.py_syntax.specs.declared.operator.BinOp.TheVariants.{Add, Sub, Mul, FloorDiv, Mod}
use Rattle.py_syntax.specs.declared.stmt.Stmt.{Stmt}
use Rattle.py_syntax.specs.declared.stmt.StmtKind.{StmtKind}
use Rattle.py_syntax.specs.declared.stmt.StmtKind.TheVariants as s
use Rattle.py_syntax.specs.declared.stmt.Target.{Target}
use Rattle.py_syntax.specs.declared.stmt.Target.TheVariants as to
use Rattle.py_grammar.specs.declared.separator.Separator.TheVariants.{Semicolon, Comma, Colon, Equal, Assign, Part}
use Rattle.py_grammar.specs.Separators.{front, back, last_cut, inside, some_parts, has}
use Rattle.py_grammar.specs.Annotations.{annotation}

-- this, where nothing is behind it
abbrev pub alone : {A : Type 0} → A → List Token → Option A
alone x [] = Some x
alone x _ = None

abbrev pub name : List Token → Option (List ℕ)
name (t.Name n ∷ []) = Some n
name _ = None

-- the operator of an augmented assignment (7.2.1)
abbrev pub augmenting : Token → Option BinOp
augmenting (t.Mark mark.PlusEqual) = Some Add
augmenting (t.Mark mark.MinusEqual) = Some Sub
augmenting (t.Mark mark.StarEqual) = Some Mul
augmenting (t.Mark mark.DoubleSlashEqual) = Some FloorDiv
augmenting (t.Mark mark.PercentEqual) = Some Mod
augmenting _ = None

-- what may have an annotation
abbrev pub unindexed : Target → Option Target
unindexed (to.Index x i) = None
unindexed a = Some a

module _ (line : ℕ) where
  -- ---- expressions, which have the line's number

  abbrev pub expr_at : Level → List Token → Option Expr
  expr_at level xs = tree_at level xs >>= λ x. Some (record { node = x.node; line = line; kind = x.kind })

  abbrev pub expr : List Token → Option Expr
  expr xs = expr_at Conditional xs

  -- an expression, or several with commas between them, which are a tuple
  abbrev pub exprs : List Token → Option Expr
  exprs xs = expr_at Listed xs

  -- an expression, if there is anything
  abbrev pub maybe : Level → List Token → Option (Option Expr)
  maybe level [] = Some None
  maybe level xs = expr_at level xs >>= λ x. Some (Some x)

  -- ---- targets (7.2)

  -- an object, and the index between the bracket that was opened behind it and the last token
  abbrev pub subscript : List Token → List Token → Option (Expr × Expr)
  subscript object xs = do
    x ← expr_at Postfix object
    content ← inside Square xs
    i ← exprs content
    Some (x, i)

  -- by what is before the last dot or bracket, that token, and what is behind it
  abbrev pub target_at : List Token → Token → List Token → Option Target
  target_at object (t.Mark mark.Dot) xs = name xs >>= λ n. expr_at Postfix object >>= λ x. Some (to.Attr x n)
  target_at object (t.Mark mark.LeftBracket) xs = subscript object xs >>= λ p. Some (to.Index p.0 p.1)
  target_at object _ _ = None

  abbrev pub target : List Token → Option Target
  target (t.Name n ∷ []) = Some (to.Name n)
  target xs = last_cut Part xs >>= λ c. target_at c.0 c.1 c.2

  -- ---- assignments and expressions alone (7.1 and 7.2)

  -- targets, and what is behind their `=`
  abbrev pub bound : List Token → List Token → Option StmtKind
  bound before xs = do
    targets ← some_parts Comma target before
    value ← exprs xs
    Some (s.Assign targets (has Comma before) None value)

  -- a target, an operator, and what is behind that
  abbrev pub augmented : List Token → Token → List Token → Option StmtKind
  augmented before x xs = do
    operator ← augmenting x
    changed ← target before
    value ← exprs xs
    Some (s.Augment changed operator value)

  -- by what is before the first `=` or operator with it, and what is from there on
  abbrev pub unannotated_by : List Token → List Token → List Token → Option StmtKind
  unannotated_by whole before [] = exprs whole >>= λ x. Some (s.Bare x)
  unannotated_by whole before (t.Mark mark.Equal ∷ xs) = bound before xs
  unannotated_by whole before (x ∷ xs) = augmented before x xs

  abbrev pub unannotated : List Token → Option StmtKind
  unannotated xs = unannotated_by xs (front Assign xs) (back Assign xs)

  -- by a target, what is behind its colon up to `=`, and what is from there on
  abbrev pub annotated_by : List Token → List Token → List Token → Option StmtKind
  annotated_by before type [] = None
  annotated_by before type (x ∷ xs) = do
    bound ← target before >>= unindexed
    of_type ← annotation type
    value ← exprs xs
    Some (s.Assign (bound ∷ []) false (Some of_type) value)

  -- a target, and what is behind its colon
  abbrev pub annotated : List Token → List Token → Option StmtKind
  annotated before xs = annotated_by before (front Equal xs) (back Equal xs)

  -- by what is before the first colon, and what is from there on
  abbrev pub assignment_by : List Token → List Token → List Token → Option StmtKind
  assignment_by whole before [] = unannotated whole
  assignment_by whole before (x ∷ xs) = annotated before xs

  abbrev pub assignment : List Token → Option StmtKind
  assignment xs = assignment_by xs (front Colon xs) (back Colon xs)

  -- ---- the others (7.3 to 7.10)

  -- by what is before the first comma, and what is from there on
  abbrev pub asserted_by : List Token → List Token → Option StmtKind
  asserted_by test [] = expr test >>= λ x. Some (s.Assert x None)
  asserted_by test (x ∷ xs) = do
    tested ← expr test
    message ← expr xs
    Some (s.Assert tested (Some message))

  abbrev pub asserted : List Token → Option StmtKind
  asserted xs = asserted_by (front Comma xs) (back Comma xs)

  abbrev pub deleted_at : List Token → Token → List Token → Option StmtKind
  deleted_at object (t.Mark mark.LeftBracket) xs = subscript object xs >>= λ p. Some (s.Del p.0 p.1)
  deleted_at object _ xs = None

  abbrev pub deleted : List Token → Option StmtKind
  deleted xs = last_cut Part xs >>= λ c. deleted_at c.0 c.1 c.2

  abbrev pub small : List Token → Option StmtKind
  small (t.Keyword keyword.Pass ∷ xs) = alone s.Pass xs
  small (t.Keyword keyword.Break ∷ xs) = alone s.Break xs
  small (t.Keyword keyword.Continue ∷ xs) = alone s.Continue xs
  small (t.Keyword keyword.Return ∷ xs) = maybe Listed xs >>= λ x. Some (s.Return x)
  small (t.Keyword keyword.Raise ∷ xs) = maybe Conditional xs >>= λ x. Some (s.Raise x)
  small (t.Keyword keyword.Assert ∷ xs) = asserted xs
  small (t.Keyword keyword.Del ∷ xs) = deleted xs
  small xs = assignment xs

  abbrev pub statement : List Token → Option Stmt
  statement xs = small xs >>= λ kind. Some (record { node = record { 0 = 0 }; line = line; kind = kind })

  -- several with semicolons between them
  abbrev pub simple : List Token → Option (List Stmt)
  simple xs = some_parts Semicolon statement xs
