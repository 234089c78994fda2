-- Worked examples: the tokens of small statements, whatever the expressions in them are.
use Rattle.std.specs.Prelude.{◌≡◌, true, false, List, [], ◌∷◌, ◌++◌, Some, None, codes}
use Rattle.py_language.specs.declared.token.Token.{Token}
use Rattle.py_language.specs.declared.token.Token.TheVariants as t
use Rattle.py_language.specs.declared.token.Keyword.TheVariants as k
use Rattle.py_language.specs.declared.token.Mark.TheVariants as m
use Rattle.py_language.specs.TreesPlaces.{Listed, Conditional, Postfix}
use Rattle.py_syntax.specs.declared.expr.Expr.{Expr}
use Rattle.py_syntax.specs.declared.operator.BinOp.TheVariants.{FloorDiv}
use Rattle.py_syntax.specs.declared.stmt.Annotation.{Annotation}
use Rattle.py_syntax.specs.declared.stmt.Clause.{Clause}
use Rattle.py_syntax.specs.declared.stmt.Stmt.{Stmt}
use Rattle.py_syntax.specs.declared.stmt.StmtKind.{StmtKind, StmtKind-F}
use Rattle.py_syntax.specs.declared.stmt.Target.TheVariants as to
use Rattle.py_printing.specs.Expressions.{expr_tokens}
use Rattle.py_layout.specs.Small.{small_by}

abbrev pub name : List Token
name = t.Name (codes "x") ∷ []

module _ (annotated : Annotation → List Token) where
  abbrev pub shown : StmtKind-F StmtKind Clause Stmt → List Token
  shown kind = small_by annotated kind

  -- `x, = VALUE`
  abbrev pub TupleOfOne : Type 0
  TupleOfOne = (value : Expr) → shown (StmtKind-F.Assign (to.Name (codes "x") ∷ []) true None value) ≡ name ++ t.Mark m.Comma ∷ t.Mark m.Equal ∷ expr_tokens Listed value

  -- `x, OF.y = VALUE`
  abbrev pub TwoTargets : Type 0
  TwoTargets = (of value : Expr) → shown (StmtKind-F.Assign (to.Name (codes "x") ∷ to.Attr of (codes "y") ∷ []) true None value)
      ≡ name ++ t.Mark m.Comma ∷ ((expr_tokens Postfix of ++ t.Mark m.Dot ∷ t.Name (codes "y") ∷ []) ++ t.Mark m.Equal ∷ expr_tokens Listed value)

  -- `x: ANNOTATION = VALUE`
  abbrev pub Typed : Type 0
  Typed = (type : Annotation) (value : Expr) → shown (StmtKind-F.Assign (to.Name (codes "x") ∷ []) false (Some type) value) ≡ name ++ t.Mark m.Colon ∷ (annotated type ++ t.Mark m.Equal ∷ expr_tokens Listed value)

  -- `x //= VALUE`
  abbrev pub Augmented : Type 0
  Augmented = (value : Expr) → shown (StmtKind-F.Augment (to.Name (codes "x")) FloorDiv value) ≡ name ++ t.Mark m.DoubleSlashEqual ∷ expr_tokens Listed value

  -- `del OF[AT]`
  abbrev pub Deleted : Type 0
  Deleted = (of at : Expr) → shown (StmtKind-F.Del of at) ≡ t.Keyword k.Del ∷ (expr_tokens Postfix of ++ t.Mark m.LeftBracket ∷ (expr_tokens Listed at ++ t.Mark m.RightBracket ∷ []))

  -- `assert TEST, MESSAGE`
  abbrev pub Asserted : Type 0
  Asserted = (test message : Expr) → shown (StmtKind-F.Assert test (Some message)) ≡ t.Keyword k.Assert ∷ (expr_tokens Conditional test ++ t.Mark m.Comma ∷ expr_tokens Conditional message)

  -- `return`
  abbrev pub Returned : Type 0
  Returned = shown (StmtKind-F.Return None) ≡ t.Keyword k.Return ∷ []

abbrev pub SmallExamples : Type 0
SmallExamples = (annotated : Annotation → List Token)
    → TupleOfOne annotated × (TwoTargets annotated × (Typed annotated × (Augmented annotated × (Deleted annotated × (Asserted annotated × Returned annotated)))))
