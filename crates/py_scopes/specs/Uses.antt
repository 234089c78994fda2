-- What a text does with names, in order, and what it does where it may not (Language Reference 4.2, 6.3.4, 7 and 8). Annotations are
-- apart, in `Annotations`.
use Rattle.std.specs.Prelude.{ℕ, Bool, true, false, ◌||◌, if◌then◌else◌, nat_lt, bytes_eq, List, [], ◌∷◌, ◌++◌, Option, Some, None}
use Rattle.std.specs.List.{flat_map, list_any}
use Rattle.py_syntax.specs.declared.expr.Args.{Args, Args-F, fold-Args}
use Rattle.py_syntax.specs.declared.expr.Expr.{Expr, Expr-F, fold-Expr}
use Rattle.py_syntax.specs.declared.expr.ExprKind.{ExprKind, ExprKind-F, fold-ExprKind}
use Rattle.py_syntax.specs.declared.stmt.Annotation.{Annotation}
use Rattle.py_syntax.specs.declared.stmt.Clause.{Clause, Clause-F, fold-Clause}
use Rattle.py_syntax.specs.declared.stmt.Stmt.{Stmt, Stmt-F, fold-Stmt}
use Rattle.py_syntax.specs.declared.stmt.StmtKind.{StmtKind, StmtKind-F, fold-StmtKind}
use Rattle.py_syntax.specs.declared.stmt.Target.{Target}
use Rattle.py_syntax.specs.declared.stmt.Target.TheVariants as target

pub data Use : Type 0 where
  Reads : List ℕ → Use
  -- by a target, a `for`, or `as`
  Binds : List ℕ → Use
  -- an attribute, read or set, also as a method that is called
  Attribute : List ℕ → Use
  -- `super().NAME(..)`
  Super : List ℕ → Use
  -- the name of a named argument
  Argument : List ℕ → Use
  -- a class that a clause handles
  Catches : List ℕ → Use
  -- the name of a `def`
  Defines : List ℕ → Use
  -- the base of a class
  Based : List ℕ → Use
  -- a name that is imported from typing
  Imported : List ℕ → Use
  Annotated : Annotation → Use
  -- a plain argument after a named one, or a name twice
  MixedArguments : Use
  -- `break` or `continue` outside of a loop
  NoLoop : Use
  -- `raise` alone outside of a clause
  NoClause : Use

pub record Used : Type 0 where
  pub line : ℕ
  pub use' : Use

abbrev pub Uses : Type 0
Uses = List Used

abbrev pub at : ℕ → Use → Uses
at line u = record { line = line; use' = u } ∷ []

-- ---- expressions

abbrev pub OnLine : Type 0
OnLine = ℕ → Uses

-- an expression in an expression, with its number, which tells where it stands
pub record Part : Type 0 where
  pub number : ℕ
  pub uses : Uses

abbrev pub all : List Part → Uses
all parts = flat_map (λ part. part.uses) parts

abbrev pub maybe : Option Part → Uses
maybe None = []
maybe (Some part) = part.uses

abbrev pub kind_uses : ExprKind-F OnLine OnLine Part → OnLine
kind_uses (ExprKind-F.Name name) line = at line (Reads name)
kind_uses (ExprKind-F.ListLit xs) line = all xs
kind_uses (ExprKind-F.TupleLit xs) line = all xs
kind_uses (ExprKind-F.DictLit pairs) line = flat_map (λ pair. pair.0.uses ++ pair.1.uses) pairs
kind_uses (ExprKind-F.Attr x name) line = x.uses ++ at line (Attribute name)
kind_uses (ExprKind-F.Index x i) line = x.uses ++ i.uses
kind_uses (ExprKind-F.Slice x low high) line = x.uses ++ maybe low ++ maybe high
kind_uses (ExprKind-F.Call x args) line = x.uses ++ args line
kind_uses (ExprKind-F.Method x name args) line = x.uses ++ at line (Attribute name) ++ args line
kind_uses (ExprKind-F.Super name args) line = at line (Super name) ++ args line
kind_uses (ExprKind-F.Unary sign x) line = x.uses
kind_uses (ExprKind-F.Not x) line = x.uses
kind_uses (ExprKind-F.Binary op a b) line = a.uses ++ b.uses
kind_uses (ExprKind-F.And xs) line = all xs
kind_uses (ExprKind-F.Or xs) line = all xs
kind_uses (ExprKind-F.Compare x pairs) line = x.uses ++ flat_map (λ pair. pair.1.uses) pairs
kind_uses (ExprKind-F.Cond a test b) line = a.uses ++ test.uses ++ b.uses
kind_uses _ line = []

abbrev pub has_name : List ℕ → List (List ℕ × Part) → Bool
has_name name named = list_any (λ row. bytes_eq name row.0) named

abbrev pub has_twice : List (List ℕ × Part) → Bool
has_twice [] = false
has_twice (row ∷ rows) = has_name row.0 rows || has_twice rows

-- whether some plain argument stands after some named one
abbrev pub is_mixed : List Part → List (List ℕ × Part) → Bool
is_mixed plain named = list_any (λ row. list_any (λ part. nat_lt row.1.number part.number) plain) named

abbrev pub args_uses : Args-F OnLine OnLine Part → OnLine
args_uses args line =
    all args.plain ++ flat_map (λ row. at line (Argument row.0) ++ row.1.uses) args.named
    ++ (if is_mixed args.plain args.named || has_twice args.named then at line MixedArguments else [])

abbrev pub expr_uses : Expr-F OnLine OnLine Part → Part
expr_uses x = record { number = x.node.0; uses = x.kind x.line }

unfoldable pub uses_of : Expr → Uses
uses_of x = (fold-Expr OnLine OnLine Part kind_uses args_uses expr_uses x).uses

unfoldable pub number_of : Expr → ℕ
number_of x = (fold-Expr OnLine OnLine Part kind_uses args_uses expr_uses x).number

-- those of an expression without its number and line, and of arguments
unfoldable pub uses_of_kind : ExprKind → OnLine
uses_of_kind = fold-ExprKind OnLine OnLine Part kind_uses args_uses expr_uses

unfoldable pub uses_of_args : Args → OnLine
uses_of_args = fold-Args OnLine OnLine Part kind_uses args_uses expr_uses

abbrev pub maybe_uses : Option Expr → Uses
maybe_uses None = []
maybe_uses (Some x) = uses_of x

-- ---- statements

-- what is round a statement
pub record Around : Type 0 where
  pub loop : Bool
  -- a clause, and no `finally` between
  pub clause : Bool

-- a body's own statements
abbrev pub nothing : Around
nothing = record { loop = false; clause = false }

abbrev pub Within : Type 0
Within = Around → Uses

abbrev pub block : List Within → Within
block parts around = flat_map (λ part. part around) parts

abbrev pub maybe_block : Option (List Within) → Within
maybe_block None around = []
maybe_block (Some parts) around = block parts around

abbrev pub binds : ℕ → List (List ℕ) → Uses
binds line names = flat_map (λ name. at line (Binds name)) names

abbrev pub target_uses : ℕ → Target → Uses
target_uses line (target.Name name) = at line (Binds name)
target_uses line (target.Attr x name) = uses_of x ++ at line (Attribute name)
target_uses line (target.Index x i) = uses_of x ++ uses_of i

abbrev pub annotated : ℕ → Option Annotation → Uses
annotated line None = []
annotated line (Some annotation) = at line (Annotated annotation)

abbrev pub unless : Bool → ℕ → Use → Uses
unless true line u = []
unless false line u = at line u

abbrev pub stmt_kind_uses : StmtKind-F (ℕ → Within) Within Within → ℕ → Within
stmt_kind_uses StmtKind-F.Pass line around = []
stmt_kind_uses StmtKind-F.Break line around = unless around.loop line NoLoop
stmt_kind_uses StmtKind-F.Continue line around = unless around.loop line NoLoop
stmt_kind_uses (StmtKind-F.Return x) line around = maybe_uses x
stmt_kind_uses (StmtKind-F.Raise None) line around = unless around.clause line NoClause
stmt_kind_uses (StmtKind-F.Raise (Some x)) line around = uses_of x
stmt_kind_uses (StmtKind-F.Assert x message) line around = uses_of x ++ maybe_uses message
stmt_kind_uses (StmtKind-F.Del x i) line around = uses_of x ++ uses_of i
stmt_kind_uses (StmtKind-F.Assign targets is_tuple annotation x) line around = flat_map (target_uses line) targets ++ annotated line annotation ++ uses_of x
stmt_kind_uses (StmtKind-F.Augment t op x) line around = target_uses line t ++ uses_of x
stmt_kind_uses (StmtKind-F.Bare x) line around = uses_of x
stmt_kind_uses (StmtKind-F.If arms other) line around = flat_map (λ arm. uses_of arm.0 ++ block arm.1 around) arms ++ maybe_block other around
stmt_kind_uses (StmtKind-F.While x body) line around = uses_of x ++ block body (record around { loop = true })
stmt_kind_uses (StmtKind-F.For names is_tuple x body) line around = binds line names ++ uses_of x ++ block body (record around { loop = true })
stmt_kind_uses (StmtKind-F.Try body clauses other last) line around =
    block body around ++ block clauses around ++ maybe_block other around ++ maybe_block last (record around { clause = false })

abbrev pub catches : ℕ → Option (List (List ℕ)) → Uses
catches line None = []
catches line (Some names) = flat_map (λ name. at line (Catches name)) names

abbrev pub bound_as : ℕ → Option (List ℕ) → Uses
bound_as line None = []
bound_as line (Some name) = at line (Binds name)

abbrev pub clause_uses : Clause-F (ℕ → Within) Within Within → Within
clause_uses c around = catches c.line c.classes ++ bound_as c.line c.name ++ block c.body (record around { clause = true })

abbrev pub stmt_uses : Stmt-F (ℕ → Within) Within Within → Within
stmt_uses x around = x.kind x.line around

unfoldable pub uses_in : Stmt → Within
uses_in = fold-Stmt (ℕ → Within) Within Within stmt_kind_uses clause_uses stmt_uses

-- those of a clause, and of a statement without its number and line
unfoldable pub uses_in_clause : Clause → Within
uses_in_clause = fold-Clause (ℕ → Within) Within Within stmt_kind_uses clause_uses stmt_uses

unfoldable pub uses_in_kind : StmtKind → ℕ → Within
uses_in_kind = fold-StmtKind (ℕ → Within) Within Within stmt_kind_uses clause_uses stmt_uses

-- those of a body, or of statements outside of functions
abbrev pub uses_of_body : List Stmt → Uses
uses_of_body body = flat_map (λ stmt. uses_in stmt nothing) body
