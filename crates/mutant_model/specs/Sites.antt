-- Where rows apply: at the nodes of a function's body, in the order of reading, a node before its parts.
use Rattle.std.specs.Prelude.{ℕ, Bool, true, false, if◌then◌else◌, List, [], ◌∷◌, ◌++◌, map, Option, Some, None}
use Rattle.std.specs.List.{flat_map}
use Rattle.pyn_base.specs.declared.ids.NodeId.{NodeId}
use Rattle.py_syntax.specs.declared.expr.Args.{Args, Args-F, fold-Args}
use Rattle.py_syntax.specs.declared.expr.Expr.{Expr, Expr-F, fold-Expr}
use Rattle.py_syntax.specs.declared.expr.ExprKind.{ExprKind, ExprKind-F, fold-ExprKind, out-ExprKind}
use Rattle.py_syntax.specs.declared.module.Func.{Func}
use Rattle.py_syntax.specs.declared.operator.CmpOp.{CmpOp}
use Rattle.py_syntax.specs.declared.patch.Change.{Change}
use Rattle.py_syntax.specs.declared.stmt.Clause.{Clause, Clause-F, fold-Clause}
use Rattle.py_syntax.specs.declared.stmt.Stmt.{Stmt, Stmt-F, fold-Stmt}
use Rattle.py_syntax.specs.declared.stmt.StmtKind.{StmtKind, StmtKind-F, fold-StmtKind}
use Rattle.py_syntax.specs.declared.stmt.Target.{Target}
use Rattle.py_syntax.specs.declared.stmt.Target.TheVariants as target
use Rattle.mutant_model.specs.declared.mutant.Mutant.{Mutant}
use Rattle.mutant_model.specs.Rows.{operator_of, expr_changes, stmt_changes, clause_changes}

abbrev pub Sites : Type 0
Sites = List Mutant

abbrev pub mutant : NodeId → ℕ → Change → Mutant
mutant node line change = record { op = operator_of change; node = node; line = line; patch = record { node = node; change = change } }

abbrev pub at_node : NodeId → ℕ → List Change → Sites
at_node node line changes = map (mutant node line) changes

-- ---- expressions

-- what applies to a node of a kind, where it is a test or not, and in it
abbrev pub OfKind : Type 0
OfKind = NodeId → ℕ → Bool → Sites

-- what applies to an expression, where it is a test or not
abbrev pub Tested : Type 0
Tested = Bool → Sites

abbrev pub part : Tested → Sites
part x = x false

abbrev pub maybe_part : Option Tested → Sites
maybe_part None = []
maybe_part (Some x) = part x

abbrev pub parts_in : ExprKind-F OfKind Sites Tested → Sites
parts_in (ExprKind-F.ListLit xs) = flat_map part xs
parts_in (ExprKind-F.TupleLit xs) = flat_map part xs
parts_in (ExprKind-F.DictLit pairs) = flat_map (λ pair. part pair.0 ++ part pair.1) pairs
parts_in (ExprKind-F.Attr x name) = part x
parts_in (ExprKind-F.Index x i) = part x ++ part i
parts_in (ExprKind-F.Slice x low high) = part x ++ maybe_part low ++ maybe_part high
parts_in (ExprKind-F.Call x args) = part x ++ args
parts_in (ExprKind-F.Method x name args) = part x ++ args
parts_in (ExprKind-F.Super name args) = args
parts_in (ExprKind-F.Unary sign x) = part x
parts_in (ExprKind-F.Not x) = part x
parts_in (ExprKind-F.Binary op a b) = part a ++ part b
parts_in (ExprKind-F.And xs) = flat_map part xs
parts_in (ExprKind-F.Or xs) = flat_map part xs
parts_in (ExprKind-F.Compare x pairs) = part x ++ flat_map (λ pair. part pair.1) pairs
parts_in (ExprKind-F.Cond a test b) = part a ++ part test ++ part b
parts_in _ = []

abbrev pub kind_sites : ExprKind-F OfKind Sites Tested → OfKind
kind_sites kind node line is_test = at_node node line (expr_changes is_test kind) ++ parts_in kind

-- a call's plain arguments come first
abbrev pub args_sites : Args-F OfKind Sites Tested → Sites
args_sites args = flat_map part args.plain ++ flat_map (λ row. part row.1) args.named

abbrev pub expr_sites : Expr-F OfKind Sites Tested → Tested
expr_sites x is_test = x.kind x.node x.line is_test

unfoldable pub sites_of_expr : Expr → Tested
sites_of_expr = fold-Expr OfKind Sites Tested kind_sites args_sites expr_sites

unfoldable pub sites_of_kind : ExprKind → OfKind
sites_of_kind = fold-ExprKind OfKind Sites Tested kind_sites args_sites expr_sites

unfoldable pub sites_of_args : Args → Sites
sites_of_args = fold-Args OfKind Sites Tested kind_sites args_sites expr_sites

abbrev pub value : Expr → Sites
value x = sites_of_expr x false

abbrev pub test : Expr → Sites
test x = sites_of_expr x true

abbrev pub maybe_value : Option Expr → Sites
maybe_value None = []
maybe_value (Some x) = value x

-- ---- statements

-- a statement that is one word, which a clause's body may be alone
pub data Word : Type 0 where
  RaiseAlone : Word
  PassAlone : Word
  Other : Word

-- what a statement is without its number and line, and what applies to it and in it
pub record OfStmt : Type 0 where
  pub word : Word
  pub at : NodeId → ℕ → Sites

pub record Part : Type 0 where
  pub word : Word
  pub sites : Sites

abbrev pub block : List Part → Sites
block parts = flat_map (λ part. part.sites) parts

abbrev pub maybe_block : Option (List Part) → Sites
maybe_block None = []
maybe_block (Some parts) = block parts

abbrev pub target_sites : Target → Sites
target_sites (target.Name name) = []
target_sites (target.Attr x name) = value x
target_sites (target.Index x i) = value x ++ value i

-- A string that is a statement isn't rewritten: it says what a function does.
abbrev pub statement_alone : ExprKind-F ExprKind Args Expr → Expr → Sites
statement_alone (ExprKind-F.StrLit text) x = []
statement_alone _ x = value x

abbrev pub inside_by : StmtKind-F OfStmt Sites Part → Sites
inside_by (StmtKind-F.Return x) = maybe_value x
inside_by (StmtKind-F.Raise x) = maybe_value x
inside_by (StmtKind-F.Assert x message) = value x ++ maybe_value message
inside_by (StmtKind-F.Del x i) = value x ++ value i
inside_by (StmtKind-F.Assign targets is_tuple annotation x) = flat_map target_sites targets ++ value x
inside_by (StmtKind-F.Augment target op x) = target_sites target ++ value x
inside_by (StmtKind-F.Bare x) = statement_alone (out-ExprKind x.kind) x
inside_by (StmtKind-F.If arms other) = flat_map (λ arm. test arm.0 ++ block arm.1) arms ++ maybe_block other
inside_by (StmtKind-F.While x body) = test x ++ block body
inside_by (StmtKind-F.For names is_tuple x body) = value x ++ block body
inside_by (StmtKind-F.Try body clauses other last) = block body ++ flat_map (λ clause. clause) clauses ++ maybe_block other ++ maybe_block last
inside_by _ = []

abbrev pub word_by : StmtKind-F OfStmt Sites Part → Word
word_by (StmtKind-F.Raise None) = RaiseAlone
word_by StmtKind-F.Pass = PassAlone
word_by _ = Other

abbrev pub of_stmt : StmtKind-F OfStmt Sites Part → OfStmt
of_stmt kind = record { word = word_by kind; at = λ node line. at_node node line (stmt_changes kind) ++ inside_by kind }

abbrev pub is_raise : Word → Bool
is_raise RaiseAlone = true
is_raise _ = false

abbrev pub is_pass : Word → Bool
is_pass PassAlone = true
is_pass _ = false

-- the word that a block is
abbrev pub word_of_block : List Part → Word
word_of_block (part ∷ []) = part.word
word_of_block _ = Other

abbrev pub clause_sites : Clause-F OfStmt Sites Part → Sites
clause_sites c = at_node c.node c.line (clause_changes (is_raise (word_of_block c.body)) (is_pass (word_of_block c.body))) ++ block c.body

abbrev pub stmt_sites : Stmt-F OfStmt Sites Part → Part
stmt_sites x = record { word = x.kind.word; sites = x.kind.at x.node x.line }

unfoldable pub word_of_stmt : Stmt → Word
word_of_stmt stmt = (fold-Stmt OfStmt Sites Part of_stmt clause_sites stmt_sites stmt).word

unfoldable pub sites_of_stmt : Stmt → Sites
sites_of_stmt stmt = (fold-Stmt OfStmt Sites Part of_stmt clause_sites stmt_sites stmt).sites

unfoldable pub sites_of_clause : Clause → Sites
sites_of_clause = fold-Clause OfStmt Sites Part of_stmt clause_sites stmt_sites

-- those of a statement without its number and line
unfoldable pub word_in : StmtKind → Word
word_in kind = (fold-StmtKind OfStmt Sites Part of_stmt clause_sites stmt_sites kind).word

unfoldable pub sites_at : StmtKind → NodeId → ℕ → Sites
sites_at kind = (fold-StmtKind OfStmt Sites Part of_stmt clause_sites stmt_sites kind).at

abbrev pub sites_in : Func → Sites
sites_in f = flat_map sites_of_stmt f.body
