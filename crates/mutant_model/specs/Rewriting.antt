-- A module with one node rewritten, before its nodes are numbered anew.
use Rattle.std.specs.Prelude.{ℕ, Bool, ◌==◌, if◌then◌else◌, List, [], ◌∷◌, map, Option, Some, None}
use Rattle.std.specs.Option.{option_map}
use Rattle.py_syntax.specs.declared.expr.Args.{Args, Args-F, fold-Args, roll-Args}
use Rattle.py_syntax.specs.declared.expr.Expr.{Expr, Expr-F, fold-Expr}
use Rattle.py_syntax.specs.declared.expr.ExprKind.{ExprKind, ExprKind-F, fold-ExprKind, out-ExprKind}
use Rattle.py_syntax.specs.declared.expr.ExprKind.TheVariants as e
use Rattle.py_syntax.specs.declared.module.Class.{Class}
use Rattle.py_syntax.specs.declared.module.Func.{Func}
use Rattle.py_syntax.specs.declared.module.Item.{Item}
use Rattle.py_syntax.specs.declared.module.Item.TheVariants as item
use Rattle.py_syntax.specs.declared.module.Member.{Member}
use Rattle.py_syntax.specs.declared.module.Member.TheVariants as member
use Rattle.py_syntax.specs.declared.module.Module.{Module}
use Rattle.py_syntax.specs.declared.patch.Patch.{Patch}
use Rattle.py_syntax.specs.declared.stmt.Clause.{Clause, Clause-F, fold-Clause, roll-Clause}
use Rattle.py_syntax.specs.declared.stmt.Stmt.{Stmt, Stmt-F, fold-Stmt}
use Rattle.py_syntax.specs.declared.stmt.StmtKind.{StmtKind, StmtKind-F, fold-StmtKind, out-StmtKind}
use Rattle.py_syntax.specs.declared.stmt.StmtKind.TheVariants as s
use Rattle.py_syntax.specs.declared.stmt.Target.{Target}
use Rattle.py_syntax.specs.declared.stmt.Target.TheVariants as target
use Rattle.mutant_model.specs.Rows.{changed_expr, changed_stmt, changed_body}

module _ (patch : Patch) where
  -- ---- expressions: each part as it is rewritten, and the node itself where it is the one

  abbrev pub kind_by : ExprKind-F ExprKind Args Expr → ExprKind
  kind_by ExprKind-F.NoneLit = e.NoneLit
  kind_by (ExprKind-F.BoolLit b) = e.BoolLit b
  kind_by (ExprKind-F.IntLit n) = e.IntLit n
  kind_by (ExprKind-F.StrLit text) = e.StrLit text
  kind_by (ExprKind-F.Name name) = e.Name name
  kind_by (ExprKind-F.ListLit xs) = e.ListLit xs
  kind_by (ExprKind-F.TupleLit xs) = e.TupleLit xs
  kind_by (ExprKind-F.DictLit pairs) = e.DictLit pairs
  kind_by (ExprKind-F.Attr x name) = e.Attr x name
  kind_by (ExprKind-F.Index x i) = e.Index x i
  kind_by (ExprKind-F.Slice x low high) = e.Slice x low high
  kind_by (ExprKind-F.Call x args) = e.Call x args
  kind_by (ExprKind-F.Method x name args) = e.Method x name args
  kind_by (ExprKind-F.Super name args) = e.Super name args
  kind_by (ExprKind-F.Unary sign x) = e.Unary sign x
  kind_by (ExprKind-F.Not x) = e.Not x
  kind_by (ExprKind-F.Binary op a b) = e.Binary op a b
  kind_by (ExprKind-F.And xs) = e.And xs
  kind_by (ExprKind-F.Or xs) = e.Or xs
  kind_by (ExprKind-F.Compare x pairs) = e.Compare x pairs
  kind_by (ExprKind-F.Cond a test b) = e.Cond a test b

  abbrev pub args_by : Args-F ExprKind Args Expr → Args
  args_by args = roll-Args record { plain = args.plain; named = args.named }

  abbrev pub expr_again : Expr-F ExprKind Args Expr → Expr
  expr_again x = record { node = x.node; line = x.line; kind = x.kind }

  abbrev pub expr_by : Expr-F ExprKind Args Expr → Expr
  expr_by x = if x.node.0 == patch.node.0 then changed_expr patch.change (out-ExprKind x.kind) (expr_again x) else expr_again x

  unfoldable pub rewritten_expr : Expr → Expr
  rewritten_expr = fold-Expr ExprKind Args Expr kind_by args_by expr_by

  unfoldable pub rewritten_kind : ExprKind → ExprKind
  rewritten_kind = fold-ExprKind ExprKind Args Expr kind_by args_by expr_by

  unfoldable pub rewritten_args : Args → Args
  rewritten_args = fold-Args ExprKind Args Expr kind_by args_by expr_by

  -- ---- statements

  abbrev pub target_by : Target → Target
  target_by (target.Name name) = target.Name name
  target_by (target.Attr x name) = target.Attr (rewritten_expr x) name
  target_by (target.Index x i) = target.Index (rewritten_expr x) (rewritten_expr i)

  abbrev pub stmt_kind_by : StmtKind-F StmtKind Clause Stmt → StmtKind
  stmt_kind_by StmtKind-F.Pass = s.Pass
  stmt_kind_by StmtKind-F.Break = s.Break
  stmt_kind_by StmtKind-F.Continue = s.Continue
  stmt_kind_by (StmtKind-F.Return x) = s.Return (option_map rewritten_expr x)
  stmt_kind_by (StmtKind-F.Raise x) = s.Raise (option_map rewritten_expr x)
  stmt_kind_by (StmtKind-F.Assert x message) = s.Assert (rewritten_expr x) (option_map rewritten_expr message)
  stmt_kind_by (StmtKind-F.Del x i) = s.Del (rewritten_expr x) (rewritten_expr i)
  stmt_kind_by (StmtKind-F.Assign targets is_tuple annotation x) = s.Assign (map target_by targets) is_tuple annotation (rewritten_expr x)
  stmt_kind_by (StmtKind-F.Augment target op x) = s.Augment (target_by target) op (rewritten_expr x)
  stmt_kind_by (StmtKind-F.Bare x) = s.Bare (rewritten_expr x)
  stmt_kind_by (StmtKind-F.If arms other) = s.If (map (λ arm. (rewritten_expr arm.0, arm.1)) arms) other
  stmt_kind_by (StmtKind-F.While x body) = s.While (rewritten_expr x) body
  stmt_kind_by (StmtKind-F.For names is_tuple x body) = s.For names is_tuple (rewritten_expr x) body
  stmt_kind_by (StmtKind-F.Try body clauses other last) = s.Try body clauses other last

  abbrev pub body_by : Clause-F StmtKind Clause Stmt → List Stmt
  body_by c = if c.node.0 == patch.node.0 then changed_body patch.change c.line c.body else c.body

  abbrev pub clause_by : Clause-F StmtKind Clause Stmt → Clause
  clause_by c = roll-Clause record { node = c.node; line = c.line; classes = c.classes; name = c.name; body = body_by c }

  abbrev pub stmt_by : Stmt-F StmtKind Clause Stmt → Stmt
  stmt_by x = record {
    node = x.node;
    line = x.line;
    kind = if x.node.0 == patch.node.0 then changed_stmt patch.change (out-StmtKind x.kind) x.kind else x.kind;
  }

  unfoldable pub rewritten_stmt : Stmt → Stmt
  rewritten_stmt = fold-Stmt StmtKind Clause Stmt stmt_kind_by clause_by stmt_by

  unfoldable pub rewritten_clause : Clause → Clause
  rewritten_clause = fold-Clause StmtKind Clause Stmt stmt_kind_by clause_by stmt_by

  unfoldable pub rewritten_stmt_kind : StmtKind → StmtKind
  rewritten_stmt_kind = fold-StmtKind StmtKind Clause Stmt stmt_kind_by clause_by stmt_by

  -- ---- modules: the bodies of functions alone

  abbrev pub rewritten_func : Func → Func
  rewritten_func f = record f { body = map rewritten_stmt f.body }

  abbrev pub rewritten_member : Member → Member
  rewritten_member (member.Func f) = member.Func (rewritten_func f)
  rewritten_member (member.Other x) = member.Other x

  abbrev pub rewritten_item : Item → Item
  rewritten_item (item.Func f) = item.Func (rewritten_func f)
  rewritten_item (item.Class c) = item.Class (record c { members = map rewritten_member c.members })
  rewritten_item (item.Import line names) = item.Import line names
  rewritten_item (item.Other x) = item.Other x

  abbrev pub rewritten_module : Module → Module
  rewritten_module m = record m { items = map rewritten_item m.items }
