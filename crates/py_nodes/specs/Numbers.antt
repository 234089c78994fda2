-- The numbers of a module's nodes: every function, statement, except clause and expression of a function's body is a node. They are
-- numbered from 0 in the order of reading, a node before its parts. A target is no node, and its parts are. What stands outside of
-- functions' bodies isn't counted, and has the number 0.
use Rattle.std.specs.Prelude.{suc, Bool, true, false, List, map, Option}
use Rattle.std.specs.Option.{option_map}
use Rattle.py_syntax.specs.declared.expr.Expr.{Expr}
use Rattle.py_syntax.specs.declared.module.Class.{Class}
use Rattle.py_syntax.specs.declared.module.Func.{Func}
use Rattle.py_syntax.specs.declared.module.Item.{Item}
use Rattle.py_syntax.specs.declared.module.Item.TheVariants as item
use Rattle.py_syntax.specs.declared.module.Member.{Member}
use Rattle.py_syntax.specs.declared.module.Member.TheVariants as member
use Rattle.py_syntax.specs.declared.module.Module.{Module}
use Rattle.py_syntax.specs.declared.module.Param.{Param}
use Rattle.py_syntax.specs.declared.stmt.Clause.{Clause, Clause-F, fold-Clause, roll-Clause}
use Rattle.py_syntax.specs.declared.stmt.Stmt.{Stmt, Stmt-F, fold-Stmt}
use Rattle.py_syntax.specs.declared.stmt.StmtKind.{StmtKind, StmtKind-F, fold-StmtKind}
use Rattle.py_syntax.specs.declared.stmt.StmtKind.TheVariants as s
use Rattle.py_syntax.specs.declared.stmt.Target.{Target}
use Rattle.py_syntax.specs.declared.stmt.Target.TheVariants as target
use Rattle.py_language.specs.TreesNumbers.{Numbered, ◌>>=◌, plain, in_order}
use Rattle.py_nodes.specs.Expressions.{after, maybe, expr}

abbrev pub Block : Type 0
Block = List (Numbered Stmt)

module _ (counted : Bool) where
  abbrev pub target_numbered : Target → Numbered Target
  target_numbered (target.Name name) = plain (target.Name name)
  target_numbered (target.Attr x name) = do
    object ← expr counted x
    plain (target.Attr object name)
  target_numbered (target.Index x i) = do
    object ← expr counted x
    index ← expr counted i
    plain (target.Index object index)

  abbrev pub maybe_expr : Option Expr → Numbered (Option Expr)
  maybe_expr x = maybe (option_map (expr counted) x)

  abbrev pub arm_by : Expr × Block → Numbered (Expr × List Stmt)
  arm_by arm = do
    test ← expr counted arm.0
    body ← in_order arm.1
    plain (test, body)

  abbrev pub maybe_block : Option Block → Numbered (Option (List Stmt))
  maybe_block body = maybe (option_map in_order body)

  abbrev pub kind_by : StmtKind-F (Numbered StmtKind) (Numbered Clause) (Numbered Stmt) → Numbered StmtKind
  kind_by StmtKind-F.Pass = plain s.Pass
  kind_by StmtKind-F.Break = plain s.Break
  kind_by StmtKind-F.Continue = plain s.Continue
  kind_by (StmtKind-F.Return x) = do
    value ← maybe_expr x
    plain (s.Return value)
  kind_by (StmtKind-F.Raise x) = do
    value ← maybe_expr x
    plain (s.Raise value)
  kind_by (StmtKind-F.Assert x m) = do
    test ← expr counted x
    message ← maybe_expr m
    plain (s.Assert test message)
  kind_by (StmtKind-F.Del x i) = do
    object ← expr counted x
    index ← expr counted i
    plain (s.Del object index)
  kind_by (StmtKind-F.Assign ts is_tuple annotation x) = do
    targets ← in_order (map target_numbered ts)
    value ← expr counted x
    plain (s.Assign targets is_tuple annotation value)
  kind_by (StmtKind-F.Augment t op x) = do
    target ← target_numbered t
    value ← expr counted x
    plain (s.Augment target op value)
  kind_by (StmtKind-F.Bare x) = do
    value ← expr counted x
    plain (s.Bare value)
  kind_by (StmtKind-F.If arms other) = do
    branches ← in_order (map arm_by arms)
    last ← maybe_block other
    plain (s.If branches last)
  kind_by (StmtKind-F.While x b) = do
    test ← expr counted x
    body ← in_order b
    plain (s.While test body)
  kind_by (StmtKind-F.For names is_tuple x b) = do
    walked ← expr counted x
    body ← in_order b
    plain (s.For names is_tuple walked body)
  kind_by (StmtKind-F.Try b cs o f) = do
    body ← in_order b
    clauses ← in_order cs
    other ← maybe_block o
    last ← maybe_block f
    plain (s.Try body clauses other last)

  abbrev pub clause_by : Clause-F (Numbered StmtKind) (Numbered Clause) (Numbered Stmt) → Numbered Clause
  clause_by c = λ n. let r = in_order c.body (after counted n) in (roll-Clause record { node = record { 0 = n }; line = c.line; classes = c.classes; name = c.name; body = r.0 }, r.1)

  abbrev pub stmt_by : Stmt-F (Numbered StmtKind) (Numbered Clause) (Numbered Stmt) → Numbered Stmt
  stmt_by x = λ n. let r = x.kind (after counted n) in (record { node = record { 0 = n }; line = x.line; kind = r.0 }, r.1)

  unfoldable pub stmt : Stmt → Numbered Stmt
  stmt = fold-Stmt (Numbered StmtKind) (Numbered Clause) (Numbered Stmt) kind_by clause_by stmt_by

  unfoldable pub clause : Clause → Numbered Clause
  clause = fold-Clause (Numbered StmtKind) (Numbered Clause) (Numbered Stmt) kind_by clause_by stmt_by

  unfoldable pub kind : StmtKind → Numbered StmtKind
  kind = fold-StmtKind (Numbered StmtKind) (Numbered Clause) (Numbered Stmt) kind_by clause_by stmt_by

-- ---- modules

abbrev pub uncounted_stmt : Stmt → Stmt
uncounted_stmt x = (stmt false x 0).0

abbrev pub uncounted_expr : Expr → Expr
uncounted_expr x = (expr false x 0).0

abbrev pub param : Param → Param
param p = record p { default = option_map uncounted_expr p.default }

-- a function, then its body
abbrev pub func : Func → Numbered Func
func f = λ n. let r = in_order (map (stmt true) f.body) (suc n) in (record f { node = record { 0 = n }; params = map param f.params; body = r.0 }, r.1)

abbrev pub member_numbered : Member → Numbered Member
member_numbered (member.Func f) = do
  made ← func f
  plain (member.Func made)
member_numbered (member.Other x) = plain (member.Other (uncounted_stmt x))

abbrev pub class : Class → Numbered Class
class c = do
  members ← in_order (map member_numbered c.members)
  plain (record c { members = members })

abbrev pub item_numbered : Item → Numbered Item
item_numbered (item.Func f) = do
  made ← func f
  plain (item.Func made)
item_numbered (item.Class c) = do
  made ← class c
  plain (item.Class made)
item_numbered (item.Import line names) = plain (item.Import line names)
item_numbered (item.Other x) = plain (item.Other (uncounted_stmt x))

-- the module with its nodes numbered, and with their number
abbrev pub numbered : Module → Module
numbered m = let r = in_order (map item_numbered m.items) 0 in record { items = r.0; future = m.future; nodes = r.1 }
