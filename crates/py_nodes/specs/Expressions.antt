-- The numbers of an expression's nodes, from a number on, in the order of reading.
use Rattle.std.specs.Prelude.{ℕ, suc, Bool, if◌then◌else◌, nat_lt, List, [], ◌∷◌, ◌++◌, map, take, drop, Option, Some, None}
use Rattle.std.specs.List.{prefix_len}
use Rattle.std.specs.Option.{option_map}
use Rattle.py_syntax.specs.declared.expr.Args.{Args, Args-F, fold-Args}
use Rattle.py_syntax.specs.declared.expr.Expr.{Expr, Expr-F, fold-Expr}
use Rattle.py_syntax.specs.declared.expr.ExprKind.{ExprKind, ExprKind-F, fold-ExprKind}
use Rattle.py_syntax.specs.declared.expr.ExprKind.TheVariants as e
use Rattle.py_syntax.specs.declared.operator.CmpOp.{CmpOp}
use Rattle.py_language.specs.TreesNumbers.{Numbered, ◌>>=◌, plain, in_order, arguments, args}

-- A node that is counted takes the next number.
abbrev pub after : Bool → ℕ → ℕ
after counted n = if counted then suc n else n

-- what stands on a line, numbered
abbrev pub OnLine : Type 0 → Type 0
OnLine X = ℕ → Numbered X

-- an expression in an expression: the number that it has, and how it is numbered
pub record Part : Type 0 where
  pub had : ℕ
  pub on : OnLine Expr

abbrev pub on : ℕ → Part → Numbered Expr
on line x = x.on line

abbrev pub maybe : {X : Type 0} → Option (Numbered X) → Numbered (Option X)
maybe None = plain None
maybe (Some p) = do
  x ← p
  plain (Some x)

-- ---- the arguments of a call as they stand: their numbers tell in which order the plain and the named ones were written

abbrev pub Named : Type 0
Named = List ℕ × Part

abbrev pub before : Part → List Named → ℕ
before x named = prefix_len (λ n. nat_lt n.1.had x.had) named

abbrev pub with_name : ℕ → Named → Option (List ℕ) × Numbered Expr
with_name line n = (Some n.0, n.1.on line)

abbrev pub standing : ℕ → List Part → List Named → List (Option (List ℕ) × Numbered Expr)
standing line [] named = map (with_name line) named
standing line (x ∷ xs) named = map (with_name line) (take (before x named) named) ++ ((None, x.on line) ∷ standing line xs (drop (before x named) named))

abbrev pub args_by : Args-F (OnLine ExprKind) (OnLine Args) Part → OnLine Args
args_by given line = do
  all ← arguments (standing line given.plain given.named)
  plain (args all)

-- ---- the parts of a node

abbrev pub pair_on : ℕ → Part × Part → Numbered (Expr × Expr)
pair_on line p = do
  key ← p.0.on line
  value ← p.1.on line
  plain (key, value)

abbrev pub compared_on : ℕ → CmpOp × Part → Numbered (CmpOp × Expr)
compared_on line p = do
  operand ← p.1.on line
  plain (p.0, operand)

abbrev pub parts_by : ExprKind-F (OnLine ExprKind) (OnLine Args) Part → OnLine ExprKind
parts_by ExprKind-F.NoneLit line = plain e.NoneLit
parts_by (ExprKind-F.BoolLit b) line = plain (e.BoolLit b)
parts_by (ExprKind-F.IntLit n) line = plain (e.IntLit n)
parts_by (ExprKind-F.StrLit text) line = plain (e.StrLit text)
parts_by (ExprKind-F.Name name) line = plain (e.Name name)
parts_by (ExprKind-F.ListLit xs) line = do
  all ← in_order (map (on line) xs)
  plain (e.ListLit all)
parts_by (ExprKind-F.TupleLit xs) line = do
  all ← in_order (map (on line) xs)
  plain (e.TupleLit all)
parts_by (ExprKind-F.DictLit pairs) line = do
  all ← in_order (map (pair_on line) pairs)
  plain (e.DictLit all)
parts_by (ExprKind-F.Attr x name) line = do
  object ← x.on line
  plain (e.Attr object name)
parts_by (ExprKind-F.Index x i) line = do
  object ← x.on line
  index ← i.on line
  plain (e.Index object index)
parts_by (ExprKind-F.Slice x a b) line = do
  object ← x.on line
  low ← maybe (option_map (on line) a)
  high ← maybe (option_map (on line) b)
  plain (e.Slice object low high)
parts_by (ExprKind-F.Call x given) line = do
  callee ← x.on line
  all ← given line
  plain (e.Call callee all)
parts_by (ExprKind-F.Method x name given) line = do
  object ← x.on line
  all ← given line
  plain (e.Method object name all)
parts_by (ExprKind-F.Super name given) line = do
  all ← given line
  plain (e.Super name all)
parts_by (ExprKind-F.Unary sign x) line = do
  operand ← x.on line
  plain (e.Unary sign operand)
parts_by (ExprKind-F.Not x) line = do
  operand ← x.on line
  plain (e.Not operand)
parts_by (ExprKind-F.Binary op a b) line = do
  left ← a.on line
  right ← b.on line
  plain (e.Binary op left right)
parts_by (ExprKind-F.And xs) line = do
  all ← in_order (map (on line) xs)
  plain (e.And all)
parts_by (ExprKind-F.Or xs) line = do
  all ← in_order (map (on line) xs)
  plain (e.Or all)
parts_by (ExprKind-F.Compare x pairs) line = do
  first ← x.on line
  others ← in_order (map (compared_on line) pairs)
  plain (e.Compare first others)
parts_by (ExprKind-F.Cond a test b) line = do
  value ← a.on line
  condition ← test.on line
  other ← b.on line
  plain (e.Cond value condition other)

module _ (counted : Bool) where
  -- a node, then its parts
  abbrev pub node_by : Expr-F (OnLine ExprKind) (OnLine Args) Part → Part
  node_by x = record { had = x.node.0; on = λ line n. let r = x.kind line (after counted n) in (record { node = record { 0 = n }; line = line; kind = r.0 }, r.1) }

  unfoldable pub part_of : Expr → Part
  part_of = fold-Expr (OnLine ExprKind) (OnLine Args) Part parts_by args_by node_by

  unfoldable pub parts_of : ExprKind → OnLine ExprKind
  parts_of = fold-ExprKind (OnLine ExprKind) (OnLine Args) Part parts_by args_by node_by

  unfoldable pub args_of : Args → OnLine Args
  args_of = fold-Args (OnLine ExprKind) (OnLine Args) Part parts_by args_by node_by

  -- an expression on a line
  abbrev pub expr_on : ℕ → Expr → Numbered Expr
  expr_on line x = (part_of x).on line

  -- an expression, each part of which has the line of the whole
  abbrev pub expr : Expr → Numbered Expr
  expr x = expr_on x.line x
