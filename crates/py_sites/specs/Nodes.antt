-- The nodes of a module, in the order of reading (Language Reference, chapters 6 to 8): every function, statement, except clause and
-- expression of a function's body, a node before its parts. A target is no node, and its parts are. What stands outside of functions'
-- bodies is no node.
use Rattle.std.specs.Prelude.{◌≡◌, ◌<◌, ◌+◌, ℕ, length, List, [], ◌∷◌, ◌++◌, map, take, drop, nat_lt, nat_eq, Option, Some, None}
use Rattle.std.specs.List.{flat_map, prefix_len, find, range_with_len, AllByRecursion}
use Rattle.std.specs.Option.{option_to_list}
use Rattle.py_syntax.specs.declared.expr.Args.{Args, Args-F, out-Args, para-Args}
use Rattle.py_syntax.specs.declared.expr.Expr.{Expr, Expr-F, para-Expr}
use Rattle.py_syntax.specs.declared.expr.ExprKind.{ExprKind, ExprKind-F, out-ExprKind, para-ExprKind}
use Rattle.py_syntax.specs.declared.module.Class.{Class}
use Rattle.py_syntax.specs.declared.module.Func.{Func}
use Rattle.py_syntax.specs.declared.module.Item.{Item}
use Rattle.py_syntax.specs.declared.module.Item.TheVariants as item
use Rattle.py_syntax.specs.declared.module.Member.{Member}
use Rattle.py_syntax.specs.declared.module.Member.TheVariants as member
use Rattle.py_syntax.specs.declared.module.Module.{Module}
use Rattle.py_syntax.specs.declared.stmt.Clause.{Clause, Clause-F, out-Clause, para-Clause, roll-Clause}
use Rattle.py_syntax.specs.declared.stmt.Stmt.{Stmt, Stmt-F, para-Stmt}
use Rattle.py_syntax.specs.declared.stmt.StmtKind.{StmtKind, StmtKind-F, out-StmtKind, para-StmtKind}
use Rattle.py_syntax.specs.declared.stmt.Target.{Target}
use Rattle.py_syntax.specs.declared.stmt.Target.TheVariants as target

pub data Node : Type 0 where
  function : Func → Node
  statement : Stmt → Node
  clause : Clause → Node
  expression : Expr → Node

-- the number that a node has
abbrev pub number : Node → ℕ
number (function f) = f.node.0
number (statement s) = s.node.0
number (clause c) = (out-Clause c).node.0
number (expression e) = e.node.0

-- ---- the parts of a node, in the order of reading

-- The arguments of a call: their numbers tell in which order the plain and the named ones were written.
abbrev pub in_order : {E : Type 0} → (E → ℕ) → List E → List (List ℕ × E) → List E
in_order number [] named = map (λ n. n.1) named
in_order number (x ∷ xs) named =
    let before = prefix_len (λ n. nat_lt (number n.1) (number x)) named in
    map (λ n. n.1) (take before named) ++ x ∷ in_order number xs (drop before named)

-- the expressions that an expression is made of, where the arguments of a call are these
abbrev pub expr_parts : {K A E : Type 0} → (A → List E) → ExprKind-F K A E → List E
expr_parts args (ExprKind-F.ListLit xs) = xs
expr_parts args (ExprKind-F.TupleLit xs) = xs
expr_parts args (ExprKind-F.DictLit pairs) = flat_map (λ p. p.0 ∷ p.1 ∷ []) pairs
expr_parts args (ExprKind-F.Attr x name) = x ∷ []
expr_parts args (ExprKind-F.Index x i) = x ∷ i ∷ []
expr_parts args (ExprKind-F.Slice x a b) = x ∷ (option_to_list a ++ option_to_list b)
expr_parts args (ExprKind-F.Call x given) = x ∷ args given
expr_parts args (ExprKind-F.Method x name given) = x ∷ args given
expr_parts args (ExprKind-F.Super name given) = args given
expr_parts args (ExprKind-F.Unary sign x) = x ∷ []
expr_parts args (ExprKind-F.Not x) = x ∷ []
expr_parts args (ExprKind-F.Binary op a b) = a ∷ b ∷ []
expr_parts args (ExprKind-F.And xs) = xs
expr_parts args (ExprKind-F.Or xs) = xs
expr_parts args (ExprKind-F.Compare x pairs) = x ∷ map (λ p. p.1) pairs
expr_parts args (ExprKind-F.Cond a test b) = a ∷ test ∷ b ∷ []
expr_parts args _ = []

abbrev pub target_parts : {X : Type 0} → (Expr → X) → Target → List X
target_parts e (target.Name name) = []
target_parts e (target.Attr x name) = e x ∷ []
target_parts e (target.Index x i) = e x ∷ e i ∷ []

abbrev pub block_or_none : {X S : Type 0} → (S → X) → Option (List S) → List X
block_or_none s None = []
block_or_none s (Some body) = map s body

-- what a statement is made of: expressions, statements and clauses
abbrev pub stmt_parts : {K C S X : Type 0} → (Expr → X) → (S → X) → (C → X) → StmtKind-F K C S → List X
stmt_parts e s c StmtKind-F.Pass = []
stmt_parts e s c StmtKind-F.Break = []
stmt_parts e s c StmtKind-F.Continue = []
stmt_parts e s c (StmtKind-F.Return x) = map e (option_to_list x)
stmt_parts e s c (StmtKind-F.Raise x) = map e (option_to_list x)
stmt_parts e s c (StmtKind-F.Assert x message) = e x ∷ map e (option_to_list message)
stmt_parts e s c (StmtKind-F.Del x i) = e x ∷ e i ∷ []
stmt_parts e s c (StmtKind-F.Assign targets is_tuple annotation x) = flat_map (target_parts e) targets ++ e x ∷ []
stmt_parts e s c (StmtKind-F.Augment t op x) = target_parts e t ++ e x ∷ []
stmt_parts e s c (StmtKind-F.Bare x) = e x ∷ []
stmt_parts e s c (StmtKind-F.If arms other) = flat_map (λ arm. e arm.0 ∷ map s arm.1) arms ++ block_or_none s other
stmt_parts e s c (StmtKind-F.While x body) = e x ∷ map s body
stmt_parts e s c (StmtKind-F.For names is_tuple x body) = e x ∷ map s body
stmt_parts e s c (StmtKind-F.Try body clauses other last) = map s body ++ map c clauses ++ block_or_none s other ++ block_or_none s last

abbrev pub args_of : Args → List Expr
args_of given = in_order (λ x. x.node.0) (out-Args given).plain (out-Args given).named

abbrev pub parts : Node → List Node
parts (function f) = map statement f.body
parts (statement s) = stmt_parts expression statement clause (out-StmtKind s.kind)
parts (clause c) = map statement (out-Clause c).body
parts (expression e) = map expression (expr_parts args_of (out-ExprKind e.kind))

-- ---- a node and all that are in it, a node before its parts

abbrev pub Nodes : Type 0
Nodes = List Node

abbrev pub joined : List Nodes → Nodes
joined = flat_map (λ nodes. nodes)

-- the nodes in an expression, from those of its parts, each of which stands beside them
abbrev pub kind_nodes : ExprKind-F (ExprKind × Nodes) (Args × List (Expr × Nodes)) (Expr × Nodes) → Nodes
kind_nodes kind = flat_map (λ x. x.1) (expr_parts (λ given. given.1) kind)

abbrev pub args_nodes : Args-F (ExprKind × Nodes) (Args × List (Expr × Nodes)) (Expr × Nodes) → List (Expr × Nodes)
args_nodes given = in_order (λ x. x.0.node.0) given.plain given.named

abbrev pub one_expr : Expr-F (ExprKind × Nodes) (Args × List (Expr × Nodes)) (Expr × Nodes) → Nodes
one_expr x = expression (record { node = x.node; line = x.line; kind = x.kind.0 }) ∷ x.kind.1

unfoldable pub expr_nodes : Expr → Nodes
expr_nodes = para-Expr Nodes (List (Expr × Nodes)) Nodes kind_nodes args_nodes one_expr

-- the nodes in a statement
abbrev pub stmt_kind_nodes : StmtKind-F (StmtKind × Nodes) (Clause × Nodes) (Stmt × Nodes) → Nodes
stmt_kind_nodes kind = joined (stmt_parts expr_nodes (λ s. s.1) (λ c. c.1) kind)

abbrev pub one_clause : Clause-F (StmtKind × Nodes) (Clause × Nodes) (Stmt × Nodes) → Nodes
one_clause c = clause (roll-Clause record { node = c.node; line = c.line; classes = c.classes; name = c.name; body = map (λ s. s.0) c.body }) ∷ flat_map (λ s. s.1) c.body

abbrev pub one_stmt : Stmt-F (StmtKind × Nodes) (Clause × Nodes) (Stmt × Nodes) → Nodes
one_stmt s = statement (record { node = s.node; line = s.line; kind = s.kind.0 }) ∷ s.kind.1

unfoldable pub stmt_nodes : Stmt → Nodes
stmt_nodes = para-Stmt Nodes Nodes Nodes stmt_kind_nodes one_clause one_stmt

unfoldable pub clause_nodes : Clause → Nodes
clause_nodes = para-Clause Nodes Nodes Nodes stmt_kind_nodes one_clause one_stmt

abbrev pub nodes : Node → Nodes
nodes (function f) = function f ∷ flat_map stmt_nodes f.body
nodes (statement s) = stmt_nodes s
nodes (clause c) = clause_nodes c
nodes (expression e) = expr_nodes e

-- ---- modules

abbrev pub member_functions : Member → List Func
member_functions (member.Func f) = f ∷ []
member_functions (member.Other s) = []

abbrev pub item_functions : Item → List Func
item_functions (item.Func f) = f ∷ []
item_functions (item.Class c) = flat_map member_functions c.members
item_functions (item.Import line names) = []
item_functions (item.Other s) = []

-- the functions of a module, methods too
abbrev pub all_functions : Module → List Func
all_functions m = flat_map item_functions m.items

abbrev pub nodes_of : Module → Nodes
nodes_of m = flat_map nodes (map function (all_functions m))

-- the nodes of a function's body
abbrev pub sites : Func → Nodes
sites f = flat_map stmt_nodes f.body

-- ---- numbers in order

-- Each node has a number above those of all that are listed before it.
abbrev pub Ascend : Nodes → Type 0
Ascend [] = Unit {0}
Ascend (x ∷ xs) = AllByRecursion (λ y. number x < number y) xs × Ascend xs

-- the nodes have the numbers 0, 1, 2 and so on, and there are as many as the module says
abbrev pub IsNumbered : Module → Type 0
IsNumbered m = map number (nodes_of m) ≡ range_with_len 0 m.nodes

-- the nodes of a function's body have the numbers that follow the function's own
abbrev pub AreConsecutive : Func → Type 0
AreConsecutive f = map number (sites f) ≡ range_with_len (f.node.0 + 1) (length (sites f))

-- the first node that has a number
abbrev pub with_number : ℕ → Nodes → Option Node
with_number n xs = find (λ x. nat_eq (number x) n) xs
