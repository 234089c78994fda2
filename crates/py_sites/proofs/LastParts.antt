-- The last part of a node, by what its parts are held in.
use Rattle.std.proofs.Common.{◌≡◌, ◌∙◌, refl, sym, ap, ap₂, ℕ, Bool, List, Option, Some, None, [], ◌∷◌, ◌++◌, map}
use Rattle.std.specs.List.{flat_map}
use Rattle.std.proofs.lemmas.List.{map-append}
use Rattle.std.proofs.lemmas.List.Concat.{flat_map_single}
use Rattle.pyn_base.specs.declared.int.PyInt.{PyInt}
use Rattle.py_syntax.specs.declared.expr.Args.{Args}
use Rattle.py_syntax.specs.declared.expr.Expr.{Expr}
use Rattle.py_syntax.specs.declared.expr.ExprKind.{ExprKind, ExprKind-F, out-ExprKind}
use Rattle.py_syntax.specs.declared.expr.ExprKind.TheVariants as e
use Rattle.py_syntax.specs.declared.expr.ExprKind.TheVariants.{outs-NoneLit, outs-BoolLit, outs-IntLit, outs-StrLit, outs-Name, outs-ListLit, outs-TupleLit, outs-DictLit, outs-Attr, outs-Index, outs-Slice, outs-Call, outs-Method, outs-Super, outs-Unary, outs-Not, outs-Binary, outs-And, outs-Or, outs-Compare, outs-Cond}
use Rattle.py_syntax.specs.declared.module.Func.{Func}
use Rattle.py_syntax.specs.declared.operator.BinOp.{BinOp}
use Rattle.py_syntax.specs.declared.operator.CmpOp.{CmpOp}
use Rattle.py_syntax.specs.declared.operator.Sign.{Sign}
use Rattle.py_syntax.specs.declared.stmt.Annotation.{Annotation}
use Rattle.py_syntax.specs.declared.stmt.Clause.{Clause, out-Clause}
use Rattle.py_syntax.specs.declared.stmt.Stmt.{Stmt}
use Rattle.py_syntax.specs.declared.stmt.StmtKind.{StmtKind, StmtKind-F, out-StmtKind}
use Rattle.py_syntax.specs.declared.stmt.StmtKind.TheVariants as s
use Rattle.py_syntax.specs.declared.stmt.StmtKind.TheVariants.{outs-Pass, outs-Break, outs-Continue, outs-Return, outs-Raise, outs-Assert, outs-Del, outs-Assign, outs-Augment, outs-Bare, outs-If, outs-While, outs-For, outs-Try}
use Rattle.py_syntax.specs.declared.stmt.Target.{Target}
use Rattle.py_sites.specs.Nodes.{Node, Nodes, number, parts, expr_parts, stmt_parts, target_parts, args_of, function, statement, clause, expression}
use Rattle.py_sites.specs.Walks.{last_from, nearer, expr_part, stmt_part, node_part, of_option}
use Rattle.py_sites.proofs.Lists.{last_append}

module _ (limit : Option ℕ) where
  abbrev last_in : ExprKind-F ExprKind Args Expr → Option Node
  last_in k = last_from limit None (map expression (expr_parts args_of k))

  is_last_in : (k : ExprKind) (f : ExprKind-F ExprKind Args Expr) → out-ExprKind k ≡ f → expr_part limit k ≡ last_in f
  unfolding expr_part
  is_last_in k f is = ap last_in is

  list_is : (xs : List Expr) → last_from limit None (map expression xs) ≡ last_from limit None (flat_map (λ x. expression x ∷ []) xs)
  list_is xs = ap (last_from limit None) (sym (flat_map_single expression xs))

  pairs_are : (pairs : List (Expr × Expr)) → map expression (flat_map (λ p. p.0 ∷ p.1 ∷ []) pairs) ≡ flat_map (λ p. expression p.0 ∷ expression p.1 ∷ []) pairs
  pairs_are [] = refl
  pairs_are (p ∷ pairs) = ap (λ ys. expression p.0 ∷ expression p.1 ∷ ys) (pairs_are pairs)

  operands_are : (pairs : List (CmpOp × Expr)) → map expression (map (λ p. p.1) pairs) ≡ flat_map (λ p. expression p.1 ∷ []) pairs
  operands_are [] = refl
  operands_are (p ∷ pairs) = ap (λ ys. expression p.1 ∷ ys) (operands_are pairs)

  pub expr-NoneLit : expr_part limit e.NoneLit ≡ None
  expr-NoneLit = is_last_in e.NoneLit ExprKind-F.NoneLit outs-NoneLit

  pub expr-BoolLit : (b : Bool) → expr_part limit (e.BoolLit b) ≡ None
  expr-BoolLit b = is_last_in (e.BoolLit b) (ExprKind-F.BoolLit b) (outs-BoolLit b)

  pub expr-IntLit : (n : PyInt) → expr_part limit (e.IntLit n) ≡ None
  expr-IntLit n = is_last_in (e.IntLit n) (ExprKind-F.IntLit n) (outs-IntLit n)

  pub expr-StrLit : (text : List ℕ) → expr_part limit (e.StrLit text) ≡ None
  expr-StrLit text = is_last_in (e.StrLit text) (ExprKind-F.StrLit text) (outs-StrLit text)

  pub expr-Name : (name : List ℕ) → expr_part limit (e.Name name) ≡ None
  expr-Name name = is_last_in (e.Name name) (ExprKind-F.Name name) (outs-Name name)

  pub expr-ListLit : (xs : List Expr) → expr_part limit (e.ListLit xs) ≡ last_from limit None (flat_map (λ x. expression x ∷ []) xs)
  expr-ListLit xs = is_last_in (e.ListLit xs) (ExprKind-F.ListLit xs) (outs-ListLit xs) ∙ list_is xs

  pub expr-TupleLit : (xs : List Expr) → expr_part limit (e.TupleLit xs) ≡ last_from limit None (flat_map (λ x. expression x ∷ []) xs)
  expr-TupleLit xs = is_last_in (e.TupleLit xs) (ExprKind-F.TupleLit xs) (outs-TupleLit xs) ∙ list_is xs

  pub expr-And : (xs : List Expr) → expr_part limit (e.And xs) ≡ last_from limit None (flat_map (λ x. expression x ∷ []) xs)
  expr-And xs = is_last_in (e.And xs) (ExprKind-F.And xs) (outs-And xs) ∙ list_is xs

  pub expr-Or : (xs : List Expr) → expr_part limit (e.Or xs) ≡ last_from limit None (flat_map (λ x. expression x ∷ []) xs)
  expr-Or xs = is_last_in (e.Or xs) (ExprKind-F.Or xs) (outs-Or xs) ∙ list_is xs

  pub expr-DictLit : (pairs : List (Expr × Expr)) → expr_part limit (e.DictLit pairs) ≡ last_from limit None (flat_map (λ p. expression p.0 ∷ expression p.1 ∷ []) pairs)
  expr-DictLit pairs = is_last_in (e.DictLit pairs) (ExprKind-F.DictLit pairs) (outs-DictLit pairs) ∙ ap (last_from limit None) (pairs_are pairs)

  pub expr-Attr : (x : Expr) (name : List ℕ) → expr_part limit (e.Attr x name) ≡ nearer limit None (expression x)
  expr-Attr x name = is_last_in (e.Attr x name) (ExprKind-F.Attr x name) (outs-Attr x name)

  pub expr-Index : (x i : Expr) → expr_part limit (e.Index x i) ≡ nearer limit (nearer limit None (expression x)) (expression i)
  expr-Index x i = is_last_in (e.Index x i) (ExprKind-F.Index x i) (outs-Index x i)

  pub expr-Slice : (x : Expr) (a b : Option Expr) → expr_part limit (e.Slice x a b) ≡ last_from limit (last_from limit (nearer limit None (expression x)) (of_option (λ x. expression x ∷ []) a)) (of_option (λ x. expression x ∷ []) b)
  expr-Slice x None None = is_last_in (e.Slice x None None) (ExprKind-F.Slice x None None) (outs-Slice x None None)
  expr-Slice x None (Some b) = is_last_in (e.Slice x None (Some b)) (ExprKind-F.Slice x None (Some b)) (outs-Slice x None (Some b))
  expr-Slice x (Some a) None = is_last_in (e.Slice x (Some a) None) (ExprKind-F.Slice x (Some a) None) (outs-Slice x (Some a) None)
  expr-Slice x (Some a) (Some b) = is_last_in (e.Slice x (Some a) (Some b)) (ExprKind-F.Slice x (Some a) (Some b)) (outs-Slice x (Some a) (Some b))

  pub expr-Call : (x : Expr) (given : Args) → expr_part limit (e.Call x given) ≡ last_from limit (nearer limit None (expression x)) (map expression (args_of given))
  expr-Call x given = is_last_in (e.Call x given) (ExprKind-F.Call x given) (outs-Call x given)

  pub expr-Method : (x : Expr) (name : List ℕ) (given : Args) → expr_part limit (e.Method x name given) ≡ last_from limit (nearer limit None (expression x)) (map expression (args_of given))
  expr-Method x name given = is_last_in (e.Method x name given) (ExprKind-F.Method x name given) (outs-Method x name given)

  pub expr-Super : (name : List ℕ) (given : Args) → expr_part limit (e.Super name given) ≡ last_from limit None (map expression (args_of given))
  expr-Super name given = is_last_in (e.Super name given) (ExprKind-F.Super name given) (outs-Super name given)

  pub expr-Unary : (sign : Sign) (x : Expr) → expr_part limit (e.Unary sign x) ≡ nearer limit None (expression x)
  expr-Unary sign x = is_last_in (e.Unary sign x) (ExprKind-F.Unary sign x) (outs-Unary sign x)

  pub expr-Not : (x : Expr) → expr_part limit (e.Not x) ≡ nearer limit None (expression x)
  expr-Not x = is_last_in (e.Not x) (ExprKind-F.Not x) (outs-Not x)

  pub expr-Binary : (op : BinOp) (a b : Expr) → expr_part limit (e.Binary op a b) ≡ nearer limit (nearer limit None (expression a)) (expression b)
  expr-Binary op a b = is_last_in (e.Binary op a b) (ExprKind-F.Binary op a b) (outs-Binary op a b)

  pub expr-Compare : (x : Expr) (pairs : List (CmpOp × Expr)) → expr_part limit (e.Compare x pairs) ≡ last_from limit (nearer limit None (expression x)) (flat_map (λ p. expression p.1 ∷ []) pairs)
  expr-Compare x pairs = is_last_in (e.Compare x pairs) (ExprKind-F.Compare x pairs) (outs-Compare x pairs) ∙ ap (last_from limit (nearer limit None (expression x))) (operands_are pairs)

  pub expr-Cond : (a test b : Expr) → expr_part limit (e.Cond a test b) ≡ nearer limit (nearer limit (nearer limit None (expression a)) (expression test)) (expression b)
  expr-Cond a test b = is_last_in (e.Cond a test b) (ExprKind-F.Cond a test b) (outs-Cond a test b)

  -- ---- statements

  abbrev last_of : StmtKind-F StmtKind Clause Stmt → Option Node
  last_of k = last_from limit None (stmt_parts expression statement clause k)

  is_last_of : (k : StmtKind) (f : StmtKind-F StmtKind Clause Stmt) → out-StmtKind k ≡ f → stmt_part limit k ≡ last_of f
  unfolding stmt_part
  is_last_of k f is = ap last_of is

  abbrev block : List Stmt → Nodes
  block = flat_map (λ s. statement s ∷ [])

  block_is : (best : Option Node) (body : List Stmt) → last_from limit best (map statement body) ≡ last_from limit best (block body)
  block_is best body = ap (last_from limit best) (sym (flat_map_single statement body))

  then_block : (best : Option Node) (front : Nodes) (body : List Stmt) → last_from limit best (front ++ map statement body) ≡ last_from limit (last_from limit best front) (block body)
  then_block best front body = last_append limit best front (map statement body) ∙ block_is (last_from limit best front) body

  pub stmt-Pass : stmt_part limit s.Pass ≡ None
  stmt-Pass = is_last_of s.Pass StmtKind-F.Pass outs-Pass

  pub stmt-Break : stmt_part limit s.Break ≡ None
  stmt-Break = is_last_of s.Break StmtKind-F.Break outs-Break

  pub stmt-Continue : stmt_part limit s.Continue ≡ None
  stmt-Continue = is_last_of s.Continue StmtKind-F.Continue outs-Continue

  pub stmt-Return : (x : Option Expr) → stmt_part limit (s.Return x) ≡ last_from limit None (of_option (λ x. expression x ∷ []) x)
  stmt-Return None = is_last_of (s.Return None) (StmtKind-F.Return None) (outs-Return None)
  stmt-Return (Some x) = is_last_of (s.Return (Some x)) (StmtKind-F.Return (Some x)) (outs-Return (Some x))

  pub stmt-Raise : (x : Option Expr) → stmt_part limit (s.Raise x) ≡ last_from limit None (of_option (λ x. expression x ∷ []) x)
  stmt-Raise None = is_last_of (s.Raise None) (StmtKind-F.Raise None) (outs-Raise None)
  stmt-Raise (Some x) = is_last_of (s.Raise (Some x)) (StmtKind-F.Raise (Some x)) (outs-Raise (Some x))

  pub stmt-Assert : (x : Expr) (m : Option Expr) → stmt_part limit (s.Assert x m) ≡ last_from limit (nearer limit None (expression x)) (of_option (λ x. expression x ∷ []) m)
  stmt-Assert x None = is_last_of (s.Assert x None) (StmtKind-F.Assert x None) (outs-Assert x None)
  stmt-Assert x (Some m) = is_last_of (s.Assert x (Some m)) (StmtKind-F.Assert x (Some m)) (outs-Assert x (Some m))

  pub stmt-Del : (x i : Expr) → stmt_part limit (s.Del x i) ≡ nearer limit (nearer limit None (expression x)) (expression i)
  stmt-Del x i = is_last_of (s.Del x i) (StmtKind-F.Del x i) (outs-Del x i)

  pub stmt-Assign : (ts : List Target) (is_tuple : Bool) (annotation : Option Annotation) (x : Expr) → stmt_part limit (s.Assign ts is_tuple annotation x) ≡ nearer limit (last_from limit None (flat_map (target_parts expression) ts)) (expression x)
  stmt-Assign ts is_tuple annotation x = is_last_of (s.Assign ts is_tuple annotation x) (StmtKind-F.Assign ts is_tuple annotation x) (outs-Assign ts is_tuple annotation x) ∙ last_append limit None (flat_map (target_parts expression) ts) (expression x ∷ [])

  pub stmt-Augment : (t : Target) (op : BinOp) (x : Expr) → stmt_part limit (s.Augment t op x) ≡ nearer limit (last_from limit None (target_parts expression t)) (expression x)
  stmt-Augment t op x = is_last_of (s.Augment t op x) (StmtKind-F.Augment t op x) (outs-Augment t op x) ∙ last_append limit None (target_parts expression t) (expression x ∷ [])

  pub stmt-Bare : (x : Expr) → stmt_part limit (s.Bare x) ≡ nearer limit None (expression x)
  stmt-Bare x = is_last_of (s.Bare x) (StmtKind-F.Bare x) (outs-Bare x)

  abbrev arms_nodes : List (Expr × List Stmt) → Nodes
  arms_nodes = flat_map (λ arm. expression arm.0 ∷ map statement arm.1)

  pub stmt-If : (arms : List (Expr × List Stmt)) (other : Option (List Stmt)) → stmt_part limit (s.If arms other) ≡ last_from limit (last_from limit None (flat_map (λ arm. expression arm.0 ∷ map statement arm.1) arms)) (of_option (flat_map (λ s. statement s ∷ [])) other)
  stmt-If arms None = is_last_of (s.If arms None) (StmtKind-F.If arms None) (outs-If arms None) ∙ last_append limit None (arms_nodes arms) []
  stmt-If arms (Some body) = is_last_of (s.If arms (Some body)) (StmtKind-F.If arms (Some body)) (outs-If arms (Some body)) ∙ then_block None (arms_nodes arms) body

  pub stmt-While : (x : Expr) (body : List Stmt) → stmt_part limit (s.While x body) ≡ last_from limit (nearer limit None (expression x)) (flat_map (λ s. statement s ∷ []) body)
  stmt-While x body = is_last_of (s.While x body) (StmtKind-F.While x body) (outs-While x body) ∙ block_is (nearer limit None (expression x)) body

  pub stmt-For : (names : List (List ℕ)) (is_tuple : Bool) (x : Expr) (body : List Stmt) → stmt_part limit (s.For names is_tuple x body) ≡ last_from limit (nearer limit None (expression x)) (flat_map (λ s. statement s ∷ []) body)
  stmt-For names is_tuple x body = is_last_of (s.For names is_tuple x body) (StmtKind-F.For names is_tuple x body) (outs-For names is_tuple x body) ∙ block_is (nearer limit None (expression x)) body

  abbrev try_front : List Stmt → List Clause → Nodes
  try_front body clauses = map statement body ++ map clause clauses

  try_front_is : (body : List Stmt) (clauses : List Clause) → last_from limit None (try_front body clauses) ≡ last_from limit (last_from limit None (block body)) (flat_map (λ c. clause c ∷ []) clauses)
  try_front_is body clauses =
      last_append limit None (map statement body) (map clause clauses)
      ∙ ap₂ (last_from limit) (block_is None body) (sym (flat_map_single clause clauses))

  abbrev other_is : Option (List Stmt) → Nodes
  other_is = of_option (flat_map (λ s. statement s ∷ []))

  pub stmt-Try : (body : List Stmt) (clauses : List Clause) (other last : Option (List Stmt)) → stmt_part limit (s.Try body clauses other last)
      ≡ last_from limit (last_from limit (last_from limit (last_from limit None (flat_map (λ s. statement s ∷ []) body)) (flat_map (λ c. clause c ∷ []) clauses)) (of_option (flat_map (λ s. statement s ∷ [])) other)) (of_option (flat_map (λ s. statement s ∷ [])) last)
  stmt-Try body clauses None None =
      is_last_of (s.Try body clauses None None) (StmtKind-F.Try body clauses None None) (outs-Try body clauses None None)
      ∙ last_append limit None (try_front body clauses ++ []) [] ∙ last_append limit None (try_front body clauses) [] ∙ try_front_is body clauses
  stmt-Try body clauses None (Some last) =
      is_last_of (s.Try body clauses None (Some last)) (StmtKind-F.Try body clauses None (Some last)) (outs-Try body clauses None (Some last))
      ∙ then_block None (try_front body clauses ++ []) last ∙ ap (λ b. last_from limit b (block last)) (last_append limit None (try_front body clauses) [] ∙ try_front_is body clauses)
  stmt-Try body clauses (Some other) None =
      is_last_of (s.Try body clauses (Some other) None) (StmtKind-F.Try body clauses (Some other) None) (outs-Try body clauses (Some other) None)
      ∙ last_append limit None (try_front body clauses ++ map statement other) [] ∙ then_block None (try_front body clauses) other ∙ ap (λ b. last_from limit b (block other)) (try_front_is body clauses)
  stmt-Try body clauses (Some other) (Some last) =
      is_last_of (s.Try body clauses (Some other) (Some last)) (StmtKind-F.Try body clauses (Some other) (Some last)) (outs-Try body clauses (Some other) (Some last))
      ∙ then_block None (try_front body clauses ++ map statement other) last
      ∙ ap (λ b. last_from limit b (block last)) (then_block None (try_front body clauses) other ∙ ap (λ b. last_from limit b (block other)) (try_front_is body clauses))

  -- ---- nodes

  pub node-function : (f : Func) → node_part limit (function f) ≡ last_from limit None (flat_map (λ s. statement s ∷ []) f.body)
  unfolding node_part
  node-function f = block_is None f.body

  pub node-statement : (x : Stmt) → node_part limit (statement x) ≡ stmt_part limit x.kind
  unfolding node_part stmt_part
  node-statement x = refl

  pub node-clause : (c : Clause) → node_part limit (clause c) ≡ last_from limit None (flat_map (λ s. statement s ∷ []) (out-Clause c).body)
  unfolding node_part
  node-clause c = block_is None (out-Clause c).body

  pub node-expression : (x : Expr) → node_part limit (expression x) ≡ expr_part limit x.kind
  unfolding node_part expr_part
  node-expression x = refl

pub ruleset expressions = (expr-NoneLit, expr-BoolLit, expr-IntLit, expr-StrLit, expr-Name, expr-ListLit, expr-TupleLit, expr-And, expr-Or, expr-DictLit, expr-Attr, expr-Index, expr-Slice, expr-Call, expr-Method, expr-Super, expr-Unary, expr-Not, expr-Binary, expr-Compare, expr-Cond)

pub ruleset statements = (stmt-Pass, stmt-Break, stmt-Continue, stmt-Return, stmt-Raise, stmt-Assert, stmt-Del, stmt-Assign, stmt-Augment, stmt-Bare, stmt-If, stmt-While, stmt-For, stmt-Try)

pub ruleset nodes_parts = (node-function, node-statement, node-clause, node-expression)
